-- Words written one after another over the start of a buffer. Assumes nothing.
use Rattle.std.proofs.Common.{◌≡◌, ℕ, ◌+◌, ◌<◌, ◌≤◌, List, [], ◌∷◌, ◌++◌, map, length, get_or, take, drop, set, sym, refl, ap, ◌∙◌, append_assoc, arith, length-append, length-take-le}
use Rattle.std.proofs.lemmas.List.{length-map, take_more, map-append}
use Rattle.walk.specs.declared.codes.Instr.{Instr}
use Rattle.walk.specs.Lay.{instr}

-- a buffer that begins so, and is as it was from there on
abbrev pub begun_with : List ℕ → List ℕ → List ℕ
begun_with front old = front ++ drop (length front) old

one-more : (front old : List ℕ) (v : ℕ) → length front < length old → set (begun_with front old) (length front) v ≡ begun_with (front ++ v ∷ []) old
one-more [] [] v h = absurd (omega arith)
one-more [] (x ∷ old) v h = refl
one-more (y ∷ front) [] v h = absurd (omega arith)
one-more (y ∷ front) (x ∷ old) v h = ap (λ l. y ∷ l) (one-more front old v (omega arith))

-- one word more of a part of an image, after what stands before that part
pub part-more : (f : Instr → ℕ) (head old buffer : List ℕ) (code : List Instr) (k place : ℕ) → k < length code → length head + length code ≤ length old → place ≡ length head + k → buffer ≡ begun_with (head ++ map f (take k code)) old → set buffer place (f (get_or code k (instr 0 0))) ≡ begun_with (head ++ map f (take (k + 1) code)) old
part-more f head old buffer code k place h room p e =
    let v : ℕ = f (get_or code k (instr 0 0)) in
    let front : List ℕ = head ++ map f (take k code) in
    let size : length front ≡ length head + k = omega (arith, length-append head (map f (take k code)), length-map (take k code) f, length-take-le k code (omega arith)) in
    let more : front ++ v ∷ [] ≡ head ++ map f (take (k + 1) code) =
    append_assoc head (map f (take k code)) (v ∷ []) ∙
    ap (λ r. head ++ r) (sym (map-append f (take k code) (get_or code k (instr 0 0) ∷ [])) ∙ ap (map f) (sym (take_more code k (instr 0 0) h))) in
    (λ i. set (e i) ((p ∙ sym size) i) v) ∙ one-more front old v (omega arith) ∙ ap (λ l. begun_with l old) more

-- Where a piece of code stands in the whole, and what is fetched there. Assumes nothing.
use Rattle.std.proofs.Common.{◌≡◌, ℕ, suc, ◌+◌, ◌<◌, List, [], ◌∷◌, ◌++◌, map, length, get_or, drop, sym, refl, ap, ◌∙◌, arith, length-append, length-drop, get_or-drop, drop-drop}
use lib.ListN.{length-map}
use lib.Seq.{drop-append_seam}
use Rattle.std.proofs.lemmas.List.{append_assoc, get_or_append_left, get_or-append-add, get_or-map}
use Rattle.std.proofs.lemmas.Bool.{lt-ltb, cond-true}
use Rattle.language.specs.declared.values.ValueType.{ValueType}
use Rattle.image.specs.Fetch.{code as code_at, operand as operand_at, fetched, decoded}
use Rattle.rules.specs.Translate.{Laid, image_of}
use Rattle.theory.specs.Runs.{header_for, place_at}

-- an instruction stands at a number
pub record Stands (code : List Laid) (p : ℕ) (i : Laid) : Type 0 where
  pub rest : List Laid
  pub here : drop p code ≡ i ∷ rest

-- a piece stands from a number on, and something after it
pub record Lies (code : List Laid) (p : ℕ) (piece : List Laid) : Type 0 where
  pub rest : List Laid
  pub here : drop p code ≡ piece ++ rest
  pub within : p + length piece < length code

-- a piece is as long as from one number to another
pub record Spans (p : ℕ) (piece : List Laid) (m : ℕ) : Type 0 where
  pub long : p + length piece ≡ m

pub span-one : (p : ℕ) (i : Laid) → Spans p (i ∷ []) (p + 1)
span-one p i = record { long = refl }

pub span_none : (p : ℕ) → Spans p [] p
span_none p = record { long = omega arith }

pub span-both : {p m n : ℕ} {xs ys : List Laid} → Spans p xs m → Spans m ys n → Spans p (xs ++ ys) n
span-both {xs} {ys} h k = record { long = omega (arith, length-append xs ys, h.long, k.long) }

pub lies-left : {code : List Laid} {p : ℕ} (xs ys : List Laid) → Lies code p (xs ++ ys) → Lies code p xs
lies-left xs ys h =
    record { rest = ys ++ h.rest; here = h.here ∙ append_assoc xs ys h.rest; within = omega (arith, length-append xs ys, h.within) }

pub lies-right : {code : List Laid} {p m : ℕ} (xs ys : List Laid) → Spans p xs m → Lies code p (xs ++ ys) → Lies code m ys
lies-right {code} {p} {m} xs ys e h =
    record {
      rest = h.rest;
      here = ap (λ k. drop k code) (sym e.long) ∙ sym (drop-drop (length xs) p code) ∙ ap (drop (length xs)) (h.here ∙ append_assoc xs ys h.rest) ∙ drop-append_seam xs (ys ++ h.rest);
      within = omega (arith, length-append xs ys, h.within, e.long);
    }

pub lies-one : {code : List Laid} {p : ℕ} {i : Laid} → Lies code p (i ∷ []) → Stands code p i
lies-one h = record { rest = h.rest; here = h.here }

-- where a piece ends, there is code
pub lies-end : {code : List Laid} {p m : ℕ} {xs : List Laid} → Spans p xs m → Lies code p xs → m < length code
lies-end e h = omega (arith, e.long, h.within)

module _ {code : List Laid} {p : ℕ} {i : Laid} (h : Stands code p i) where
  pub stands-below : p < length code
  stands-below = let n : length (drop p code) ≡ suc (length h.rest) = ap length h.here in omega (arith, length-drop p code)

  pub stands-is : (d : Laid) → get_or code p d ≡ i
  stands-is d = ap (λ k. get_or code k d) (omega arith) ∙ sym (get_or-drop p code 0 d) ∙ ap (λ l. get_or l 0 d) h.here

  pub place-there : place_at code p ≡ i.place
  place-there = get_or-map (λ (l : Laid). l.place) code p i 0 stands-below ∙ ap (λ (l : Laid). l.place) (stands-is i)

module _ {code : List Laid} {p : ℕ} {i : Laid} (result : ValueType) (h : Stands code p i) where
  pub code-there : code_at (image_of code result) p ≡ i.code
  code-there =
      let e : 2 + p ≡ suc (suc p) = omega arith in
      let n : p < length (map (λ (l : Laid). l.code) code) = omega (arith, stands-below h, length-map code (λ (l : Laid). l.code)) in
      ap (λ k. get_or (image_of code result) k 0) e ∙ get_or_append_left (map (λ (l : Laid). l.code) code) (map (λ (l : Laid). l.operand) code) 0 p n
      ∙ get_or-map (λ (l : Laid). l.code) code p i 0 (stands-below h) ∙ ap (λ (l : Laid). l.code) (stands-is h i)

  pub operand-there : operand_at (image_of code result) (header_for code result) p ≡ i.operand
  operand-there =
      let e : 2 + length code + p ≡ suc (suc (length (map (λ (l : Laid). l.code) code) + p)) = omega (arith, length-map code (λ (l : Laid). l.code)) in
      ap (λ k. get_or (image_of code result) k 0) e ∙ get_or-append-add (map (λ (l : Laid). l.code) code) (map (λ (l : Laid). l.operand) code) p 0
      ∙ get_or-map (λ (l : Laid). l.operand) code p i 0 (stands-below h) ∙ ap (λ (l : Laid). l.operand) (stands-is h i)

  -- what is fetched at a number is the decoding of the instruction laid there
  pub fetched-there : fetched (image_of code result) (header_for code result) p ≡ decoded (image_of code result) (header_for code result) i.code i.operand
  fetched-there =
      cond-true _ _ _ (lt-ltb p (length code) (stands-below h))
      ∙ (λ j. decoded (image_of code result) (header_for code result) (code-there j) (operand-there j))

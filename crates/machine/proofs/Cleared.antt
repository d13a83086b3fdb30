-- Unset cells in the place of a part. Assumes nothing.
use Rattle.std.proofs.Common.{◌≡◌, ℕ, zero, suc, ◌+◌, ◌-◌, ◌<◌, ◌≤◌, List, ◌∷◌, ◌++◌, length, take, drop, set, replicate, refl, ap, sym, ◌∙◌, drop-cons, length-drop, length-take-le, arith}
use Rattle.std.proofs.lemmas.List.{set-append_right}
use borrow.Rule.Slice.PartMut.{put_mid, put_same}
use Rattle.machine.specs.declared.cells.Cell.{Cell}
use Rattle.machine.specs.declared.cells.Cell.TheVariants.{Unset}
use Rattle.machine.specs.State.{cleared}

-- one more unset cell behind n of them
one_behind : (n : ℕ) (x : Cell) (rest : List Cell) → set (replicate n Unset ++ x ∷ rest) n Unset ≡ Unset ∷ (replicate n Unset ++ rest)
one_behind zero x rest = refl
one_behind (suc n) x rest = ap (λ l. Unset ∷ l) (one_behind n x rest)

pub cleared-is : (n : ℕ) (cells : List Cell) (from : ℕ) → from + n ≤ length cells → put_mid from n cells (replicate n Unset) ≡ cleared n cells from
cleared-is zero cells from h = put_same from 0 cells
cleared-is (suc n) cells from h =
    let here : n < length (drop from cells) = omega (arith, length-drop from cells) in
    let apart : n ≡ from + n - from = omega arith in
    ap (λ l. take from cells ++ l) (sym (ap (λ l. set (replicate n Unset ++ l) n Unset) (drop-cons (drop from cells) n Unset here) ∙ one_behind n _ _))
    ∙ ap (λ k. take from cells ++ set (replicate n Unset ++ drop n (drop from cells)) k Unset) apart
    ∙ sym (set-append_right (take from cells) (replicate n Unset ++ drop n (drop from cells)) from (from + n) Unset (length-take-le from cells (omega arith)) (omega arith))
    ∙ ap (λ l. set l (from + n) Unset) (cleared-is n cells from (omega arith))

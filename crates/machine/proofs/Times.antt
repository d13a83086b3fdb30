-- One turn of several. Assumes nothing.
use Rattle.std.proofs.Common.{◌≡◌, ℕ, suc, ◌+◌, ◌-◌, ◌<◌, List, get_or, take, drop, Ok, Err, Result, sym, ap, ◌∙◌, arith}
use Rattle.std.proofs.lemmas.List.{get_or-drop, get_or-take}
use Rattle.language.specs.declared.faults.Halt.{Halt}
use Rattle.machine.specs.declared.cells.Cell.{Cell}
use Rattle.machine.specs.declared.cells.Cell.TheVariants.{Unset}
use Rattle.machine.specs.Cells.{bind, times}
use Rattle.machine.specs.Frames.{at}

module _ {A : Type 0} (f : A → Result A Halt) (a : A) (n i : ℕ) (h : i < n) where
  one_more : n - i ≡ suc (n - (i + 1))
  one_more = omega arith

  -- a turn that goes on leaves one less
  pub times_goes : (b : A) → f a ≡ Ok b → times (n - i) f a ≡ times (n - (i + 1)) f b
  times_goes b e = ap (λ k. times k f a) one_more ∙ ap (λ r. bind r (times (n - (i + 1)) f)) e

  -- a turn that halts is the answer
  pub times-halts : (x : Halt) → f a ≡ Err x → times (n - i) f a ≡ Err x
  times-halts x e = ap (λ k. times k f a) one_more ∙ ap (λ r. bind r (times (n - (i + 1)) f)) e

-- what is asked of each of n cells from a place on
module _ {A : Type 0} (ask : Cell → Result A Halt) (cells : List Cell) (from n : ℕ) where
  -- of the cell at a place; on to the next
  abbrev pub turn : ℕ → Result ℕ Halt
  turn k = bind (ask (at cells k)) (λ _. Ok (k + 1))

  -- one of the n cells, as a loop over them reads it
  abbrev pub one : ℕ → Cell
  one i = get_or (take (from + n - from) (drop from cells)) i Unset

  asked-is : (i : ℕ) → i < n → turn (from + i) ≡ bind (ask (one i)) (λ _. Ok (from + i + 1))
  asked-is i h =
      ap (λ c. bind (ask c) (λ _. Ok (from + i + 1))) (sym (get_or-take (from + n - from) (drop from cells) i Unset (omega arith) ∙ get_or-drop from cells i Unset))

  pub each_goes : (i : ℕ) → i < n → (a : A) → Ok a ≡ ask (one i) → times (n - i) turn (from + i) ≡ times (n - (i + 1)) turn (from + (i + 1))
  each_goes i h a e =
      let next : from + i + 1 ≡ from + (i + 1) = omega arith in
      times_goes turn (from + i) n i h (from + (i + 1)) (asked-is i h ∙ ap (λ r. bind r (λ _. Ok (from + i + 1))) (sym e) ∙ ap Ok next)

  pub each_halts : (i : ℕ) → i < n → (x : Halt) → Err x ≡ ask (one i) → times (n - i) turn (from + i) ≡ Err x
  each_halts i h x e =
      times-halts turn (from + i) n i h x (asked-is i h ∙ ap (λ r. bind r (λ _. Ok (from + i + 1))) (sym e))

-- Whole runs, on whole cells and on the stack, and how they begin. Assumes nothing.
use Rattle.std.proofs.Common.{◌≡◌, ℕ, zero, suc, ◌+◌, ◌≤◌, Bool, true, false, cond, ltb, List, [], ◌∷◌, ◌++◌, reverse, length, take, drop, replicate, Ok, Err, Result, sym, refl, ap, ◌∙◌, subst, arith, length-append, length-drop, take-append-drop, length-take-le, drop-drop}
use lib.ListN.{length-replicate, length-reverse}
use Rattle.std.proofs.lemmas.List.{reverse-reverse}
use Rattle.std.proofs.lemmas.Bool.{ltb-false}
use Rattle.language.specs.declared.faults.Halt.{Halt}
use Rattle.language.specs.declared.faults.BeginRefusal.{BeginRefusal}
use Rattle.language.specs.declared.faults.BeginRefusal.TheVariants.{CellCount}
use Rattle.host.specs.Meaning.{Meaning}
use Rattle.host.specs.Serves.{by_meaning}
use Rattle.image.specs.declared.instruction.Header.{Header}
use Rattle.machine.specs.declared.cells.Cell.{Cell}
use Rattle.machine.specs.declared.cells.Cell.TheVariants.{Unset, Link}
use Rattle.machine.specs.Step.{stepped}
use Rattle.machine.specs.Step as marked
use Rattle.machine.specs.Run.{plus, onward, ran}
use Rattle.machine.specs.Begin.{begun}
use Rattle.machine.specs.Begin as begins
use Rattle.stack.specs.Stack.{Stack, Went, next, ended, step, then_run, run, beginning}
use Rattle.stack.specs.Stack as stacks
use Rattle.stack.specs.Law.{over, whole, spread, Shows, RunIsTheStacks, stack_of, StatesAreWhole, StepOfAnyState, RunOfAnyState, BeginningIsTheStacks, Told, told, AboveDoesNotMatter, from_begin, LeftoversDoNotMatter}
use Rattle.stack.proofs.Over.{length_over, over-is, cleared-over}
use Rattle.stack.proofs.Agree.{Agrees, agrees-next, agrees-spread, state-same}
use Rattle.stack.proofs.Steps.{step-agrees, step-is-the-stacks}

-- a stack laid over the cells leaves their number as it was
laid-length : (w s : List Cell) → length s ≤ length w → length (over s (drop (length s) w)) ≡ length w
laid-length w s h = omega (arith, length_over s (drop (length s) w), length-drop (length s) w)

module _ (words : List ℕ) (header : Header) where
  abbrev Goes : ℕ → ℕ → Type 0
  Goes limit n =
      (m : Meaning) (t : Stack) (junk : List Cell)
      → length (over t.cells junk) ≡ limit
      → Shows limit (run by_meaning words header limit n m t) (ran words header n m (whole t junk))

  -- on from a step
  onward-shows : (limit n : ℕ) (m : Meaning) (t : Stack) (junk : List Cell) → length (over t.cells junk) ≡ limit → Goes limit n → (r : Result marked.Went Halt) (q : Result (Went Meaning) Halt) → Agrees (over t.cells junk) r q → Shows limit (then_run q t m (run by_meaning words header limit n)) (onward r (whole t junk) m (ran words header n))
  onward-shows limit n m t junk l rest r (Ok (next t' m')) h =
      let a = agrees-next (over t.cells junk) r t' m' h in
      let z = rest m' t' (drop (length t'.cells) (over t.cells junk)) (laid-length (over t.cells junk) t'.cells a.1 ∙ l) in
      (z.0, ap (λ x. onward x (whole t junk) m (ran words header n)) a.0 ∙ ap (plus 1) z.1, z.2)
  onward-shows limit n m t junk l rest r (Ok (ended v)) h =
      (junk, ap (λ x. onward x (whole t junk) m (ran words header n)) (agrees-spread (over t.cells junk) r (Ok (ended v)) h), l)
  onward-shows limit n m t junk l rest r (Err e) h =
      (junk, ap (λ x. onward x (whole t junk) m (ran words header n)) (agrees-spread (over t.cells junk) r (Err e) h), l)

  shows : (n limit : ℕ) → Goes limit n
  shows zero limit m t junk l = (junk, refl, l)
  shows (suc n) limit m t junk l =
      onward-shows limit n m t junk l (shows n limit) (stepped words header m (whole t junk)) (step by_meaning words header limit m t)
      (subst (λ k. Agrees (over t.cells junk) (stepped words header m (whole t junk)) (step by_meaning words header k m t)) l (step-agrees words header m t junk))

pub run-is-the-stacks : RunIsTheStacks
run-is-the-stacks words header n m t junk = shows words header n (length (over t.cells junk)) m t junk refl

-- what a run tells, by the stack and the number of cells alone
abbrev told_by : stacks.Run Meaning → Told
told_by r = record { steps = r.steps; outcome = r.outcome; meaning = r.host }

pub above-does-not-matter : AboveDoesNotMatter
above-does-not-matter words header n m t junk junk' e =
    let limit = length (over t.cells junk) in
    let e' : length (over t.cells junk') ≡ limit = omega (arith, length_over t.cells junk, length_over t.cells junk') in
    ap told (shows words header n limit m t junk refl).1 ∙ sym (ap told (shows words header n limit m t junk' e').1)

-- any state
cells-are-whole : (n : ℕ) (cells : List Cell) → over (reverse (take n cells)) (drop n cells) ≡ cells
cells-are-whole n cells =
    over-is (reverse (take n cells)) (drop n cells) ∙ ap (λ l. l ++ drop n cells) (reverse-reverse (take n cells)) ∙ take-append-drop n cells

pub states-are-whole : StatesAreWhole
states-are-whole s h =
    state-same refl refl (sym (length-reverse (take s.top s.cells) ∙ length-take-le s.top s.cells h)) (sym (cells-are-whole s.top s.cells))

pub step-of-any-state : StepOfAnyState
step-of-any-state words header m s h =
    ap (stepped words header m) (states-are-whole s h)
    ∙ step-is-the-stacks words header m (stack_of s) (drop s.top s.cells)
    ∙ ap (λ k. spread k (step by_meaning words header (length k) m (stack_of s))) (cells-are-whole s.top s.cells)

pub run-of-any-state : RunOfAnyState
run-of-any-state words header n m s h =
    subst (λ z. Shows (length s.cells) (run by_meaning words header (length s.cells) n m (stack_of s)) (ran words header n m z)) (sym (states-are-whole s h))
    (shows words header n (length s.cells) m (stack_of s) (drop s.top s.cells) (ap length (cells-are-whole s.top s.cells)))

-- the beginning
abbrev program_links : ℕ → List Cell
program_links others = Link others ∷ Link 0 ∷ Link 0 ∷ Link 0 ∷ []

length-beginning : (others : ℕ) → length (beginning others).cells ≡ 4 + others
length-beginning others =
    omega (arith, length-append (replicate others Unset) (program_links others), length-replicate others Unset)

pub beginning-is-the-stacks : BeginningIsTheStacks
beginning-is-the-stacks others [] h = absurd (omega arith)
beginning-is-the-stacks others (a ∷ []) h = absurd (omega arith)
beginning-is-the-stacks others (a ∷ b ∷ []) h = absurd (omega arith)
beginning-is-the-stacks others (a ∷ b ∷ c ∷ []) h = absurd (omega arith)
beginning-is-the-stacks others (a ∷ b ∷ c ∷ d ∷ rest) h =
    state-same refl refl (sym (length-beginning others))
    (cleared-over others (program_links others) rest 4 refl (omega arith) ∙ ap (over (beginning others).cells) (drop-drop others 4 (a ∷ b ∷ c ∷ d ∷ rest)))

-- what a run tells that begins on so many cells
module _ (words : List ℕ) (header : Header) (n : ℕ) (m : Meaning) (others : ℕ) where
  abbrev stack_run : ℕ → stacks.Run Meaning
  stack_run limit = run by_meaning words header limit n m (beginning others)

  abbrev by_number : ℕ → Result Told BeginRefusal
  by_number limit = cond (ltb limit (4 + others)) (Err CellCount) (cond (ltb 65536 limit) (Err CellCount) (Ok (told_by (stack_run limit))))

  told-begun : (cells : List Cell) → 4 + others ≤ length cells → told (ran words header n m (begins.beginning others cells)) ≡ told_by (stack_run (length cells))
  told-begun cells h =
      ap (λ s. told (ran words header n m s)) (beginning-is-the-stacks others cells h)
      ∙ ap told (shows words header n (length cells) m (beginning others) (drop (4 + others) cells)
      (omega (arith, length_over (beginning others).cells (drop (4 + others) cells), length-drop (4 + others) cells, length-beginning others))).1

  by_number_lem : (cells : List Cell) → from_begin words header n m (begun others cells) ≡ by_number (length cells)
  by_number_lem cells = go (ltb (length cells) (4 + others)) (ltb 65536 (length cells)) (ltb-false (length cells) (4 + others))
    where
      go : (x y : Bool) → (x ≡ false → 4 + others ≤ length cells) → from_begin words header n m (cond x (Err CellCount) (cond y (Err CellCount) (Ok (begins.beginning others cells)))) ≡ cond x (Err CellCount) (cond y (Err CellCount) (Ok (told_by (stack_run (length cells)))))
      go true y h = refl
      go false true h = refl
      go false false h = ap Ok (told-begun cells (h refl))

pub leftovers-do-not-matter : LeftoversDoNotMatter
leftovers-do-not-matter words header n m others cells cells' e =
    by_number_lem words header n m others cells ∙ ap (by_number words header n m others) e ∙ sym (by_number_lem words header n m others cells')

-- One turn of a run. Assumes nothing.
use Rattle.std.proofs.Common.{◌≡◌, ℕ, suc, ◌+◌, ◌-◌, ◌<◌, List, Ok, Err, Option, Result, sym, ap, ◌∙◌, add-zero, add_assoc, arith}
use Rattle.language.specs.declared.faults.Halt.{Halt}
use Rattle.language.specs.declared.values.Value.{Value}
use Rattle.host.specs.Meaning.{Meaning}
use Rattle.image.specs.declared.instruction.Header.{Header}
use Rattle.machine.specs.declared.cells.Cell.{Cell}
use Rattle.machine.specs.declared.registers.Machine.{Machine}
use Rattle.machine.specs.declared.registers.Flow.{Flow}
use Rattle.machine.specs.declared.registers.Flow.TheVariants.{Next, Ended}
use Rattle.machine.specs.declared.registers.Outcome.TheVariants.{Finished, Halted}
use Rattle.machine.specs.declared.registers.Ran.{Ran}
use Rattle.machine.specs.State.{State, state}
use Rattle.machine.specs.Step.{Went, next, ended, stepped, Stands, LeftStep}
use Rattle.machine.specs.Run.{Run, plus, onward, ran, IsRun}

-- the state that the code's machine and cells stand for
stands-is : (s : State) (m : Machine) (cells : List Cell) → Stands s m cells → s ≡ state m cells
stands-is s m cells h =
    λ i. record { counter = sym h.0 i; base = sym h.1 i; top = sym h.2 i; cells = sym h.3 i }

-- what one step leaves, and where the run goes on from
module _ (s : State) (before : Meaning) (m : Machine) (cells : List Cell) (after : Meaning) (rest : Meaning → State → Run) where
  pub goes : (w : Result Went Halt) (flow : Flow) → flow ≡ Next → LeftStep w (Ok flow) s before m cells after → onward w s before rest ≡ plus 1 (rest after (state m cells))
  goes (Ok (next s' m')) flow e h = λ i. plus 1 (rest (sym h.2 i) (stands-is s' m cells h.1 i))
  goes (Ok (ended v)) flow e h =
      let q = h.0 in
      let z : ◌≡◌ {A = ℕ} 0 1 = cc in
      absurd (omega arith)
  goes (Err x) flow e h =
      let q = h.0 in
      let z : ◌≡◌ {A = ℕ} 0 1 = cc in
      absurd (omega arith)

  pub ends : (w : Result Went Halt) (flow : Flow) (v : Option Value) → flow ≡ Ended v → LeftStep w (Ok flow) s before m cells after → onward w s before rest ≡ record { steps = 1; outcome = Finished v; state = state m cells; meaning = after }
  ends (Ok (next s' m')) flow v e h =
      let q = h.0 in
      let z : ◌≡◌ {A = ℕ} 0 1 = cc in
      absurd (omega arith)
  ends (Ok (ended u)) flow v e h =
      let q = h.0 in
      let same : u ≡ v = cc in
      λ i. record { steps = 1; outcome = Finished (same i); state = stands-is s m cells h.1 i; meaning = sym h.2 i }
  ends (Err x) flow v e h =
      let q = h.0 in
      let z : ◌≡◌ {A = ℕ} 0 1 = cc in
      absurd (omega arith)

  pub halts : (w : Result Went Halt) (x : Halt) → LeftStep w (Err x) s before m cells after → onward w s before rest ≡ record { steps = 0; outcome = Halted x m.counter; state = state m cells; meaning = after }
  halts (Ok (next s' m')) x h =
      let q = h.0 in
      let z : ◌≡◌ {A = ℕ} 0 1 = cc in
      absurd (omega arith)
  halts (Ok (ended u)) x h =
      let q = h.0 in
      let z : ◌≡◌ {A = ℕ} 0 1 = cc in
      absurd (omega arith)
  halts (Err y) x h =
      let q = h.0 in
      let same : y ≡ x = cc in
      λ i. record { steps = 0; outcome = Halted (same i) (sym h.1.0 i); state = stands-is s m cells h.1 i; meaning = sym h.2 i }

plus-plus : (a b : ℕ) (r : Run) → plus a (plus b r) ≡ plus (a + b) r
plus-plus a b r =
    λ i. record { steps = sym (add_assoc a b r.steps) i; outcome = r.outcome; state = r.state; meaning = r.meaning }

-- a run that is known, as the code answers it
is-run : (r : Run) (answer : Ran) (m : Machine) (cells : List Cell) (meaning : Meaning) → r ≡ record { steps = answer.steps; outcome = answer.outcome; state = state m cells; meaning = meaning } → IsRun r answer m cells meaning
is-run r answer m cells meaning e = (
  ap (λ x. x.steps) (sym e),
  ap (λ x. x.outcome) (sym e),
  (
    ap (λ x. x.state.counter) (sym e),
    ap (λ x. x.state.base) (sym e),
    ap (λ x. x.state.top) (sym e),
    ap (λ x. x.state.cells) (sym e),
  ),
  ap (λ x. x.meaning) (sym e),
)

-- after i of n steps the run stands at s and m; one more leaves the code's machine and cells, and the host at a meaning
module _ (words : List ℕ) (header : Header) (n i : ℕ) (h : i < n) (m₀ : Meaning) (s₀ : State) (m : Meaning) (s : State) (inv : ran words header n m₀ s₀ ≡ plus i (ran words header (n - i) m s)) (machine : Machine) (cells : List Cell) (after : Meaning) where
  one_more : n - i ≡ suc (n - (i + 1))
  one_more = omega arith

  turn : ran words header n m₀ s₀ ≡ plus i (onward (stepped words header m s) s m (ran words header (n - (i + 1))))
  turn = inv ∙ ap (λ k. plus i (ran words header k m s)) one_more

  pub run-goes : (flow : Flow) → flow ≡ Next → LeftStep (stepped words header m s) (Ok flow) s m machine cells after → ran words header n m₀ s₀ ≡ plus (i + 1) (ran words header (n - (i + 1)) after (state machine cells))
  run-goes flow e left =
      turn ∙ ap (plus i) (goes s m machine cells after (ran words header (n - (i + 1))) (stepped words header m s) flow e left) ∙ plus-plus i 1 (ran words header (n - (i + 1)) after (state machine cells))

  pub run_ends : (flow : Flow) (v : Option Value) → flow ≡ Ended v → LeftStep (stepped words header m s) (Ok flow) s m machine cells after → IsRun (ran words header n m₀ s₀) (record { steps = i + 1; outcome = Finished v }) machine cells after
  run_ends flow v e left =
      is-run _ _ _ _ _ (turn ∙ ap (plus i) (ends s m machine cells after (ran words header (n - (i + 1))) (stepped words header m s) flow v e left))

  pub run-halts : (x : Halt) → LeftStep (stepped words header m s) (Err x) s m machine cells after → IsRun (ran words header n m₀ s₀) (record { steps = i; outcome = Halted x machine.counter }) machine cells after
  run-halts x left =
      is-run _ _ _ _ _ (turn ∙ ap (plus i) (halts s m machine cells after (ran words header (n - (i + 1))) (stepped words header m s) x left) ∙ (λ j. record { steps = add-zero i j; outcome = Halted x machine.counter; state = state machine cells; meaning = after }))

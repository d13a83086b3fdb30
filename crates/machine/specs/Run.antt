-- A run of the marked machine with an allowance. Assumes nothing.
use Rattle.std.specs.Prelude.{◌≡◌, ℕ, zero, suc, ◌+◌, List, Ok, Err, Result}
use Rattle.language.specs.declared.faults.Halt.{Halt}
use Rattle.host.specs.Meaning.{Meaning}
use Rattle.image.specs.declared.instruction.Header.{Header}
use Rattle.machine.specs.declared.cells.Cell.{Cell}
use Rattle.machine.specs.declared.registers.Machine.{Machine}
use Rattle.machine.specs.declared.registers.Outcome.{Outcome}
use Rattle.machine.specs.declared.registers.Outcome.TheVariants.{Paused, Finished, Halted}
use Rattle.machine.specs.declared.registers.Ran.{Ran}
use Rattle.machine.specs.State.{State}
use Rattle.machine.specs.Step.{Went, next, ended, stepped, Stands}

-- how many steps were carried out, how it came out, and what machine, cells and host then are
pub record Run : Type 0 where
  pub steps : ℕ
  pub outcome : Outcome
  pub state : State
  pub meaning : Meaning

-- so many steps before it
abbrev pub plus : ℕ → Run → Run
plus n r = record { steps = n + r.steps; outcome = r.outcome; state = r.state; meaning = r.meaning }

-- on from a step: an end is a step, a halt is none and names its code's number
abbrev pub onward : Result Went Halt → State → Meaning → (Meaning → State → Run) → Run
onward (Ok (next s' m')) s m rest = plus 1 (rest m' s')
onward (Ok (ended v)) s m rest = record { steps = 1; outcome = Finished v; state = s; meaning = m }
onward (Err h) s m rest = record { steps = 0; outcome = Halted h s.counter; state = s; meaning = m }

-- a run pauses once its allowance is used up, before it looks at the next instruction
abbrev pub ran : List ℕ → Header → ℕ → Meaning → State → Run
ran words header zero m s = record { steps = 0; outcome = Paused; state = s; meaning = m }
ran words header (suc n) m s = onward (stepped words header m s) s m (ran words header n)

-- what the code answers and leaves is that run
abbrev pub IsRun : Run → Ran → Machine → List Cell → Meaning → Type 0
IsRun r answer m cells meaning =
    (answer.steps ≡ r.steps) × (answer.outcome ≡ r.outcome) × Stands r.state m cells × (meaning ≡ r.meaning)

-- The state that a context holds, and what an instruction makes of a context. Assumes nothing.
use Rattle.std.specs.Prelude.{◌≡◌, Result}
use Rattle.language.specs.declared.faults.Halt.{Halt}
use Rattle.machine.specs.declared.context.Context.{Context}
use Rattle.machine.specs.declared.registers.Flow.{Flow}
use Rattle.machine.specs.State.{State, Does, state}

-- the machine of a context with its cells
abbrev pub state_of : Context → State
state_of c = state c.machine c.cells.now

-- the cells are those that were lent before, whatever they hold
abbrev pub SameCells : Context → Context → Type 0
SameCells before after = after.cells.ghost_name ≡ before.cells.ghost_name

-- an instruction's contract on a context: what it makes of the state that it finds is what it leaves, on the same cells
abbrev pub Makes : (State → Result State Halt) → Context → Result Flow Halt → Context → Type 0
Makes f before r after = Does f before.machine before.cells.now r after.machine after.cells.now × SameCells before after

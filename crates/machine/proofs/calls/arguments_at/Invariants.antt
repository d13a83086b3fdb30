use Rattle.std.proofs.Common.{◌≡◌, ◌+◌, ◌-◌, Ok}
use Rattle.machine.specs.Cells.{times}
use Rattle.machine.specs.Frames.{at, present_at, value_at}
use Rattle.machine.proofs.calls.arguments_at.Given as goal

abbrev pub invariant-loop-cell : goal.invariant-loop-cell
invariant-loop-cell l =
    times l.count (present_at (at l.cells)) l.from ≡ times (l.count - l.cell-index) (present_at (at l.cells)) (l.from + l.cell-index)

abbrev pub invariant-loop-cell-2 : goal.invariant-loop-cell-2
invariant-loop-cell-2 l =
    (times l.count (present_at (at l.cells)) l.from ≡ Ok (l.from + l.count)) × (times l.count (value_at (at l.cells)) l.from ≡ times (l.count - l.cell-index) (value_at (at l.cells)) (l.from + l.cell-index))

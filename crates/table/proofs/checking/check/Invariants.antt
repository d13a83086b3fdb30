use Rattle.std.proofs.Common.{ℕ, ◌<◌}
use Rattle.table.specs.Listed.{Listed}
use Rattle.table.proofs.checking.check.Given as goal

-- every node below is as listed
abbrev pub invariant-loop-i : goal.invariant-loop-i
invariant-loop-i l = (j : ℕ) → j < l.i → Listed l.nodes j

use Rattle.std.proofs.Common.{vec_items}
use Rattle.script.specs.Nodes.{FirstFives}
use Rattle.script.proofs.nodes.nodes.Given as goal

abbrev pub invariant-loop-five : goal.invariant-loop-five
invariant-loop-five l = FirstFives l.fn.words l.five-index (vec_items l.nodes)

-- Measures: four times the nodes remaining, with something more where a call keeps its node.
use Rattle.std.proofs.Common.{◌+◌, ◌-◌, ◌*◌, length}
use Rattle.walk.proofs.Along.{ArgumentsSoFar, RowSoFar}
use Rattle.walk.proofs.contexts.Context.+expressions_and_statements.Given as goal

abbrev pub decreases-arguments : goal.decreases-arguments
decreases-arguments l = 4 * (length l.self.now.nodes.now - l.from) + 2

abbrev pub decreases-assignment : goal.decreases-assignment
decreases-assignment l = 4 * (length l.self.now.nodes.now - l.i)

abbrev pub decreases-block : goal.decreases-block
decreases-block l = 4 * (length l.self.now.nodes.now - l.i)

abbrev pub decreases-call_statement : goal.decreases-call_statement
decreases-call_statement l = 4 * (length l.self.now.nodes.now - l.i) + 1

abbrev pub decreases-choice : goal.decreases-choice
decreases-choice l = 4 * (length l.self.now.nodes.now - l.i)

abbrev pub decreases-conditional : goal.decreases-conditional
decreases-conditional l = 4 * (length l.self.now.nodes.now - l.i) + 1

abbrev pub decreases-expression : goal.decreases-expression
decreases-expression l = 4 * (length l.self.now.nodes.now - l.i) + 1

abbrev pub decreases-if_else : goal.decreases-if_else
decreases-if_else l = 4 * (length l.self.now.nodes.now - l.i)

abbrev pub decreases-if_then : goal.decreases-if_then
decreases-if_then l = 4 * (length l.self.now.nodes.now - l.i)

abbrev pub decreases-invoke : goal.decreases-invoke
decreases-invoke l = 4 * (length l.self.now.nodes.now - l.i)

abbrev pub decreases-negation : goal.decreases-negation
decreases-negation l = 4 * (length l.self.now.nodes.now - l.i)

abbrev pub decreases-operation : goal.decreases-operation
decreases-operation l = 4 * (length l.self.now.nodes.now - l.i)

abbrev pub decreases-statement : goal.decreases-statement
decreases-statement l = 4 * (length l.self.now.nodes.now - l.i) + 2

abbrev pub decreases-statements : goal.decreases-statements
decreases-statements l = 4 * (length l.self.now.nodes.now - l.from) + 3

abbrev pub decreases-value_block : goal.decreases-value_block
decreases-value_block l = 4 * (length l.self.now.nodes.now - l.i)

abbrev pub invariant-arguments-loop-at : goal.invariant-arguments-loop-at
invariant-arguments-loop-at l =
    ArgumentsSoFar l.self l.set l.initial.code l.from l.stop l.initial.tally l.at-iterator l.tally l.code

abbrev pub invariant-statements-loop-at : goal.invariant-statements-loop-at
invariant-statements-loop-at l =
    RowSoFar l.self l.set l.initial.code l.from l.stop l.at-iterator l.flags l.code

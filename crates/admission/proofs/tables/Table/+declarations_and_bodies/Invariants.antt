-- Measures: six times the nodes remaining, with something more where a call keeps its node.
use Rattle.std.proofs.Common.{◌+◌, ◌-◌, ◌*◌, length}
use Rattle.admission.proofs.Progress.{DeclarationsSoFar}
use Rattle.admission.proofs.tables.Table.+declarations_and_bodies.Given as goal

abbrev pub decreases-body : goal.decreases-body
decreases-body l = 6 * (length l.self.nodes.now - l.i)

abbrev pub decreases-declaration : goal.decreases-declaration
decreases-declaration l = 6 * (length l.self.nodes.now - l.i) + 3

abbrev pub decreases-declarations : goal.decreases-declarations
decreases-declarations l = 6 * (length l.self.nodes.now - l.from) + 4

abbrev pub decreases-enclosed : goal.decreases-enclosed
decreases-enclosed l = 6 * (length l.self.nodes.now - l.i) + 1

abbrev pub decreases-function : goal.decreases-function
decreases-function l = 6 * (length l.self.nodes.now - l.i) + 2

abbrev pub decreases-inside : goal.decreases-inside
decreases-inside l = 6 * (length l.self.nodes.now - l.from) + 5

abbrev pub invariant-declarations-loop-at : goal.invariant-declarations-loop-at
invariant-declarations-loop-at l =
    DeclarationsSoFar l.self.nodes.now l.initial.names l.initial.code l.from l.stop l.at-iterator l.names l.code

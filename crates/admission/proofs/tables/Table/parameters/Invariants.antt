use Rattle.admission.proofs.Progress.{ParametersSoFar}
use Rattle.admission.proofs.tables.Table.parameters.Given as goal

abbrev pub invariant-loop-at : goal.invariant-loop-at
invariant-loop-at l = ParametersSoFar l.self.nodes.now l.initial.names l.from l.stop l.at-iterator l.names

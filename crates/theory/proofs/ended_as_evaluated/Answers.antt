use Rattle.theory.proofs.Runs.{ended-as-evaluated}
use Rattle.theory.proofs.ended_as_evaluated.Goals as goal

pub returns : goal.returns
returns c = ended-as-evaluated

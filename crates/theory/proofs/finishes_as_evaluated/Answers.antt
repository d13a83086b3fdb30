use Rattle.theory.proofs.Runs.{finishes-as-evaluated}
use Rattle.theory.proofs.finishes_as_evaluated.Goals as goal

pub returns : goal.returns
returns c = finishes-as-evaluated

use Rattle.theory.proofs.Runs.{stops-as-evaluated}
use Rattle.theory.proofs.stops_as_evaluated.Goals as goal

pub returns : goal.returns
returns c = stops-as-evaluated

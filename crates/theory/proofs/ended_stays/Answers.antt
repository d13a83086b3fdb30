use Rattle.theory.proofs.Runs.{ended-run-stays}
use Rattle.theory.proofs.ended_stays.Goals as goal

pub returns : goal.returns
returns c = ended-run-stays

use Rattle.causes.proofs.Stops.{stopped-for-a-cause}
use Rattle.causes.proofs.stopped_for_a_cause.Goals as goal

pub returns : goal.returns
returns c = stopped-for-a-cause

use Rattle.theory.proofs.Runs.{deeper-same}
use Rattle.theory.proofs.deeper_same.Goals as goal

pub returns : goal.returns
returns c = deeper-same

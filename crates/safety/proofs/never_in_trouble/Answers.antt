use Rattle.safety.proofs.Whole.{safe}
use Rattle.safety.proofs.never_in_trouble.Goals as goal

pub returns : goal.returns
returns c = safe

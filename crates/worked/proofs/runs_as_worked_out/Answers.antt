use Rattle.std.proofs.Common.{refl}
use Rattle.worked.proofs.runs_as_worked_out.Goals as goal

pub returns : goal.returns
returns c = (refl, refl, refl, refl, refl, refl, refl)

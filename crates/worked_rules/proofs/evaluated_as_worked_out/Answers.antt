use Rattle.std.proofs.Common.{refl}
use Rattle.worked_rules.proofs.evaluated_as_worked_out.Goals as goal

pub returns : goal.returns
returns c = (refl, refl, refl, refl, refl, refl, refl, refl, refl, refl, refl, refl, refl, refl, refl, refl, refl, refl, refl, refl, refl, refl, refl)

use Rattle.table.proofs.Proved.{listed-just-when-laid-out}
use Rattle.table.proofs.theorems.listed_just_when_laid_out.Goals as goal

pub returns : goal.returns
returns c = listed-just-when-laid-out

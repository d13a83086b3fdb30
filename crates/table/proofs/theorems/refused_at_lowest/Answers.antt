use Rattle.table.proofs.Proved.{refused-at-lowest}
use Rattle.table.proofs.theorems.refused_at_lowest.Goals as goal

pub returns : goal.returns
returns c = refused-at-lowest

use Rattle.table.proofs.Proved.{one-tree}
use Rattle.table.proofs.theorems.laid_out_by_one_tree.Goals as goal

pub returns : goal.returns
returns c = one-tree

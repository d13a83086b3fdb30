use Rattle.table.proofs.Proved.{one_answer}
use Rattle.table.proofs.theorems.answered_once.Goals as goal

pub returns : goal.returns
returns c = one_answer

use Rattle.calls_worked.proofs.Cased.{worked}
use Rattle.calls_worked.proofs.rule_sets_as_worked_out.Goals as goal

pub returns : goal.returns
returns c = worked

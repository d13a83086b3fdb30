use Rattle.calls_worked.proofs.Worked.{worked}
use Rattle.calls_worked.proofs.sample_has_its_run.Goals as goal

pub returns : goal.returns
returns c = worked

use Rattle.theory.proofs.Runs.{some-allowance-ends}
use Rattle.theory.proofs.some_allowance_ends.Goals as goal

pub returns : goal.returns
returns c = some-allowance-ends

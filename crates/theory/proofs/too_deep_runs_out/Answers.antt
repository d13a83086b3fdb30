use Rattle.theory.proofs.Runs.{too-deep-runs-out}
use Rattle.theory.proofs.too_deep_runs_out.Goals as goal

pub returns : goal.returns
returns c = too-deep-runs-out

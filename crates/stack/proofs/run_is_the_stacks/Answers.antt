use Rattle.stack.proofs.Runs.{beginning-is-the-stacks, run-is-the-stacks, run-of-any-state}
use Rattle.stack.proofs.run_is_the_stacks.Goals as goal

pub returns : goal.returns
returns c = record { beginning = beginning-is-the-stacks; run = run-is-the-stacks; any = run-of-any-state }

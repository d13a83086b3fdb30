use Rattle.stack.proofs.Steps.{step-is-the-stacks}
use Rattle.stack.proofs.Runs.{states-are-whole, step-of-any-state}
use Rattle.stack.proofs.step_is_the_stacks.Goals as goal

pub returns : goal.returns
returns c = record { whole = states-are-whole; step = step-is-the-stacks; any = step-of-any-state }

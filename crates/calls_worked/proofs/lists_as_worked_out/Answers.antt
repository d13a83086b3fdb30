use Rattle.calls_worked.proofs.Listed.{cut-as-you-like, too-few-cells, leftovers-make-no-difference}
use Rattle.calls_worked.proofs.lists_as_worked_out.Goals as goal

pub returns : goal.returns
returns c = record { cut = cut-as-you-like; few = too-few-cells; leftovers = leftovers-make-no-difference }

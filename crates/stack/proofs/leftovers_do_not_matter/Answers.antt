use Rattle.stack.proofs.Runs.{above-does-not-matter, leftovers-do-not-matter}
use Rattle.stack.proofs.leftovers_do_not_matter.Goals as goal

pub returns : goal.returns
returns c = record { above = above-does-not-matter; begin = leftovers-do-not-matter }

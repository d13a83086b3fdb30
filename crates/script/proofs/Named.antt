-- A word whose bytes were read is that word. Assumes nothing.
use Rattle.std.proofs.Common.{◌≡◌, ℕ, List, length, Result}
use Rattle.std.specs.Prelude.{ok_or}
use Rattle.std.proofs.lemmas.Slice.Eq.{text_from_reads, HasBytesAt}
use Rattle.script.specs.declared.problem.Problem.{Problem}
use Rattle.script.specs.declared.problem.Problem.TheVariants.{UnknownWord}
use Rattle.script.specs.declared.command.Verb.{Verb}
use Rattle.script.specs.Commands.{verb_of}

pub named : (p s : List ℕ) (r : Result Verb Problem) → r ≡ ok_or (verb_of p) UnknownWord → length s ≡ length p → HasBytesAt s 0 p → r ≡ ok_or (verb_of s) UnknownWord
named p s r e l b = rw (text_from_reads s p l b) e

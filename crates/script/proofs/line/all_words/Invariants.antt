use Rattle.std.proofs.Common.{◌≡◌, vec_items}
use Rattle.script.specs.Commands.{all_words}
use Rattle.script.specs.Words.{words}
use Rattle.script.proofs.Lists.{before}
use Rattle.script.proofs.line.all_words.Given as goal

abbrev pub invariant-loop-name : goal.invariant-loop-name
invariant-loop-name l =
    (goal.iterator-loop-name).can_next l.name-iterator
    × (goal.iterator-loop-name).is_finite l.name-iterator
    × (all_words (words l.fn.line.text.now) ≡ before (vec_items l.numbers) (all_words (words l.name-iterator.text.now)))

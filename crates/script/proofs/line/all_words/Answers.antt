use Rattle.std.proofs.Common.{vec_items, inr}
use Rattle.std.proofs.lemmas.Result.{err_from_is_err_and}
use Rattle.script.specs.Commands.{all_words}
use Rattle.script.specs.Words.{words}
use Rattle.script.proofs.Lists.{broken}
use Rattle.script.proofs.line.all_words.Goals as goal

pub returns-in_err-word : goal.returns-in_err-word
returns-in_err-word c =
    let p = err_from_is_err_and c.from_residual.result c.from_residual.ensures.1 in
    rw (p.1, p.2) (inr (broken _ _ _ _ _ _ c.loop-name.invariant.2 c.in-Some.ensures.steps c.in_err-word.ensures))

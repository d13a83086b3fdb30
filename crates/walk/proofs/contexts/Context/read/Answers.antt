use Rattle.std.proofs.Common.{Ok, sym, ap, ◌∙◌}
use Rattle.std.proofs.lemmas.Result.{err_from_is_err_and}
use Rattle.walk.specs.Lay.{live, laid}
use Rattle.walk.proofs.Exits.{goes, breaks}
use Rattle.walk.proofs.Seen.{reading-seen}
use Rattle.walk.proofs.contexts.Context.read.Goals as goal

pub returns-in_err-variable-clause-answer : goal.returns-in_err-variable-clause-answer
returns-in_err-variable-clause-answer c =
    let q = err_from_is_err_and c.from_residual-in_err-variable.result c.from_residual-in_err-variable.ensures.1 in
    rw (q.1, q.2) (reading-seen c.args.self.now c.args.node.place c.args.node.value c.in_ok-k.k c.args.set.now.set (live c.args.code.now) c.in_ok-k.ensures.answer c.in_ok-k.ensures.within (c.in_err-variable.ensures c.args.self.now.nodes.now))

pub returns-in_err-must_be_set-clause-answer : goal.returns-in_err-must_be_set-clause-answer
returns-in_err-must_be_set-clause-answer c =
    let q = err_from_is_err_and c.from_residual-in_err-must_be_set.result c.from_residual-in_err-must_be_set.ensures.1 in
    rw (q.1, q.2) (
    reading-seen c.args.self.now c.args.node.place c.args.node.value c.in_ok-k.k c.args.set.now.set (live c.args.code.now) c.in_ok-k.ensures.answer c.in_ok-k.ensures.within (c.in_ok-variable.ensures c.args.self.now.nodes.now) ∙
    breaks _ (sym c.in_err-must_be_set.ensures))

pub returns-clause-answer : goal.returns-clause-answer
returns-clause-answer c =
    reading-seen c.args.self.now c.args.node.place c.args.node.value c.in_ok-k.k c.args.set.now.set (live c.args.code.now) c.in_ok-k.ensures.answer c.in_ok-k.ensures.within (c.in_ok-variable.ensures c.args.self.now.nodes.now) ∙
    goes _ (sym c.in_ok-must_be_set.ensures) ∙
    ap (λ s. Ok (c.in_ok-variable.variable.typed, s)) (sym (c.lay.ensures.code ∙ ap (λ x. laid (live c.args.code.now) 3 x) c.operand.ensures))

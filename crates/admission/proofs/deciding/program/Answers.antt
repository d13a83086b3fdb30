use Rattle.std.proofs.Common.{length, Ok, sym, ap, ◌∙◌}
use Rattle.std.proofs.lemmas.Result.{err_from_is_err_and}
use Rattle.walk.specs.Lay.{live, laid}
use Rattle.admission.proofs.Whole.{members, outermost-is, program-refused, program-done}
use Rattle.admission.proofs.deciding.program.Goals as goal

pub inside-requires-clause-tree : goal.inside-requires-clause-tree
inside-requires-clause-tree c =
    let v = c.requires.tree in
    let m = members c.args.nodes.now (length c.args.nodes.now) v.0 v.1 v.2 in (m.0, m.1, m.2, m.3)

pub returns-in_err-result : goal.returns-in_err-result
returns-in_err-result c =
    let q = err_from_is_err_and c.from_residual.result c.from_residual.ensures.1 in
    let h = c.hosts-names.ensures in
    rw (q.1, q.2)
    (program-refused c.args.nodes.now c.hosts-names.result c.args.code.now c.requires.bare
    (outermost-is c.args.nodes.now c.hosts-names.result h.entries h.height h.level h.floor h.slots h.flags) c.in_err-result.field-0.0 c.in_err-result.ensures.answer)

pub returns : goal.returns
returns c = λ p l end.
    let h = c.hosts-names.ensures in
    program-done c.args.nodes.now c.hosts-names.result c.args.code.now c.requires.bare
    (outermost-is c.args.nodes.now c.hosts-names.result h.entries h.height h.level h.floor h.slots h.flags)
    c.in_ok-result.result (live c.inside.new.code) c.in_ok-result.ensures.answer p l end ∙
    ap (λ x. Ok (c.in_ok-result.result, x)) (ap (λ n. laid (live c.inside.new.code) 27 n) (sym c.gives.ensures) ∙ sym c.lay.ensures.code)

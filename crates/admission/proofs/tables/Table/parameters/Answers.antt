use Rattle.std.proofs.Common.{◌≡◌, arith, rules}
use Rattle.std.proofs.lemmas.Result.{err_from_is_err_and}
use Rattle.table.specs.declared.kinds.Class.TheVariants as classes
use Rattle.table.specs.Kinds.{kind_at, class_or}
use Rattle.table.specs.Layout.{of_parameters, of_body}
use Rattle.table.specs.Layout.Branches.{nil, cons}
use Rattle.walk.proofs.Along.{a-child, no-child}
use Rattle.admission.proofs.Progress.{body-ahead, run-out, parameters-end, parameters-refused, parameters-on}
use Rattle.admission.proofs.tables.Table.parameters.Goals as goal

pub returns-then-ne : goal.returns-then-ne
returns-then-ne c =
    let inv = c.loop-at.invariant in
    let k = a-child c.loop-at.at-iterator c.next.new.self inv.over (c.in-Some.at, c.in-Some.node) c.in-Some.ensures.steps in
    let n : class_or (kind_at c.in-Some.node.kind) ≡ classes.Parameter → ⊥ = λ e. search rules in
    record {
      answer = parameters-end c.args.self.nodes.now c.args.names.now c.args.from c.args.stop c.loop-at.at-iterator c.next.new.self (c.in-Some.at, c.in-Some.node) c.loop-at.names inv k n;
      widened = inv.widened;
      on = omega arith;
    }

pub returns-in_err-declare-clause-answer : goal.returns-in_err-declare-clause-answer
returns-in_err-declare-clause-answer c =
    let q = err_from_is_err_and c.from_residual.result c.from_residual.ensures.1 in
    let inv = c.loop-at.invariant in
    let k = a-child c.loop-at.at-iterator c.next.new.self inv.over (c.in-Some.at, c.in-Some.node) c.in-Some.ensures.steps in
    let s : class_or (kind_at c.in-Some.node.kind) ≡ classes.Parameter = search rules in
    rw (q.1, q.2) (λ qs b l. (parameters-refused c.args.self.nodes.now c.args.names.now c.args.from c.args.stop c.loop-at.at-iterator c.next.new.self (c.in-Some.at, c.in-Some.node) c.loop-at.names inv k s c.in_err-declare.field-0.0 (c.in_err-declare.ensures.answer c.args.self.nodes.now) qs b l, tt))

pub loop-at-preserved : goal.loop-at-preserved
loop-at-preserved c =
    let inv = c.loop-at.invariant in
    let k = a-child c.loop-at.at-iterator c.next.new.self inv.over (c.in-Some.at, c.in-Some.node) c.in-Some.ensures.steps in
    let s : class_or (kind_at c.in-Some.node.kind) ≡ classes.Parameter = search rules in
    parameters-on c.args.self.nodes.now c.args.names.now c.args.from c.args.stop c.loop-at.at-iterator c.next.new.self (c.in-Some.at, c.in-Some.node) c.loop-at.names inv k s c.declare.new.self (search rules) c.in_ok-declare.ensures.widened

pub returns : goal.returns
returns c =
    let inv = c.loop-at.invariant in
    let n = no-child c.loop-at.at-iterator c.next.new.self inv.over c.in-None.ensures.steps in
    let w = inv.onward c.requires.0 c.requires.1 c.requires.2 in
    let e = run-out (of_parameters w.0 (cons (of_body c.requires.1) nil)) c.args.self.nodes.now c.loop-at.at-iterator.at c.args.stop n w.1 in
    absurd (omega (arith, body-ahead c.args.self.nodes.now c.loop-at.at-iterator.at c.args.stop w.0 c.requires.1 w.1))

use Rattle.std.proofs.Common.{◌≡◌, ◌+◌, true, false, take, Some, sym, refl, ap, ◌∙◌, subst, arith, rules}
use Rattle.std.proofs.lemmas.List.{take-set}
use Rattle.std.proofs.lemmas.Result.{err_from_is_err_and}
use Rattle.table.specs.declared.kinds.Class.TheVariants as classes
use Rattle.table.specs.declared.kinds.Kind.TheVariants as kinds
use Rattle.table.specs.Kinds.{kind_at, class_or}
use Rattle.table.specs.Listed.{end_at}
use Rattle.table.specs.Tree.Declaration.{function}
use Rattle.table.specs.Layout.{of_body, of_declaration, of_declarations, of_statements, of_final}
use Rattle.table.specs.Lays.{LaysAll}
use Rattle.walk.proofs.Along.{a-child, no-child}
use Rattle.table.proofs.Placed.{lays-here, lays-rises, lays-rises-all, lays-inside}
use Rattle.walk.specs.Lay.{live, count}
use Rattle.admission.specs.Standing.{scope_of}
use Rattle.admission.specs.Walks.{LaysMembers}
use Rattle.admission.proofs.Progress.{body-ahead, stays-lower, declarations-end, declarations-out, declarations-step, declarations-refused, declarations-on}
use Rattle.admission.proofs.Turns.{function-entered, body_at, body_refused, body-judged, function-deep, function-refused, function-done, has-function, gave-function, a-variable, gave-scoped, grew_none, kept_on, scope_kept}
use Rattle.admission.proofs.tables.Table.+declarations_and_bodies.Goals as goal

pub body-overflow_add-i : goal.body-overflow_add-i
body-overflow_add-i t c =
    let h = lays-here (of_body c.requires.tree.0) c.args.self.nodes.now c.args.i c.requires.tree.1 in search rules

pub body-inside-requires : goal.body-inside-requires
body-inside-requires t c =
    let v = body_at c.args.self.nodes.now c.args.i c.requires.tree.0 c.requires.tree.1 in
    let h = lays-here (of_body c.requires.tree.0) c.args.self.nodes.now c.args.i c.requires.tree.1 in
    let k = lays-inside (of_body c.requires.tree.0) c.args.self.nodes.now c.args.i c.requires.tree.1 in
    (search rules, (omega (arith, c.requires.room), ((omega (arith, c.end_of-stop.ensures), omega arith), (v.0, v.1, v.2, subst (λ k. LaysMembers c.args.self.nodes.now v.0 v.1 v.2 (c.args.i + 1) k) (sym c.end_of-stop.ensures) v.4))))

pub body-returns-in_err-found-clause-answer : goal.body-returns-in_err-found-clause-answer
body-returns-in_err-found-clause-answer t c =
    let q = err_from_is_err_and c.from_residual.result c.from_residual.ensures.1 in
    rw (q.1, q.2)
    (body_refused c.args.self.nodes.now c.args.i (scope_of c.args.self.nodes.now c.args.names.now) (live c.args.code.now) c.args.wanted c.in_err-found.field-0.0
    (λ ds ss z l. c.in_err-found.ensures.answer ds ss z (subst (λ k. LaysMembers c.args.self.nodes.now ds ss z (c.args.i + 1) k) (sym c.end_of-stop.ensures) l)))

pub body-returns-then-ne-clause-answer : goal.body-returns-then-ne-clause-answer
body-returns-then-ne-clause-answer t c = λ b l.
    body-judged c.args.self.nodes.now c.args.i (scope_of c.args.self.nodes.now c.args.names.now) (live c.args.code.now) c.args.wanted c.in_ok-found.found (live c.inside.new.code)
    (λ ds ss z l. c.in_ok-found.ensures.answer ds ss z (subst (λ k. LaysMembers c.args.self.nodes.now ds ss z (c.args.i + 1) k) (sym c.end_of-stop.ensures) l))
    false (search rules) b l ∙
    search rules

pub body-returns-clause-answer : goal.body-returns-clause-answer
body-returns-clause-answer t c = λ b l.
    body-judged c.args.self.nodes.now c.args.i (scope_of c.args.self.nodes.now c.args.names.now) (live c.args.code.now) c.args.wanted c.in_ok-found.found (live c.inside.new.code)
    (λ ds ss z l. c.in_ok-found.ensures.answer ds ss z (subst (λ k. LaysMembers c.args.self.nodes.now ds ss z (c.args.i + 1) k) (sym c.end_of-stop.ensures) l))
    true (search rules) b l

pub declaration-function-requires : goal.declaration-function-requires
declaration-function-requires t c =
    (search rules, (c.requires.room, has-function c.args.self.nodes.now c.args.i c.requires.tree.0 c.requires.tree.1 (search rules)))

pub declaration-returns-then-eq-clause-answer :
    goal.declaration-returns-then-eq-clause-answer
declaration-returns-then-eq-clause-answer t c =
    gave-function c.args.self.nodes.now c.args.names.now c.args.code.now c.args.i c.function.result c.function.new.names c.function.new.code (search rules) c.function.ensures.answer

pub declaration-returns-else-eq-clause-answer :
    goal.declaration-returns-else-eq-clause-answer
declaration-returns-else-eq-clause-answer t c = λ d l.
    let n : kind_at c.node_at-node.result.kind ≡ Some kinds.Function → ⊥ = search rules in
    gave-scoped c.args.self.nodes.now c.declare.result c.declare.new.self c.args.code.now _ _ (c.declare.ensures.answer c.args.self.nodes.now)
    (a-variable c.args.self.nodes.now c.args.i c.node_at-node.result c.node_at-node.ensures n (scope_of c.args.self.nodes.now c.args.names.now) (live c.args.code.now) d l).1

pub declaration-returns-else-eq-clause-room : goal.declaration-returns-else-eq-clause-room
declaration-returns-else-eq-clause-room t c =
    let n : kind_at c.node_at-node.result.kind ≡ Some kinds.Function → ⊥ = search rules in
    let l = c.requires.tree in
    grew_none c.declare.result c.args.self.nodes.now (count c.args.code.now) c.args.i (end_at c.args.self.nodes.now c.args.i) (lays-here (of_declaration l.0) c.args.self.nodes.now c.args.i l.1)
    (a-variable c.args.self.nodes.now c.args.i c.node_at-node.result c.node_at-node.ensures n (scope_of c.args.self.nodes.now c.args.names.now) (live c.args.code.now) l.0 l.1).0

pub declarations-loop-at-init : goal.declarations-loop-at-init
declarations-loop-at-init t c =
    let v = c.requires.tree in
    let h = lays-rises-all (of_declarations v.0 (of_statements v.1 (of_final v.2))) c.args.self.nodes.now c.args.from c.args.stop v.3 in
    rw c.into_iter-at-iterator.ensures.into_iter_gives (record { over = record { over = refl; to = refl }; behind = omega arith; short = h; widened = (omega arith, refl, refl, omega arith); grows = omega arith; room = omega arith; onward = λ ds ss z l. (ds, l, refl) })

pub declarations-returns-then-ne : goal.declarations-returns-then-ne
declarations-returns-then-ne t c =
    let inv = c.loop-at.invariant in
    let k = a-child c.loop-at.at-iterator c.next.new.self inv.over (c.in-Some.at, c.in-Some.node) c.in-Some.ensures.steps in
    let n : class_or (kind_at c.in-Some.node.kind) ≡ classes.Declaration → ⊥ = λ e. search rules in
    record {
      answer = λ ds ss z l.
          let w = declarations-end c.args.self.nodes.now c.args.names.now c.args.code.now c.args.from c.args.stop c.loop-at.at-iterator c.loop-at.names c.loop-at.code inv (λ h e. n (ap (λ m. class_or (kind_at m.kind)) k.node ∙ e)) ds ss z l in
          (w.0, subst (λ i. LaysAll (of_statements ss (of_final z)) c.args.self.nodes.now i c.args.stop) (sym k.number) w.1);
      widened = inv.widened;
      room = (omega arith, omega arith, omega arith, omega arith);
    }

pub declarations-declaration-requires : goal.declarations-declaration-requires
declarations-declaration-requires t c =
    let inv = c.loop-at.invariant in
    let k = a-child c.loop-at.at-iterator c.next.new.self inv.over (c.in-Some.at, c.in-Some.node) c.in-Some.ensures.steps in
    let s : class_or (kind_at c.in-Some.node.kind) ≡ classes.Declaration = search rules in
    let v = c.requires.tree in
    let n = declarations-step c.args.self.nodes.now c.args.names.now c.args.code.now c.args.from c.args.stop c.loop-at.at-iterator c.loop-at.names c.loop-at.code inv c.next.new.self (c.in-Some.at, c.in-Some.node) k s v.0 v.1 v.2 v.3 in
    (search rules, (omega arith, (n.0, n.2)))

pub declarations-returns-in_err-declaration-clause-answer :
    goal.declarations-returns-in_err-declaration-clause-answer
declarations-returns-in_err-declaration-clause-answer t c =
    let q = err_from_is_err_and c.from_residual.result c.from_residual.ensures.1 in
    let inv = c.loop-at.invariant in
    let k = a-child c.loop-at.at-iterator c.next.new.self inv.over (c.in-Some.at, c.in-Some.node) c.in-Some.ensures.steps in
    let s : class_or (kind_at c.in-Some.node.kind) ≡ classes.Declaration = search rules in
    rw (q.1, q.2) (λ ds ss z l. (declarations-refused c.args.self.nodes.now c.args.names.now c.args.code.now c.args.from c.args.stop c.loop-at.at-iterator c.loop-at.names c.loop-at.code inv c.next.new.self (c.in-Some.at, c.in-Some.node) k s c.in_err-declaration.field-0.0 c.in_err-declaration.ensures.answer ds ss z l, tt))

pub declarations-loop-at-preserved : goal.declarations-loop-at-preserved
declarations-loop-at-preserved t c =
    let inv = c.loop-at.invariant in
    let k = a-child c.loop-at.at-iterator c.next.new.self inv.over (c.in-Some.at, c.in-Some.node) c.in-Some.ensures.steps in
    let s : class_or (kind_at c.in-Some.node.kind) ≡ classes.Declaration = search rules in
    let g = c.in_ok-declaration.ensures.room in
    declarations-on c.args.self.nodes.now c.args.names.now c.args.code.now c.args.from c.args.stop c.loop-at.at-iterator c.loop-at.names c.loop-at.code inv c.next.new.self (c.in-Some.at, c.in-Some.node) k s c.declaration.new.names c.declaration.new.code c.in_ok-declaration.ensures.answer c.in_ok-declaration.ensures.widened g.0 g.1

pub declarations-returns : goal.declarations-returns
declarations-returns t c =
    let inv = c.loop-at.invariant in
    let n = no-child c.loop-at.at-iterator c.next.new.self inv.over c.in-None.ensures.steps in
    let v = c.requires.tree in
    let e = declarations-out c.args.self.nodes.now c.args.names.now c.args.code.now c.args.from c.args.stop c.loop-at.at-iterator c.loop-at.names c.loop-at.code inv n v.0 v.1 v.2 v.3 in
    record {
      answer = λ ds ss z l.
          let w = declarations-end c.args.self.nodes.now c.args.names.now c.args.code.now c.args.from c.args.stop c.loop-at.at-iterator c.loop-at.names c.loop-at.code inv (λ h k. omega arith) ds ss z l in
          (w.0, subst (λ i. LaysAll (of_statements ss (of_final z)) c.args.self.nodes.now i c.args.stop) e w.1);
      widened = inv.widened;
      room = (omega arith, omega arith, omega arith, omega arith);
    }

pub enclosed-overflow_add-i : goal.enclosed-overflow_add-i
enclosed-overflow_add-i t c =
    let l = c.requires.tree in
    let h = body-ahead c.args.self.nodes.now (c.args.i + 1) (end_at c.args.self.nodes.now c.args.i) l.0 l.1 l.2 in search rules

pub enclosed-returns-clause-kept : goal.enclosed-returns-clause-kept
enclosed-returns-clause-kept t c =
    let w = c.in_ok-at.ensures.widened in
    kept_on c.body.result c.args.names.now c.parameters.new.names c.body.new.names c.drop-guard-2.new.self.0 w.0 w.2 c.body.ensures.kept c.drop-guard-2.ensures.entries

pub function-returns-in_err-must_be_shallow-clause-answer :
    goal.function-returns-in_err-must_be_shallow-clause-answer
function-returns-in_err-must_be_shallow-clause-answer t c =
    let q = err_from_is_err_and c.from_residual-in_err-must_be_shallow.result c.from_residual-in_err-must_be_shallow.ensures.1 in
    rw (q.1, q.2)
    (function-deep c.args.self.nodes.now c.args.i c.node_at-node.result c.node_at-node.ensures (scope_of c.args.self.nodes.now c.args.names.now) (live c.args.code.now)
    (sym (c.in_ok-must_be_new.ensures c.args.self.nodes.now)) (sym (c.in_ok-must_have_room.ensures.answer c.args.self.nodes.now)) c.in_err-must_be_shallow.field-0.0 (sym (c.in_err-must_be_shallow.ensures.answer c.args.self.nodes.now)))

pub function-returns-in_err-enclosed-clause-answer :
    goal.function-returns-in_err-enclosed-clause-answer
function-returns-in_err-enclosed-clause-answer t c =
    let q = err_from_is_err_and c.from_residual-in_err-enclosed.result c.from_residual-in_err-enclosed.ensures.1 in
    let e = c.enter.ensures in
    rw (q.1, q.2)
    (function-refused c.args.self.nodes.now c.args.i c.node_at-node.result c.node_at-node.ensures (scope_of c.args.self.nodes.now c.args.names.now) (live c.args.code.now)
    (sym (c.in_ok-must_be_new.ensures c.args.self.nodes.now)) (sym (c.in_ok-must_have_room.ensures.answer c.args.self.nodes.now)) (sym (c.in_ok-must_be_shallow.ensures.answer c.args.self.nodes.now))
    (scope_of c.args.self.nodes.now c.enter.new.self) c.type_of-result.result c.type_of-result.ensures
    (function-entered c.args.self.nodes.now c.args.names.now c.enter.new.self c.args.i (end_at c.args.self.nodes.now c.args.i) c.node_at-node.result.value c.type_of-result.result (live c.args.code.now) c.next-jump.result c.in_ok-must_have_room.ensures.room e.entries e.height e.level e.floor e.slots e.flags c.next-jump.ensures)
    c.in_err-enclosed.field-0.0
    (λ qs b l. rw (← c.lay.ensures.code) (c.in_err-enclosed.ensures.answer qs b l)))

pub function-lay-requires-2 : goal.function-lay-requires-2
function-lay-requires-2 t c =
    let l = c.requires.tree in
    let g = c.in_ok-enclosed.ensures.room in
    let k = lays-inside (of_declaration (function l.0 l.1 l.2 l.3 l.4)) c.args.self.nodes.now c.args.i l.5 in
    let s = c.args.self.short in
    omega (arith, g.1, c.lay.ensures.length, c.requires.room)

pub function-returns-clause-answer : goal.function-returns-clause-answer
function-returns-clause-answer t c = λ p u x qs b l.
    let e = c.enter.ensures in
    let k = scope_kept c.args.self.nodes.now c.enter.new.self c.enclosed.new.names c.in_ok-enclosed.ensures.restored c.in_ok-enclosed.ensures.kept in
    function-done c.args.self.nodes.now c.args.i c.node_at-node.result c.node_at-node.ensures (scope_of c.args.self.nodes.now c.args.names.now) (live c.args.code.now)
    (sym (c.in_ok-must_be_new.ensures c.args.self.nodes.now)) (sym (c.in_ok-must_have_room.ensures.answer c.args.self.nodes.now)) (sym (c.in_ok-must_be_shallow.ensures.answer c.args.self.nodes.now))
    (scope_of c.args.self.nodes.now c.enter.new.self) c.type_of-result.result c.type_of-result.ensures
    (function-entered c.args.self.nodes.now c.args.names.now c.enter.new.self c.args.i (end_at c.args.self.nodes.now c.args.i) c.node_at-node.result.value c.type_of-result.result (live c.args.code.now) c.next-jump.result c.in_ok-must_have_room.ensures.room e.entries e.height e.level e.floor e.slots e.flags c.next-jump.ensures)
    (live c.enclosed.new.code) (λ qs b l. rw (← c.lay.ensures.code) (c.in_ok-enclosed.ensures.answer qs b l)) p u x qs b l ∙
    cc

pub function-returns-clause-widened : goal.function-returns-clause-widened
function-returns-clause-widened t c =
    let e = c.enter.ensures in
    let s = c.in_ok-enclosed.ensures.restored in
    let height : c.enclosed.new.names.scope.height ≡ c.args.names.now.scope.height + 1 = ap (λ x. x.height) s ∙ e.height in (
      omega arith,
      ap (λ x. x.level) s ∙ e.level,
      stays-lower c.args.names.now.scope.height c.enter.new.self.scope.height c.enter.new.self.entries c.enclosed.new.names.entries (omega (arith, e.height)) c.in_ok-enclosed.ensures.kept ∙ ap (take c.args.names.now.scope.height) e.entries ∙ take-set _ _ _,
      omega (arith, ap (λ x. x.slots) s, e.slots),
    )

pub function-returns-clause-room : goal.function-returns-clause-room
function-returns-clause-room t c =
    let l = c.requires.tree in
    let g = c.in_ok-enclosed.ensures.room in
    let k = lays-inside (of_declaration (function l.0 l.1 l.2 l.3 l.4)) c.args.self.nodes.now c.args.i l.5 in
    let m = lays-rises (of_declaration (function l.0 l.1 l.2 l.3 l.4)) c.args.self.nodes.now c.args.i l.5 in
    (omega (arith, g.0, c.lay.ensures.length, c.lay-2.ensures.length, c.lay_jump.ensures.length), omega (arith, g.1, c.lay.ensures.length, c.lay-2.ensures.length, c.lay_jump.ensures.length), m, k)

use Rattle.std.proofs.Common.{◌≡◌, ◌+◌, true, false, Ok, Err, sym, refl, ap, ◌∙◌, subst, arith, rules}
use Rattle.std.proofs.lemmas.Result.{err_from_is_err_and}
use Rattle.table.specs.Kinds.{kind_at, class_or}
use Rattle.table.specs.Listed.{end_at}
use Rattle.language.specs.declared.values.ValueType.TheVariants.{Int, Bool as Truths}
use Rattle.table.specs.declared.kinds.Kind.TheVariants as kinds
use Rattle.table.specs.declared.kinds.Class.TheVariants as classes
use Rattle.table.specs.Tree.Statements.{statement}
use Rattle.table.specs.Tree.Final.{no_final, final}
use Rattle.table.specs.Layout.{of_expression, of_arguments, of_statement, of_statements, of_block, of_value_block, of_final}
use Rattle.table.specs.Layout.Branch.{branch}
use Rattle.table.specs.Lays.{LaysAll}
use Rattle.table.proofs.Placed.{lays-here, lays-rises, lays-rises-all, lays-inside}
use Rattle.table.proofs.Views.{known_at, expression-at, expression-kind, statement-at, statement-kind, integer-at, truth-at, read_at, negation-at, operation-at, choice-at, call_at, assignment-at, call-statement-at, if-then-at, if-else-at}
use Rattle.walk.specs.Bind.{beside}
use Rattle.walk.specs.Lay.{live, laid, count}
use Rattle.walk.specs.Sets.{marked}
use Rattle.walk.specs.Scopes.{operand_of}
use Rattle.walk.specs.Types.{same_type, typed, judged}
use Rattle.walk.specs.Known.{tally_of}
use Rattle.walk.specs.Expressions.{reading, walk_expression, walk_arguments, walk_statement, walk_statements, walk_block, walk_value_block}
use Rattle.walk.specs.Walked.{env_of}
use Rattle.walk.proofs.Exits.{goes, breaks, gave-same, gave-beside, grew-judged, grew-one, grew-inner, decided, block_at, value-block-at}
use Rattle.walk.proofs.Along.{a-child, no-child, argument-given, statement-given, another-given, arguments-ended, statements-ended}
use Rattle.walk.proofs.Seen.{assigning-seen, calling-seen}
use Rattle.walk.proofs.contexts.Context.+expressions_and_statements.Goals as goal

pub assignment-returns-in_err-variable-clause-answer : goal.assignment-returns-in_err-variable-clause-answer
assignment-returns-in_err-variable-clause-answer t c =
    let q = err_from_is_err_and c.from_residual-in_err-variable.result c.from_residual-in_err-variable.ensures.1 in
    rw (q.1, q.2) (λ p x e l. assigning-seen c.args.self.now c.node_at-node.result.place c.node_at-node.result.value c.in_ok-k.k c.args.set.now.set (live c.args.code.now) c.in_ok-k.ensures.answer c.in_ok-k.ensures.within (c.in_err-variable.ensures c.args.self.now.nodes.now) (ap (λ n. n.place) c.node_at-node.ensures ∙ l.4) (ap (λ n. n.value) c.node_at-node.ensures ∙ l.3) e)

pub assignment-returns-in_err-value-clause-answer : goal.assignment-returns-in_err-value-clause-answer
assignment-returns-in_err-value-clause-answer t c =
    let q = err_from_is_err_and c.from_residual-in_err-value.result c.from_residual-in_err-value.ensures.1 in
    rw (q.1, q.2) (λ p x e l. assigning-seen c.args.self.now c.node_at-node.result.place c.node_at-node.result.value c.in_ok-k.k c.args.set.now.set (live c.args.code.now) c.in_ok-k.ensures.answer c.in_ok-k.ensures.within (c.in_ok-variable.ensures c.args.self.now.nodes.now) (ap (λ n. n.place) c.node_at-node.ensures ∙ l.4) (ap (λ n. n.value) c.node_at-node.ensures ∙ l.3) e ∙ breaks _ (c.in_err-value.ensures.answer e l.5.0))

pub assignment-returns-then-ne-clause-answer : goal.assignment-returns-then-ne-clause-answer
assignment-returns-then-ne-clause-answer t c =
    let same : same_type c.in_ok-value.value c.in_ok-variable.variable.typed ≡ false = search rules in
    λ p x e l.
    assigning-seen c.args.self.now c.node_at-node.result.place c.node_at-node.result.value c.in_ok-k.k c.args.set.now.set (live c.args.code.now) c.in_ok-k.ensures.answer c.in_ok-k.ensures.within (c.in_ok-variable.ensures c.args.self.now.nodes.now) (ap (λ n. n.place) c.node_at-node.ensures ∙ l.4) (ap (λ n. n.value) c.node_at-node.ensures ∙ l.3) e ∙
    goes _ (c.in_ok-value.ensures.answer e l.5.0) ∙
    ap (λ b. beside (typed c.node_at-node.result.place b (marked c.args.set.now.set c.in_ok-k.k true)) (laid (live c.expression.new.code) 4 (operand_of c.args.self.now.level c.in_ok-variable.variable))) same ∙ ap Err (sym c.at.ensures)

pub assignment-returns-clause-answer : goal.assignment-returns-clause-answer
assignment-returns-clause-answer t c =
    let same : same_type c.in_ok-value.value c.in_ok-variable.variable.typed ≡ true = search rules in
    λ p x e l.
    assigning-seen c.args.self.now c.node_at-node.result.place c.node_at-node.result.value c.in_ok-k.k c.args.set.now.set (live c.args.code.now) c.in_ok-k.ensures.answer c.in_ok-k.ensures.within (c.in_ok-variable.ensures c.args.self.now.nodes.now) (ap (λ n. n.place) c.node_at-node.ensures ∙ l.4) (ap (λ n. n.value) c.node_at-node.ensures ∙ l.3) e ∙
    goes _ (c.in_ok-value.ensures.answer e l.5.0) ∙
    ap (λ b. beside (typed c.node_at-node.result.place b (marked c.args.set.now.set c.in_ok-k.k true)) (laid (live c.expression.new.code) 4 (operand_of c.args.self.now.level c.in_ok-variable.variable))) same ∙
    ap (λ m. Ok (m, (laid (live c.expression.new.code) 4 (operand_of c.args.self.now.level c.in_ok-variable.variable)))) (sym c.mark.ensures) ∙
    ap (λ s. Ok (c.mark.result.set, s)) (sym (c.lay.ensures.code ∙ ap (λ y. laid (live c.expression.new.code) 4 y) c.operand.ensures))

pub block-overflow_add-i : goal.block-overflow_add-i
block-overflow_add-i t c =
    let h = lays-here (of_block c.requires.tree.0) c.args.self.now.nodes.now c.args.i c.requires.tree.1 in search rules

pub block-statements-requires : goal.block-statements-requires
block-statements-requires t c =
    let v = block_at c.args.self.now.nodes.now c.args.i c.requires.tree.0 c.requires.tree.1 in
    let h = lays-here (of_block c.requires.tree.0) c.args.self.now.nodes.now c.args.i c.requires.tree.1 in
    let k = lays-inside (of_block c.requires.tree.0) c.args.self.now.nodes.now c.args.i c.requires.tree.1 in
    (search rules, (omega arith, ((statement v.1 v.2, no_final, (subst (λ k. LaysAll (of_statements (statement v.1 v.2) (of_final no_final)) c.args.self.now.nodes.now (c.args.i + 1) k) (sym c.end_of-stop.ensures) v.4.5)), omega (arith, c.end_of-stop.ensures))))

pub block-returns-in_err-after-clause-answer : goal.block-returns-in_err-after-clause-answer
block-returns-in_err-after-clause-answer t c =
    let q = err_from_is_err_and c.from_residual.result c.from_residual.ensures.1 in
    rw (q.1, q.2) (λ b l.
    let v = block_at c.args.self.now.nodes.now c.args.i b l in
    ap (λ d. walk_block (env_of c.args.self.now) d c.args.set.now.set (live c.args.code.now)) v.3 ∙ (c.in_err-after.ensures.answer (statement v.1 v.2) no_final (subst (λ k. LaysAll (of_statements (statement v.1 v.2) (of_final no_final)) c.args.self.now.nodes.now (c.args.i + 1) k) (sym c.end_of-stop.ensures) v.4.5)).0)

pub block-returns : goal.block-returns
block-returns t c =
    let v = block_at c.args.self.now.nodes.now c.args.i c.requires.tree.0 c.requires.tree.1 in
    let h = lays-rises (of_block c.requires.tree.0) c.args.self.now.nodes.now c.args.i c.requires.tree.1 in
    let k = lays-inside (of_block c.requires.tree.0) c.args.self.now.nodes.now c.args.i c.requires.tree.1 in
    let n = (c.in_ok-after.ensures.answer (statement v.1 v.2) no_final (subst (λ k. LaysAll (of_statements (statement v.1 v.2) (of_final no_final)) c.args.self.now.nodes.now (c.args.i + 1) k) (sym c.end_of-stop.ensures) v.4.5)).1 in
    let g = c.in_ok-after.ensures.room in
    let e = c.end_of-stop.ensures in
    record {
      answer = λ b l.
          let v = block_at c.args.self.now.nodes.now c.args.i b l in
          ap (λ d. walk_block (env_of c.args.self.now) d c.args.set.now.set (live c.args.code.now)) v.3 ∙ (c.in_ok-after.ensures.answer (statement v.1 v.2) no_final (subst (λ k. LaysAll (of_statements (statement v.1 v.2) (of_final no_final)) c.args.self.now.nodes.now (c.args.i + 1) k) (sym c.end_of-stop.ensures) v.4.5)).0;
      room = (omega arith, omega arith, omega arith, omega arith);
    }

pub call_statement-invoke-requires : goal.call_statement-invoke-requires
call_statement-invoke-requires t c =
    (search rules, (c.requires.room, (kinds.CallStatement, c.requires.tree.0, c.requires.tree.1, c.requires.tree.2, c.requires.tree.3)))

pub call_statement-returns-in_err-result-clause-answer : goal.call_statement-returns-in_err-result-clause-answer
call_statement-returns-in_err-result-clause-answer t c =
    let q = err_from_is_err_and c.from_residual.result c.from_residual.ensures.1 in
    rw (q.1, q.2) (λ p x es l. breaks _ (c.in_err-result.ensures.answer kinds.CallStatement p x es l))

pub call_statement-returns-clause-answer : goal.call_statement-returns-clause-answer
call_statement-returns-clause-answer t c =
    let g = c.in_ok-result.ensures.room in
    λ p x es l.
    goes _ (c.in_ok-result.ensures.answer kinds.CallStatement p x es l) ∙ ap (λ s. Ok (c.args.set.now.set, s)) (sym c.discard.ensures.code)

pub conditional-if_else-requires : goal.conditional-if_else-requires
conditional-if_else-requires t c =
    let f = c.end_of.ensures ∙ ap (end_at c.args.self.now.nodes.now) c.end_of-one.ensures in
    let g = c.end_of-2.ensures in
    let v = if-else-at c.args.self.now.nodes.now c.args.i c.requires.kind c.requires.tree.0 c.requires.tree.1 (omega (arith, c.if-end_of.true)) in
    (search rules, (c.requires.room, (v.0, v.1, v.2, v.3, v.5)))

pub conditional-if_then-requires : goal.conditional-if_then-requires
conditional-if_then-requires t c =
    let f = c.end_of.ensures ∙ ap (end_at c.args.self.now.nodes.now) c.end_of-one.ensures in
    let g = c.end_of-2.ensures in
    let v = if-then-at c.args.self.now.nodes.now c.args.i c.requires.kind c.requires.tree.0 c.requires.tree.1 (omega (arith, c.if-end_of.false)) in
    (search rules, (c.requires.room, (v.0, v.1, v.2, v.4)))

pub conditional-returns-then-end_of-clause-answer : goal.conditional-returns-then-end_of-clause-answer
conditional-returns-then-end_of-clause-answer t c =
    let f = c.end_of.ensures ∙ ap (end_at c.args.self.now.nodes.now) c.end_of-one.ensures in
    let g = c.end_of-2.ensures in
    λ s l.
    let v = if-else-at c.args.self.now.nodes.now c.args.i c.requires.kind s l (omega (arith, c.if-end_of.true)) in
    gave-same (λ g. g.set) c.if_else.result c.if_else.new.code (ap (λ s. walk_statement (env_of c.args.self.now) s c.args.set.now.set (live c.args.code.now)) v.4) (c.if_else.ensures.answer v.0 v.1 v.2 v.3 v.5)

pub conditional-returns-else-end_of-clause-answer : goal.conditional-returns-else-end_of-clause-answer
conditional-returns-else-end_of-clause-answer t c =
    let f = c.end_of.ensures ∙ ap (end_at c.args.self.now.nodes.now) c.end_of-one.ensures in
    let g = c.end_of-2.ensures in
    λ s l.
    let v = if-then-at c.args.self.now.nodes.now c.args.i c.requires.kind s l (omega (arith, c.if-end_of.false)) in
    gave-same (λ g. g.set) c.if_then.result c.if_then.new.code (ap (λ s. walk_statement (env_of c.args.self.now) s c.args.set.now.set (live c.args.code.now)) v.3) (c.if_then.ensures.answer v.0 v.1 v.2 v.4)

pub expression-unreachable-requires : goal.expression-unreachable-requires
expression-unreachable-requires t c =
    known_at (of_expression c.requires.tree.0) c.args.self.now.nodes.now c.args.i c.requires.tree.1
    (ap (λ n. kind_at n.kind) (sym c.node_at-node.ensures) ∙ sym c.kind.ensures ∙ c.in_default.is)

pub expression-unreachable-requires-in-Program : goal.expression-unreachable-requires-in-Program
expression-unreachable-requires-in-Program t c =
    let e = expression-kind (expression-at c.args.self.now.nodes.now c.args.i c.in-Some.kind
    (decided c.args.self.now.nodes.now c.args.i c.node_at-node.ensures c.kind.ensures c.in-Some.is refl) c.requires.tree.0 c.requires.tree.1) in grind (arith, c.in-Program.is)

pub expression-negation-requires : goal.expression-negation-requires
expression-negation-requires t c =
    let v = negation-at c.args.self.now.nodes.now c.args.i (decided c.args.self.now.nodes.now c.args.i c.node_at-node.ensures c.kind.ensures c.in-Some.is c.in-Not.is) c.requires.tree.0 c.requires.tree.1 in
    (search rules, (c.requires.room, (v.0, v.1, v.3)))

pub expression-operation-requires : goal.expression-operation-requires
expression-operation-requires t c =
    let v = operation-at c.args.self.now.nodes.now c.args.i (decided c.args.self.now.nodes.now c.args.i c.node_at-node.ensures c.kind.ensures c.in-Some.is c.in-Operator.is) c.requires.tree.0 c.requires.tree.1 in
    (search rules, (c.requires.room, (v.0, v.1, v.2, v.3, v.5)))

pub expression-choice-requires : goal.expression-choice-requires
expression-choice-requires t c =
    let v = choice-at c.args.self.now.nodes.now c.args.i (decided c.args.self.now.nodes.now c.args.i c.node_at-node.ensures c.kind.ensures c.in-Some.is c.in-IfExpression.is) c.requires.tree.0 c.requires.tree.1 in
    (search rules, (c.requires.room, (v.0, v.1, v.2, v.3, v.5)))

pub expression-invoke-requires : goal.expression-invoke-requires
expression-invoke-requires t c =
    let v = call_at c.args.self.now.nodes.now c.args.i (decided c.args.self.now.nodes.now c.args.i c.node_at-node.ensures c.kind.ensures c.in-Some.is c.in-Call.is) c.requires.tree.0 c.requires.tree.1 in
    (search rules, (c.requires.room, (kinds.Call, v.0, v.1, v.2, v.4)))

pub expression-returns-in-Integer : goal.expression-returns-in-Integer
expression-returns-in-Integer t c =
    let m = integer-at c.args.self.now.nodes.now c.args.i (decided c.args.self.now.nodes.now c.args.i c.node_at-node.ensures c.kind.ensures c.in-Some.is c.in-Integer.is) c.requires.tree.0 c.requires.tree.1 in
    let h = m.3.0 in
    let k = m.3.5 in
    record {
      answer = λ e l.
          let v = integer-at c.args.self.now.nodes.now c.args.i (decided c.args.self.now.nodes.now c.args.i c.node_at-node.ensures c.kind.ensures c.in-Some.is c.in-Integer.is) e l in
          ap (λ f. walk_expression (env_of c.args.self.now) f c.args.set.now.set (live c.args.code.now)) v.2 ∙
          ap (λ s. Ok (Int, s)) (sym (c.lay.ensures.code ∙ ap (λ n. laid (live c.args.code.now) 1 n) (ap (λ n. n.value) c.node_at-node.ensures ∙ v.3.3)));
      room = (omega (arith, c.lay.ensures.length), omega (arith, c.lay.ensures.length), omega arith, omega arith);
    }

pub expression-returns-in-Truth : goal.expression-returns-in-Truth
expression-returns-in-Truth t c =
    let m = truth-at c.args.self.now.nodes.now c.args.i (decided c.args.self.now.nodes.now c.args.i c.node_at-node.ensures c.kind.ensures c.in-Some.is c.in-Truth.is) c.requires.tree.0 c.requires.tree.1 in
    let h = m.3.0 in
    let k = m.3.5 in
    record {
      answer = λ e l.
          let v = truth-at c.args.self.now.nodes.now c.args.i (decided c.args.self.now.nodes.now c.args.i c.node_at-node.ensures c.kind.ensures c.in-Some.is c.in-Truth.is) e l in
          ap (λ f. walk_expression (env_of c.args.self.now) f c.args.set.now.set (live c.args.code.now)) v.2 ∙
          ap (λ s. Ok (Truths, s)) (sym (c.lay-in-Truth.ensures.code ∙ ap (λ n. laid (live c.args.code.now) 2 n) (ap (λ n. n.value) c.node_at-node.ensures ∙ v.3.3)));
      room = (omega (arith, c.lay-in-Truth.ensures.length), omega (arith, c.lay-in-Truth.ensures.length), omega arith, omega arith);
    }

pub expression-returns-in-Read : goal.expression-returns-in-Read
expression-returns-in-Read t c =
    let m = read_at c.args.self.now.nodes.now c.args.i (decided c.args.self.now.nodes.now c.args.i c.node_at-node.ensures c.kind.ensures c.in-Some.is c.in-Read.is) c.requires.tree.0 c.requires.tree.1 in
    record {
      answer = λ e l.
          let v = read_at c.args.self.now.nodes.now c.args.i (decided c.args.self.now.nodes.now c.args.i c.node_at-node.ensures c.kind.ensures c.in-Some.is c.in-Read.is) e l in
          gave-same (λ u. u) c.read.result c.read.new.code
          (ap (λ f. walk_expression (env_of c.args.self.now) f c.args.set.now.set (live c.args.code.now)) v.2 ∙ sym (ap (λ p. reading (env_of c.args.self.now) p c.node_at-node.result.value c.args.set.now.set (live c.args.code.now)) (ap (λ n. n.place) c.node_at-node.ensures ∙ v.3.4) ∙ ap (λ x. reading (env_of c.args.self.now) v.0 x c.args.set.now.set (live c.args.code.now)) (ap (λ n. n.value) c.node_at-node.ensures ∙ v.3.3)))
          (c.read.ensures.answer);
      room = grew-one c.read.result c.args.self.now.nodes.now (count c.args.code.now) (count c.read.new.code) c.args.i (end_at c.args.self.now.nodes.now c.args.i) m.3.0 m.3.5 c.read.ensures.room;
    }

pub expression-returns-in-Not-clause-answer : goal.expression-returns-in-Not-clause-answer
expression-returns-in-Not-clause-answer t c =
    λ e l.
    let v = negation-at c.args.self.now.nodes.now c.args.i (decided c.args.self.now.nodes.now c.args.i c.node_at-node.ensures c.kind.ensures c.in-Some.is c.in-Not.is) e l in
    gave-same (λ u. u) c.negation.result c.negation.new.code (ap (λ f. walk_expression (env_of c.args.self.now) f c.args.set.now.set (live c.args.code.now)) v.2) (c.negation.ensures.answer v.0 v.1 v.3)

pub expression-returns-in-Operator-clause-answer : goal.expression-returns-in-Operator-clause-answer
expression-returns-in-Operator-clause-answer t c =
    λ e l.
    let v = operation-at c.args.self.now.nodes.now c.args.i (decided c.args.self.now.nodes.now c.args.i c.node_at-node.ensures c.kind.ensures c.in-Some.is c.in-Operator.is) e l in
    gave-same (λ u. u) c.operation.result c.operation.new.code (ap (λ f. walk_expression (env_of c.args.self.now) f c.args.set.now.set (live c.args.code.now)) v.4) (c.operation.ensures.answer v.0 v.1 v.2 v.3 v.5)

pub expression-returns-in-IfExpression-clause-answer : goal.expression-returns-in-IfExpression-clause-answer
expression-returns-in-IfExpression-clause-answer t c =
    λ e l.
    let v = choice-at c.args.self.now.nodes.now c.args.i (decided c.args.self.now.nodes.now c.args.i c.node_at-node.ensures c.kind.ensures c.in-Some.is c.in-IfExpression.is) e l in
    gave-same (λ u. u) c.choice.result c.choice.new.code (ap (λ f. walk_expression (env_of c.args.self.now) f c.args.set.now.set (live c.args.code.now)) v.4) (c.choice.ensures.answer v.0 v.1 v.2 v.3 v.5)

pub expression-returns-in-Call-clause-answer : goal.expression-returns-in-Call-clause-answer
expression-returns-in-Call-clause-answer t c =
    λ e l.
    let v = call_at c.args.self.now.nodes.now c.args.i (decided c.args.self.now.nodes.now c.args.i c.node_at-node.ensures c.kind.ensures c.in-Some.is c.in-Call.is) e l in
    gave-same (λ u. u) c.invoke.result c.invoke.new.code (ap (λ f. walk_expression (env_of c.args.self.now) f c.args.set.now.set (live c.args.code.now)) v.3) (c.invoke.ensures.answer kinds.Call v.0 v.1 v.2 v.4)

pub invoke-returns-in_err-callable-clause-answer : goal.invoke-returns-in_err-callable-clause-answer
invoke-returns-in_err-callable-clause-answer t c =
    let q = err_from_is_err_and c.from_residual-in_err-callable.result c.from_residual-in_err-callable.ensures.1 in
    rw (q.1, q.2) (λ k p x es l. calling-seen c.args.self.now c.node_at-node.result.place c.node_at-node.result.value c.in_ok-k.k c.args.set.now.set (live c.args.code.now) c.in_ok-k.ensures.answer c.in_ok-k.ensures.within (c.in_err-callable.ensures c.args.self.now.nodes.now) refl refl refl (ap (λ n. n.place) c.node_at-node.ensures ∙ l.4) (ap (λ n. n.value) c.node_at-node.ensures ∙ l.3) (λ y d. walk_arguments (env_of c.args.self.now) es y c.args.set.now.set d))

pub invoke-arguments-requires : goal.invoke-arguments-requires
invoke-arguments-requires t c =
    let es = c.requires.tree.3 in
    let l = c.requires.tree.4 in
    let b = branch c.requires.tree.0 0 c.requires.tree.2 c.requires.tree.1 (of_arguments es) in
    let h = lays-here b c.args.self.now.nodes.now c.args.i l in
    let k = lays-inside b c.args.self.now.nodes.now c.args.i l in
    let e : c.node_at-node.result.end ≡ end_at c.args.self.now.nodes.now c.args.i = ap (λ n. n.end) c.node_at-node.ensures in
    (search rules, (omega (arith, c.open.ensures.length), ((es, (subst (λ s. LaysAll (of_arguments es) c.args.self.now.nodes.now (c.args.i + 1) s) (sym (ap (λ n. n.end) c.node_at-node.ensures)) l.5)), omega arith)))

pub invoke-returns-in_err-tally-clause-answer : goal.invoke-returns-in_err-tally-clause-answer
invoke-returns-in_err-tally-clause-answer t c =
    let q = err_from_is_err_and c.from_residual-in_err-tally.result c.from_residual-in_err-tally.ensures.1 in
    rw (q.1, q.2) (λ k p x es l.
    calling-seen c.args.self.now c.node_at-node.result.place c.node_at-node.result.value c.in_ok-k.k c.args.set.now.set (live c.args.code.now) c.in_ok-k.ensures.answer c.in_ok-k.ensures.within (c.in_ok-callable.ensures c.args.self.now.nodes.now) (c.parameters.ensures c.args.self.now.nodes.now) (c.open.ensures.code c.args.self.now.nodes.now) refl (ap (λ n. n.place) c.node_at-node.ensures ∙ l.4) (ap (λ n. n.value) c.node_at-node.ensures ∙ l.3) (λ y d. walk_arguments (env_of c.args.self.now) es y c.args.set.now.set d) ∙
    breaks _ (c.in_err-tally.ensures.answer es (subst (λ s. LaysAll (of_arguments es) c.args.self.now.nodes.now (c.args.i + 1) s) (sym (ap (λ n. n.end) c.node_at-node.ensures)) l.5)))

pub invoke-close-requires : goal.invoke-close-requires
invoke-close-requires t c =
    let es = c.requires.tree.3 in
    let l = c.requires.tree.4 in
    let b = branch c.requires.tree.0 0 c.requires.tree.2 c.requires.tree.1 (of_arguments es) in
    let k = lays-inside b c.args.self.now.nodes.now c.args.i l in
    let e : c.node_at-node.result.end ≡ end_at c.args.self.now.nodes.now c.args.i = ap (λ n. n.end) c.node_at-node.ensures in
    omega (arith, c.open.ensures.length, c.in_ok-tally.ensures.room)

pub invoke-returns : goal.invoke-returns
invoke-returns t c =
    let es = c.requires.tree.3 in
    let l = c.requires.tree.4 in
    let b = branch c.requires.tree.0 0 c.requires.tree.2 c.requires.tree.1 (of_arguments es) in
    let h = lays-rises b c.args.self.now.nodes.now c.args.i l in
    let m = lays-inside b c.args.self.now.nodes.now c.args.i l in
    let e : c.node_at-node.result.end ≡ end_at c.args.self.now.nodes.now c.args.i = ap (λ n. n.end) c.node_at-node.ensures in
    let g = c.in_ok-tally.ensures.room in
    let o = c.open.ensures.length in
    let d = c.close.ensures.length in
    record {
      answer = λ k p x es l.
          gave-beside c.judge.result (judged c.node_at-node.result.place (tally_of c.args.self.now.nodes.now c.in_ok-tally.tally) c.result.result) c.close.new.code _ c.judge.ensures
          (calling-seen c.args.self.now c.node_at-node.result.place c.node_at-node.result.value c.in_ok-k.k c.args.set.now.set (live c.args.code.now) c.in_ok-k.ensures.answer c.in_ok-k.ensures.within (c.in_ok-callable.ensures c.args.self.now.nodes.now) (c.parameters.ensures c.args.self.now.nodes.now) (c.open.ensures.code c.args.self.now.nodes.now) (c.result.ensures c.args.self.now.nodes.now) (ap (λ n. n.place) c.node_at-node.ensures ∙ l.4) (ap (λ n. n.value) c.node_at-node.ensures ∙ l.3) (λ y d. walk_arguments (env_of c.args.self.now) es y c.args.set.now.set d) ∙
          goes _ (c.in_ok-tally.ensures.answer es (subst (λ s. LaysAll (of_arguments es) c.args.self.now.nodes.now (c.args.i + 1) s) (sym (ap (λ n. n.end) c.node_at-node.ensures)) l.5)) ∙
          ap (λ s. beside (judged c.node_at-node.result.place (tally_of c.args.self.now.nodes.now c.in_ok-tally.tally) c.result.result) s) (sym (c.close.ensures.code c.args.self.now.nodes.now)));
      room = grew-judged c.judge.result c.args.self.now.nodes.now (count c.args.code.now) (count c.close.new.code) c.args.i (end_at c.args.self.now.nodes.now c.args.i) (omega arith) (omega arith) h m;
    }

pub statement-unreachable-requires : goal.statement-unreachable-requires
statement-unreachable-requires t c =
    known_at (of_statement c.requires.tree.0) c.args.self.now.nodes.now c.args.i c.requires.tree.1
    (ap (λ n. kind_at n.kind) (sym c.node_at.ensures) ∙ sym c.kind.ensures ∙ c.in_default.is)

pub statement-unreachable-requires-in-Program : goal.statement-unreachable-requires-in-Program
statement-unreachable-requires-in-Program t c =
    let e = statement-kind (statement-at c.args.self.now.nodes.now c.args.i c.in-Some.kind
    (decided c.args.self.now.nodes.now c.args.i c.node_at.ensures c.kind.ensures c.in-Some.is refl) c.requires.tree.0 c.requires.tree.1) in grind (arith, c.in-Program.is)

pub statement-assignment-requires : goal.statement-assignment-requires
statement-assignment-requires t c =
    let v = assignment-at c.args.self.now.nodes.now c.args.i (decided c.args.self.now.nodes.now c.args.i c.node_at.ensures c.kind.ensures c.in-Some.is c.in-Assignment.is) c.requires.tree.0 c.requires.tree.1 in
    (search rules, (c.requires.room, (v.0, v.1, v.2, v.4)))

pub statement-returns-in-Assignment-clause-answer : goal.statement-returns-in-Assignment-clause-answer
statement-returns-in-Assignment-clause-answer t c =
    λ s l.
    let v = assignment-at c.args.self.now.nodes.now c.args.i (decided c.args.self.now.nodes.now c.args.i c.node_at.ensures c.kind.ensures c.in-Some.is c.in-Assignment.is) s l in
    gave-same (λ g. g.set) c.assignment.result c.assignment.new.code (ap (λ s. walk_statement (env_of c.args.self.now) s c.args.set.now.set (live c.args.code.now)) v.3) (c.assignment.ensures.answer v.0 v.1 v.2 v.4)

pub statement-call_statement-requires : goal.statement-call_statement-requires
statement-call_statement-requires t c =
    let v = call-statement-at c.args.self.now.nodes.now c.args.i (decided c.args.self.now.nodes.now c.args.i c.node_at.ensures c.kind.ensures c.in-Some.is c.in-CallStatement.is) c.requires.tree.0 c.requires.tree.1 in
    (search rules, (c.requires.room, (v.0, v.1, v.2, v.4)))

pub statement-returns-in-CallStatement-clause-answer : goal.statement-returns-in-CallStatement-clause-answer
statement-returns-in-CallStatement-clause-answer t c =
    λ s l.
    let v = call-statement-at c.args.self.now.nodes.now c.args.i (decided c.args.self.now.nodes.now c.args.i c.node_at.ensures c.kind.ensures c.in-Some.is c.in-CallStatement.is) s l in
    gave-same (λ g. g.set) c.call_statement.result c.call_statement.new.code (ap (λ s. walk_statement (env_of c.args.self.now) s c.args.set.now.set (live c.args.code.now)) v.3) (c.call_statement.ensures.answer v.0 v.1 v.2 v.4)

pub value_block-overflow_add-i : goal.value_block-overflow_add-i
value_block-overflow_add-i t c =
    let h = lays-here (of_value_block c.requires.tree.0) c.args.self.now.nodes.now c.args.i c.requires.tree.1 in search rules

pub value_block-statements-requires : goal.value_block-statements-requires
value_block-statements-requires t c =
    let v = value-block-at c.args.self.now.nodes.now c.args.i c.requires.tree.0 c.requires.tree.1 in
    let h = lays-here (of_value_block c.requires.tree.0) c.args.self.now.nodes.now c.args.i c.requires.tree.1 in
    let k = lays-inside (of_value_block c.requires.tree.0) c.args.self.now.nodes.now c.args.i c.requires.tree.1 in
    (search rules, (omega arith, ((v.1, final v.2, (subst (λ k. LaysAll (of_statements v.1 (of_final (final v.2))) c.args.self.now.nodes.now (c.args.i + 1) k) (sym c.end_of-stop.ensures) v.4.5)), omega (arith, c.end_of-stop.ensures))))

pub value_block-returns-in_err-inner-clause-answer : goal.value_block-returns-in_err-inner-clause-answer
value_block-returns-in_err-inner-clause-answer t c =
    let q = err_from_is_err_and c.from_residual.result c.from_residual.ensures.1 in
    rw (q.1, q.2) (λ b l.
    let v = value-block-at c.args.self.now.nodes.now c.args.i b l in
    ap (λ d. walk_value_block (env_of c.args.self.now) d c.args.set.now.set (live c.args.code.now)) v.3 ∙ breaks _ (c.in_err-inner.ensures.answer v.1 (final v.2) (subst (λ k. LaysAll (of_statements v.1 (of_final (final v.2))) c.args.self.now.nodes.now (c.args.i + 1) k) (sym c.end_of-stop.ensures) v.4.5)).0)

pub value_block-expression-requires : goal.value_block-expression-requires
value_block-expression-requires t c =
    let v = value-block-at c.args.self.now.nodes.now c.args.i c.requires.tree.0 c.requires.tree.1 in
    let h = lays-here (of_value_block c.requires.tree.0) c.args.self.now.nodes.now c.args.i c.requires.tree.1 in
    let n = (c.in_ok-inner.ensures.answer v.1 (final v.2) (subst (λ k. LaysAll (of_statements v.1 (of_final (final v.2))) c.args.self.now.nodes.now (c.args.i + 1) k) (sym c.end_of-stop.ensures) v.4.5)).1 in
    let g = c.in_ok-inner.ensures.room in
    let k = lays-here (of_expression v.2) c.args.self.now.nodes.now c.in_ok-inner.last n.0 in
    (search rules, (omega arith, (v.2, n.0)))

pub value_block-returns : goal.value_block-returns
value_block-returns t c =
    let v = value-block-at c.args.self.now.nodes.now c.args.i c.requires.tree.0 c.requires.tree.1 in
    let n = (c.in_ok-inner.ensures.answer v.1 (final v.2) (subst (λ k. LaysAll (of_statements v.1 (of_final (final v.2))) c.args.self.now.nodes.now (c.args.i + 1) k) (sym c.end_of-stop.ensures) v.4.5)).1 in
    record {
      answer = λ b l.
          let v = value-block-at c.args.self.now.nodes.now c.args.i b l in
          let r = c.in_ok-inner.ensures.answer v.1 (final v.2) (subst (λ k. LaysAll (of_statements v.1 (of_final (final v.2))) c.args.self.now.nodes.now (c.args.i + 1) k) (sym c.end_of-stop.ensures) v.4.5) in
          gave-same (λ u. u) c.expression.result c.expression.new.code
          (ap (λ d. walk_value_block (env_of c.args.self.now) d c.args.set.now.set (live c.args.code.now)) v.3 ∙ goes _ r.0) (c.expression.ensures.answer v.2 r.1.0);
      room = grew-inner c.expression.result c.args.self.now.nodes.now (count c.args.code.now) (count c.statements.new.code) (count c.expression.new.code) c.args.i c.in_ok-inner.last (end_at c.args.self.now.nodes.now c.args.i)
          c.in_ok-inner.ensures.room.0 c.in_ok-inner.ensures.room.1 c.in_ok-inner.ensures.room.2 (n.1 ∙ c.end_of-stop.ensures) c.expression.ensures.room;
    }

pub arguments-loop-at-init : goal.arguments-loop-at-init
arguments-loop-at-init t c =
    let h = lays-rises-all (of_arguments c.requires.tree.0) c.args.self.now.nodes.now c.args.from c.args.stop c.requires.tree.1 in
    rw c.into_iter-at-iterator.ensures.into_iter_gives (record { over = record { over = refl; to = refl }; behind = omega arith; short = h; grows = omega arith; room = omega arith; onward = λ es l. (es, l, refl) })

pub arguments-expression-requires : goal.arguments-expression-requires
arguments-expression-requires t c =
    let k = a-child c.loop-at.at-iterator c.next.new.self c.loop-at.invariant.over (c.in-Some.at, c.in-Some.field-0-1) c.in-Some.ensures.steps in
    let w = c.loop-at.invariant.onward c.requires.tree.0 c.requires.tree.1 in
    let a = argument-given k w.0 w.1 in
    (search rules, (omega arith, (a.0, a.3)))

pub arguments-returns-in_err-argument : goal.arguments-returns-in_err-argument
arguments-returns-in_err-argument t c =
    let q = err_from_is_err_and c.from_residual.result c.from_residual.ensures.1 in
    let k = a-child c.loop-at.at-iterator c.next.new.self c.loop-at.invariant.over (c.in-Some.at, c.in-Some.field-0-1) c.in-Some.ensures.steps in
    rw (q.1, q.2) (record {
      answer = λ es l.
          let w = c.loop-at.invariant.onward es l in
          let a = argument-given k w.0 w.1 in
          w.2 ∙ ap (λ fs. walk_arguments (env_of c.args.self.now) fs (tally_of c.args.self.now.nodes.now c.loop-at.tally) c.args.set.now.set (live c.loop-at.code)) a.2 ∙ breaks _ (c.in_err-argument.ensures.answer a.0 a.3);
      room = tt;
    })

pub arguments-loop-at-preserved : goal.arguments-loop-at-preserved
arguments-loop-at-preserved t c =
    let k = a-child c.loop-at.at-iterator c.next.new.self c.loop-at.invariant.over (c.in-Some.at, c.in-Some.field-0-1) c.in-Some.ensures.steps in
    let inv = c.loop-at.invariant in
    let g = c.in_ok-argument.ensures.room in
    let e = ap (end_at c.args.self.now.nodes.now) k.number in
    record {
      over = k.onward;
      behind = omega arith;
      short = omega arith;
      grows = omega arith;
      room = omega arith;
      onward = λ es l.
          let w = inv.onward es l in
          let a = argument-given k w.0 w.1 in (
            a.1,
            a.4,
            w.2 ∙ ap (λ fs. walk_arguments (env_of c.args.self.now) fs (tally_of c.args.self.now.nodes.now c.loop-at.tally) c.args.set.now.set (live c.loop-at.code)) a.2 ∙
                goes _ (c.in_ok-argument.ensures.answer a.0 a.3) ∙
                ap (λ y. walk_arguments (env_of c.args.self.now) a.1 y c.args.set.now.set (live c.expression.new.code)) (sym c.take-tally.ensures),
          );
    }

pub arguments-returns : goal.arguments-returns
arguments-returns t c =
    let inv = c.loop-at.invariant in
    let n = no-child c.loop-at.at-iterator c.next.new.self inv.over c.in-None.ensures.steps in
    let m = inv.onward c.requires.tree.0 c.requires.tree.1 in
    let e = (arguments-ended c.args.self.now.nodes.now c.loop-at.at-iterator.at c.args.stop n m.0 m.1).1 in
    record {
      answer = λ es l.
          let w = inv.onward es l in
          w.2 ∙ ap (λ fs. walk_arguments (env_of c.args.self.now) fs (tally_of c.args.self.now.nodes.now c.loop-at.tally) c.args.set.now.set (live c.loop-at.code)) (arguments-ended c.args.self.now.nodes.now c.loop-at.at-iterator.at c.args.stop n w.0 w.1).0;
      room = (omega arith, omega arith, omega arith);
    }

pub statements-loop-at-init : goal.statements-loop-at-init
statements-loop-at-init t c =
    let h = lays-rises-all (of_statements c.requires.tree.0 (of_final c.requires.tree.1)) c.args.self.now.nodes.now c.args.from c.args.stop c.requires.tree.2 in
    rw c.into_iter-at-iterator.ensures.into_iter_gives (record { over = record { over = refl; to = refl }; behind = omega arith; short = h; grows = omega arith; room = omega arith; onward = λ ss f l. (ss, l, refl) })

pub statements-returns-then-ne : goal.statements-returns-then-ne
statements-returns-then-ne t c =
    let inv = c.loop-at.invariant in
    let k = a-child c.loop-at.at-iterator c.next.new.self c.loop-at.invariant.over (c.in-Some.at, c.in-Some.node) c.in-Some.ensures.steps in
    let n : class_or (kind_at c.in-Some.node.kind) ≡ classes.Statement → ⊥ = λ e. search rules in
    record {
      answer = λ ss f l.
          let w = inv.onward ss f l in
          let z = another-given k n w.0 f w.1 in
          (w.2 ∙ ap (λ rs. walk_statements (env_of c.args.self.now) rs c.loop-at.flags.set (live c.loop-at.code)) z.0, z.1);
      room = (omega arith, omega arith, omega arith, omega arith);
    }

pub statements-statement-requires : goal.statements-statement-requires
statements-statement-requires t c =
    let k = a-child c.loop-at.at-iterator c.next.new.self c.loop-at.invariant.over (c.in-Some.at, c.in-Some.node) c.in-Some.ensures.steps in
    let s : class_or (kind_at c.in-Some.node.kind) ≡ classes.Statement = search rules in
    let w = c.loop-at.invariant.onward c.requires.tree.0 c.requires.tree.1 c.requires.tree.2 in
    let a = statement-given k s w.0 c.requires.tree.1 w.1 in
    (search rules, (omega arith, (a.0, a.3)))

pub statements-returns-in_err-flags : goal.statements-returns-in_err-flags
statements-returns-in_err-flags t c =
    let q = err_from_is_err_and c.from_residual.result c.from_residual.ensures.1 in
    let k = a-child c.loop-at.at-iterator c.next.new.self c.loop-at.invariant.over (c.in-Some.at, c.in-Some.node) c.in-Some.ensures.steps in
    let s : class_or (kind_at c.in-Some.node.kind) ≡ classes.Statement = search rules in
    rw (q.1, q.2) (record {
      answer = λ ss f l.
          let w = c.loop-at.invariant.onward ss f l in
          let a = statement-given k s w.0 f w.1 in
          (w.2 ∙ ap (λ rs. walk_statements (env_of c.args.self.now) rs c.loop-at.flags.set (live c.loop-at.code)) a.2 ∙ breaks _ (c.in_err-flags.ensures.answer a.0 a.3), tt);
      room = tt;
    })

pub statements-loop-at-preserved : goal.statements-loop-at-preserved
statements-loop-at-preserved t c =
    let k = a-child c.loop-at.at-iterator c.next.new.self c.loop-at.invariant.over (c.in-Some.at, c.in-Some.node) c.in-Some.ensures.steps in
    let s : class_or (kind_at c.in-Some.node.kind) ≡ classes.Statement = search rules in
    let inv = c.loop-at.invariant in
    let g = c.in_ok-flags.ensures.room in
    let e = ap (end_at c.args.self.now.nodes.now) k.number in
    record {
      over = k.onward;
      behind = omega arith;
      short = omega arith;
      grows = omega arith;
      room = omega arith;
      onward = λ ss f l.
          let w = inv.onward ss f l in
          let a = statement-given k s w.0 f w.1 in (
            a.1,
            a.4,
            w.2 ∙ ap (λ rs. walk_statements (env_of c.args.self.now) rs c.loop-at.flags.set (live c.loop-at.code)) a.2 ∙ goes _ (c.in_ok-flags.ensures.answer a.0 a.3),
          );
    }

pub statements-returns : goal.statements-returns
statements-returns t c =
    let inv = c.loop-at.invariant in
    let n = no-child c.loop-at.at-iterator c.next.new.self inv.over c.in-None.ensures.steps in
    let m = inv.onward c.requires.tree.0 c.requires.tree.1 c.requires.tree.2 in
    let e = (statements-ended c.args.self.now.nodes.now c.loop-at.at-iterator.at c.args.stop n m.0 c.requires.tree.1 m.1).1 in
    record {
      answer = λ ss f l.
          let w = inv.onward ss f l in
          let z = statements-ended c.args.self.now.nodes.now c.loop-at.at-iterator.at c.args.stop n w.0 f w.1 in
          (w.2 ∙ ap (λ rs. walk_statements (env_of c.args.self.now) rs c.loop-at.flags.set (live c.loop-at.code)) z.0, z.2);
      room = (omega arith, omega arith, omega arith, omega arith);
    }

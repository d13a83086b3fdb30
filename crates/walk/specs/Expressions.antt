-- The walk over expressions and statements: the type of an expression, or what a statement leaves set, with the code that is laid; or the refusal that is met first. Assumes nothing.
use Rattle.std.specs.Prelude.{ℕ, ◌+◌, Bool, true, false, List, length, Ok, Result}
use Rattle.language.specs.declared.faults.Fault.{Fault}
use Rattle.language.specs.declared.values.ValueType.{ValueType}
use Rattle.language.specs.declared.values.ValueType.TheVariants.{Void, Int, Bool as Truths}
use Rattle.language.specs.Numbers.{operator_number}
use Rattle.table.specs.Tree.{Expression, Arguments, Statement, Statements, Block, ValueBlock}
use Rattle.table.specs.Tree.Expression.{integer, truth, read, negation, operation, choice, call}
use Rattle.table.specs.Tree.Arguments.{no_arguments, argument}
use Rattle.table.specs.Tree.Statement.{assignment, call_statement, if_then, if_else}
use Rattle.table.specs.Tree.Statements.{no_statements, statement}
use Rattle.table.specs.Tree.Block.{block}
use Rattle.table.specs.Tree.ValueBlock.{value_block}
use Rattle.table.specs.Layout.{truth_number}
use Rattle.walk.specs.declared.codes.Instr.{Instr}
use Rattle.walk.specs.Bind.{bind, beside}
use Rattle.walk.specs.Lay.{laid, aimed}
use Rattle.walk.specs.Sets.{marked, both, must_be_set}
use Rattle.walk.specs.Scopes.{Env, entry, found, as_variable, callable, operand_of, result_of, parameters_of, opened, closed}
use Rattle.walk.specs.Types.{same_type, typed, operation_type, negation_type, choice_type, Tallied, tallied, one_more, judged}

-- a read: declared, a variable, set
abbrev pub reading : Env → ℕ → ℕ → List Bool → List Instr → Result (ValueType × List Instr) Fault
reading env p x flags code =
    bind (found p env x)
    (λ k. bind (as_variable p (entry env k))
    (λ v. bind (must_be_set p flags k) (λ _. Ok (v.typed, laid code 3 (operand_of env.level v)))))

-- a call, where the walk over its arguments is given: declared, no variable, then its arguments, their number, their types
abbrev pub calling : Env → ℕ → ℕ → List Instr → (Tallied → List Instr → Result (Tallied × List Instr) Fault) → Result (ValueType × List Instr) Fault
calling env p x code arguments =
    bind (found p env x)
    (λ k. bind (callable p (entry env k).thing)
    (λ _. bind (arguments (tallied (parameters_of (entry env k).thing) false true) (opened env.level (entry env k).level (entry env k).thing code))
    (λ r. beside (judged p r.0 (result_of (entry env k).thing)) (closed (entry env k).thing r.1))))

-- a result that nothing wants is dropped
abbrev pub dropped : ValueType → List Instr → List Instr
dropped Void code = code
dropped Int code = laid code 17 0
dropped Truths code = laid code 17 0

abbrev mutual
  pub walk_expression : Env → Expression → List Bool → List Instr → Result (ValueType × List Instr) Fault
  walk_expression env (integer p n) flags code = Ok (Int, laid code 1 n)
  walk_expression env (truth p b) flags code = Ok (Truths, laid code 2 (truth_number b))
  walk_expression env (read p x) flags code = reading env p x flags code
  walk_expression env (negation p e) flags code =
      bind (walk_expression env e flags code) (λ r. beside (negation_type p r.0) (laid r.1 16 0))
  walk_expression env (operation p o a b) flags code =
      bind (walk_expression env a flags code)
      (λ r. bind (walk_expression env b flags r.1)
      (λ s. beside (operation_type p o r.0 s.0) (laid s.1 (operator_number o + 4) 0)))
  walk_expression env (choice p c a b) flags code =
      bind (walk_expression env c flags code)
      (λ r. bind (walk_value_block env a flags (laid r.1 19 0))
      (λ s. bind (walk_value_block env b flags (aimed (laid s.1 18 0) (length r.1) 19))
      (λ t. beside (choice_type p r.0 s.0 t.0) (aimed t.1 (length s.1) 18))))
  walk_expression env (call p x es) flags code = calling env p x code (λ y c. walk_arguments env es y flags c)

  -- arguments, each held against its parameter
  pub walk_arguments : Env → Arguments → Tallied → List Bool → List Instr → Result (Tallied × List Instr) Fault
  walk_arguments env no_arguments y flags code = Ok (y, code)
  walk_arguments env (argument e es) y flags code =
      bind (walk_expression env e flags code) (λ r. walk_arguments env es (one_more y r.0) flags r.1)

  -- what a statement leaves set
  pub walk_statement : Env → Statement → List Bool → List Instr → Result (List Bool × List Instr) Fault
  walk_statement env (assignment p x e) flags code =
      bind (found p env x)
      (λ k. bind (as_variable p (entry env k))
      (λ v. bind (walk_expression env e flags code)
      (λ r. beside (typed p (same_type r.0 v.typed) (marked flags k true)) (laid r.1 4 (operand_of env.level v)))))
  walk_statement env (call_statement p x es) flags code =
      bind (calling env p x code (λ y c. walk_arguments env es y flags c)) (λ r. Ok (flags, dropped r.0 r.1))
  walk_statement env (if_then p c a) flags code =
      bind (walk_expression env c flags code)
      (λ r. bind (walk_block env a flags (laid r.1 19 0))
      (λ s. beside (typed p (same_type r.0 Truths) flags) (aimed s.1 (length r.1) 19)))
  walk_statement env (if_else p c a b) flags code =
      bind (walk_expression env c flags code)
      (λ r. bind (walk_block env a flags (laid r.1 19 0))
      (λ s. bind (walk_block env b flags (aimed (laid s.1 18 0) (length r.1) 19))
      (λ t. beside (typed p (same_type r.0 Truths) (both s.0 t.0)) (aimed t.1 (length s.1) 18))))

  -- statements in their order, each from what the one before left set
  pub walk_statements : Env → Statements → List Bool → List Instr → Result (List Bool × List Instr) Fault
  walk_statements env no_statements flags code = Ok (flags, code)
  walk_statements env (statement s ss) flags code =
      bind (walk_statement env s flags code) (λ r. walk_statements env ss r.0 r.1)

  pub walk_block : Env → Block → List Bool → List Instr → Result (List Bool × List Instr) Fault
  walk_block env (block p s ss) flags code =
      bind (walk_statement env s flags code) (λ r. walk_statements env ss r.0 r.1)

  -- what a value block sets is forgotten
  pub walk_value_block : Env → ValueBlock → List Bool → List Instr → Result (ValueType × List Instr) Fault
  walk_value_block env (value_block p ss e) flags code =
      bind (walk_statements env ss flags code) (λ r. walk_expression env e r.0 r.1)

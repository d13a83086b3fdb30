-- The table that lays a tree out: first each node of the tree as a branch, with its kind, sub, value and place and the branches below it, then the branches as records in pre-order. Assumes nothing.
use Rattle.std.specs.Prelude.{◌≡◌, ℕ, ◌+◌, Bool, true, false, List, [], ◌∷◌, ◌++◌}
use Rattle.language.specs.Numbers.{type_number, operator_number}
use Rattle.table.specs.declared.kinds.Kind.{Kind}
use Rattle.table.specs.declared.kinds.Kind.TheVariants as kinds
use Rattle.table.specs.declared.nodes.Node.{Node}
use Rattle.table.specs.Kinds.{kind_number, limits_of, within}
use Rattle.table.specs.Tree.{Expression, Arguments, Statement, Statements, Block, ValueBlock, Final, Parameter, Declaration, Declarations, Body, Program}
use Rattle.table.specs.Tree.Expression.{integer, truth, read, negation, operation, choice, call}
use Rattle.table.specs.Tree.Arguments.{no_arguments, argument}
use Rattle.table.specs.Tree.Statement.{assignment, call_statement, if_then, if_else}
use Rattle.table.specs.Tree.Statements.{no_statements, statement}
use Rattle.table.specs.Tree.Block.{block}
use Rattle.table.specs.Tree.ValueBlock.{value_block}
use Rattle.table.specs.Tree.Final.{no_final, final}
use Rattle.table.specs.Tree.Parameter.{parameter}
use Rattle.table.specs.Tree.Declaration.{variable, function}
use Rattle.table.specs.Tree.Declarations.{no_declarations, declaration}
use Rattle.table.specs.Tree.Body.{body}
use Rattle.table.specs.Tree.Program.{single, whole}

-- a node of any kind with all below it
mutual
  pub data Branch : Type 0 where
    branch : (kind : Kind) (sub value place : ℕ) → Branches → Branch

  pub data Branches : Type 0 where
    nil : Branches
    cons : Branch → Branches → Branches

-- the number after the last node of a branch whose first has number i
abbrev mutual
  pub end_of : ℕ → Branch → ℕ
  end_of i (branch k s v p bs) = end_of_all (i + 1) bs

  pub end_of_all : ℕ → Branches → ℕ
  end_of_all i nil = i
  end_of_all i (cons b bs) = end_of_all (end_of i b) bs

-- the records of a branch whose first has number i: its own, with its end, then those below it
abbrev mutual
  pub records : ℕ → Branch → List Node
  records i (branch k s v p bs) = record { kind = kind_number k; sub = s; value = v; end = end_of_all (i + 1) bs; place = p } ∷ records_of_all (i + 1) bs

  pub records_of_all : ℕ → Branches → List Node
  records_of_all i nil = []
  records_of_all i (cons b bs) = records i b ++ records_of_all (end_of i b) bs

-- all records of a branch keep to the limits of their kinds
abbrev mutual
  pub Limited : Branch → Type 0
  Limited (branch k s v p bs) = (within (limits_of k) s v ≡ true) × LimitedAll bs

  pub LimitedAll : Branches → Type 0
  LimitedAll nil = Unit {0}
  LimitedAll (cons b bs) = Limited b × LimitedAll bs

-- the value of a truth record
abbrev pub truth_number : Bool → ℕ
truth_number false = 0
truth_number true = 1

-- each node of the tree as a branch; a list of nodes goes before others
abbrev mutual
  pub of_expression : Expression → Branch
  of_expression (integer p n) = branch kinds.Integer 0 n p nil
  of_expression (truth p b) = branch kinds.Truth 0 (truth_number b) p nil
  of_expression (read p x) = branch kinds.Read 0 x p nil
  of_expression (negation p e) = branch kinds.Not 0 0 p (cons (of_expression e) nil)
  of_expression (operation p o a b) = branch kinds.Operator (operator_number o) 0 p (cons (of_expression a) (cons (of_expression b) nil))
  of_expression (choice p c a b) = branch kinds.IfExpression 0 0 p (cons (of_expression c) (cons (of_value_block a) (cons (of_value_block b) nil)))
  of_expression (call p x es) = branch kinds.Call 0 x p (of_arguments es)

  pub of_arguments : Arguments → Branches
  of_arguments no_arguments = nil
  of_arguments (argument e es) = cons (of_expression e) (of_arguments es)

  pub of_statement : Statement → Branch
  of_statement (assignment p x e) = branch kinds.Assignment 0 x p (cons (of_expression e) nil)
  of_statement (call_statement p x es) = branch kinds.CallStatement 0 x p (of_arguments es)
  of_statement (if_then p c a) = branch kinds.IfStatement 0 0 p (cons (of_expression c) (cons (of_block a) nil))
  of_statement (if_else p c a b) = branch kinds.IfStatement 0 0 p (cons (of_expression c) (cons (of_block a) (cons (of_block b) nil)))

  pub of_statements : Statements → Branches → Branches
  of_statements no_statements others = others
  of_statements (statement s ss) others = cons (of_statement s) (of_statements ss others)

  pub of_block : Block → Branch
  of_block (block p s ss) = branch kinds.Block 0 0 p (cons (of_statement s) (of_statements ss nil))

  pub of_value_block : ValueBlock → Branch
  of_value_block (value_block p ss e) = branch kinds.ValueBlock 0 0 p (of_statements ss (cons (of_expression e) nil))

abbrev pub of_final : Final → Branches
of_final no_final = nil
of_final (final e) = cons (of_expression e) nil

abbrev pub of_parameter : Parameter → Branch
of_parameter (parameter p t x) = branch kinds.Parameter (type_number t) x p nil

abbrev pub of_parameters : List Parameter → Branches → Branches
of_parameters [] others = others
of_parameters (q ∷ qs) others = cons (of_parameter q) (of_parameters qs others)

abbrev mutual
  pub of_declaration : Declaration → Branch
  of_declaration (variable p t x) = branch kinds.Variable (type_number t) x p nil
  of_declaration (function p t x qs b) = branch kinds.Function (type_number t) x p (of_parameters qs (cons (of_body b) nil))

  pub of_declarations : Declarations → Branches → Branches
  of_declarations no_declarations others = others
  of_declarations (declaration d ds) others = cons (of_declaration d) (of_declarations ds others)

  pub of_body : Body → Branch
  of_body (body p ds ss f) = branch kinds.Body 0 0 p (of_declarations ds (of_statements ss (of_final f)))

abbrev pub of_program : Program → Branch
of_program (single p e) = branch kinds.Program 0 0 p (cons (of_expression e) nil)
of_program (whole p d ds ss f) = branch kinds.Program 0 0 p (of_declarations (declaration d ds) (of_statements ss (of_final f)))

-- the table of a program
abbrev pub layout : Program → List Node
layout t = records 0 (of_program t)

-- names, integers and types of the program keep to their limits
abbrev pub WithinLimits : Program → Type 0
WithinLimits t = Limited (of_program t)

-- some program lays the table out
abbrev pub LaidOut : List Node → Type 0
LaidOut table = (t : Program) × WithinLimits t × (layout t ≡ table)

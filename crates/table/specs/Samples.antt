-- Rule sets as trees and as tables, their places the byte offsets in their texts: an operator's is that of its symbol, a block's or body's that of its brace, the program's 0, any other that of its name, or without one of its number or word. The names amount, flag and post are 0, 1 and 2; others count from 3 by first appearance. Assumes nothing.
use Rattle.std.specs.Prelude.{◌≡◌, ℕ, true, false, List, [], ◌∷◌}
use Rattle.language.specs.declared.values.ValueType.TheVariants as types
use Rattle.language.specs.declared.values.Operator.TheVariants.{Multiply, Divide, Add, Subtract, Equal, And, Or}
use Rattle.table.specs.declared.nodes.Node.{Node}
use Rattle.table.specs.Tree.{Program}
use Rattle.table.specs.Tree.Expression.{integer, truth, read, operation, choice, call}
use Rattle.table.specs.Tree.Arguments.{no_arguments, argument}
use Rattle.table.specs.Tree.Statement.{assignment, call_statement, if_then, if_else}
use Rattle.table.specs.Tree.Statements.{no_statements, statement}
use Rattle.table.specs.Tree.Block.{block}
use Rattle.table.specs.Tree.ValueBlock.{value_block}
use Rattle.table.specs.Tree.Final.{no_final, final}
use Rattle.table.specs.Tree.Parameter.{parameter}
use Rattle.table.specs.Tree.Declaration.{variable, function}
use Rattle.table.specs.Tree.Declarations.{no_declarations, declaration}
use Rattle.table.specs.Tree.Body.{body}
use Rattle.table.specs.Tree.Program.{single, whole}
use Rattle.table.specs.Layout.{layout, WithinLimits}

-- kind, sub, value, end, place
abbrev pub node : ℕ → ℕ → ℕ → ℕ → ℕ → Node
node k s v e p = record { kind = k; sub = s; value = v; end = e; place = p }

-- 1 + 2 * 3
abbrev pub sum_tree : Program
sum_tree = single 0 (operation 2 Add (integer 0 1) (operation 6 Multiply (integer 4 2) (integer 8 3)))

abbrev pub sum_table : List Node
sum_table =
    node 1 0 0 6 0 ∷
    node 14 3 0 6 2 ∷
    node 10 0 1 3 0 ∷
    node 14 1 0 6 6 ∷
    node 10 0 2 5 4 ∷
    node 10 0 3 6 8 ∷
    []

-- int s(int n) { if (n == 0) { 0 } else { n + s(n - 1) } } s(4)
abbrev pub recursion_tree : Program
recursion_tree = whole 0 (function 4 types.Int 3 (parameter 10 types.Int 4 ∷ []) (body 13 no_declarations no_statements (final (choice 15 (operation 21 Equal (read 19 4) (integer 24 0)) (value_block 27 no_statements (integer 29 0)) (value_block 38 no_statements (operation 42 Add (read 40 4) (call 44 3 (argument (operation 48 Subtract (read 46 4) (integer 50 1)) no_arguments)))))))) no_declarations no_statements (final (call 57 3 (argument (integer 59 4) no_arguments)))

abbrev pub recursion_table : List Node
recursion_table =
    node 1 0 0 19 0 ∷
    node 3 1 3 17 4 ∷
    node 4 1 4 3 10 ∷
    node 5 0 0 17 13 ∷
    node 15 0 0 17 15 ∷
    node 14 9 0 8 21 ∷
    node 12 0 4 7 19 ∷
    node 10 0 0 8 24 ∷
    node 16 0 0 10 27 ∷
    node 10 0 0 10 29 ∷
    node 16 0 0 17 38 ∷
    node 14 3 0 17 42 ∷
    node 12 0 4 13 40 ∷
    node 17 0 3 17 44 ∷
    node 14 4 0 17 48 ∷
    node 12 0 4 16 46 ∷
    node 10 0 1 17 50 ∷
    node 17 0 3 19 57 ∷
    node 10 0 4 19 59 ∷
    []

-- int a; if (true) { a = 1; } a
abbrev pub one_branch_tree : Program
one_branch_tree = whole 0 (variable 4 types.Int 3) no_declarations (statement (if_then 7 (truth 11 true) (block 17 (assignment 19 3 (integer 23 1)) no_statements)) no_statements) (final (read 28 3))

abbrev pub one_branch_table : List Node
one_branch_table =
    node 1 0 0 8 0 ∷
    node 2 1 3 2 4 ∷
    node 8 0 0 7 7 ∷
    node 11 0 1 4 11 ∷
    node 9 0 0 7 17 ∷
    node 6 0 3 7 19 ∷
    node 10 0 1 7 23 ∷
    node 12 0 3 8 28 ∷
    []

-- int a; if (true) { a = 1; } else { a = 2; } a
abbrev pub two_branches_tree : Program
two_branches_tree = whole 0 (variable 4 types.Int 3) no_declarations (statement (if_else 7 (truth 11 true) (block 17 (assignment 19 3 (integer 23 1)) no_statements) (block 33 (assignment 35 3 (integer 39 2)) no_statements)) no_statements) (final (read 44 3))

abbrev pub two_branches_table : List Node
two_branches_table =
    node 1 0 0 11 0 ∷
    node 2 1 3 2 4 ∷
    node 8 0 0 10 7 ∷
    node 11 0 1 4 11 ∷
    node 9 0 0 7 17 ∷
    node 6 0 3 7 19 ∷
    node 10 0 1 7 23 ∷
    node 9 0 0 10 33 ∷
    node 6 0 3 10 35 ∷
    node 10 0 2 10 39 ∷
    node 12 0 3 11 44 ∷
    []

-- int a; void f(int n) { } f(a)
abbrev pub unset_argument_tree : Program
unset_argument_tree = whole 0 (variable 4 types.Int 3) (declaration (function 12 types.Void 4 (parameter 18 types.Int 5 ∷ []) (body 21 no_declarations no_statements no_final)) no_declarations) no_statements (final (call 25 4 (argument (read 27 3) no_arguments)))

abbrev pub unset_argument_table : List Node
unset_argument_table =
    node 1 0 0 7 0 ∷
    node 2 1 3 2 4 ∷
    node 3 0 4 5 12 ∷
    node 4 1 5 4 18 ∷
    node 5 0 0 5 21 ∷
    node 17 0 4 7 25 ∷
    node 12 0 3 7 27 ∷
    []

-- int a; int f() { a = 3; a } f() + a
abbrev pub set_in_body_tree : Program
set_in_body_tree = whole 0 (variable 4 types.Int 3) (declaration (function 11 types.Int 4 [] (body 15 no_declarations (statement (assignment 17 3 (integer 21 3)) no_statements) (final (read 24 3)))) no_declarations) no_statements (final (operation 32 Add (call 28 4 no_arguments) (read 34 3)))

abbrev pub set_in_body_table : List Node
set_in_body_table =
    node 1 0 0 10 0 ∷
    node 2 1 3 2 4 ∷
    node 3 1 4 7 11 ∷
    node 5 0 0 7 15 ∷
    node 6 0 3 6 17 ∷
    node 10 0 3 6 21 ∷
    node 12 0 3 7 24 ∷
    node 14 3 0 10 32 ∷
    node 17 0 4 9 28 ∷
    node 12 0 3 10 34 ∷
    []

-- (0 - 7) / 2
abbrev pub quotient_tree : Program
quotient_tree = single 0 (operation 8 Divide (operation 3 Subtract (integer 1 0) (integer 5 7)) (integer 10 2))

abbrev pub quotient_table : List Node
quotient_table =
    node 1 0 0 6 0 ∷
    node 14 2 0 6 8 ∷
    node 14 4 0 5 3 ∷
    node 10 0 0 4 1 ∷
    node 10 0 7 5 5 ∷
    node 10 0 2 6 10 ∷
    []

-- (0 - 2147483647 - 1) / (0 - 1)
abbrev pub least_quotient_tree : Program
least_quotient_tree = single 0 (operation 21 Divide (operation 16 Subtract (operation 3 Subtract (integer 1 0) (integer 5 2147483647)) (integer 18 1)) (operation 26 Subtract (integer 24 0) (integer 28 1)))

abbrev pub least_quotient_table : List Node
least_quotient_table =
    node 1 0 0 10 0 ∷
    node 14 2 0 10 21 ∷
    node 14 4 0 7 16 ∷
    node 14 4 0 6 3 ∷
    node 10 0 0 5 1 ∷
    node 10 0 2147483647 6 5 ∷
    node 10 0 1 7 18 ∷
    node 14 4 0 10 26 ∷
    node 10 0 0 9 24 ∷
    node 10 0 1 10 28 ∷
    []

-- 7 / 0
abbrev pub by_zero_tree : Program
by_zero_tree = single 0 (operation 2 Divide (integer 0 7) (integer 4 0))

abbrev pub by_zero_table : List Node
by_zero_table =
    node 1 0 0 4 0 ∷
    node 14 2 0 4 2 ∷
    node 10 0 7 3 0 ∷
    node 10 0 0 4 4 ∷
    []

-- true || false && false
abbrev pub grouped_tree : Program
grouped_tree = single 0 (operation 14 And (operation 5 Or (truth 0 true) (truth 8 false)) (truth 17 false))

abbrev pub grouped_table : List Node
grouped_table =
    node 1 0 0 6 0 ∷
    node 14 10 0 6 14 ∷
    node 14 11 0 5 5 ∷
    node 11 0 1 4 0 ∷
    node 11 0 0 5 8 ∷
    node 11 0 0 6 17 ∷
    []

-- true || 1 / 0 == 1
abbrev pub both_sides_tree : Program
both_sides_tree = single 0 (operation 5 Or (truth 0 true) (operation 14 Equal (operation 10 Divide (integer 8 1) (integer 12 0)) (integer 17 1)))

abbrev pub both_sides_table : List Node
both_sides_table =
    node 1 0 0 8 0 ∷
    node 14 11 0 8 5 ∷
    node 11 0 1 3 0 ∷
    node 14 9 0 8 14 ∷
    node 14 2 0 7 10 ∷
    node 10 0 1 6 8 ∷
    node 10 0 0 7 12 ∷
    node 10 0 1 8 17 ∷
    []

-- int a; post(3, 40); post(3, 2);
abbrev pub postings_tree : Program
postings_tree = whole 0 (variable 4 types.Int 3) no_declarations (statement (call_statement 7 2 (argument (integer 12 3) (argument (integer 15 40) no_arguments))) (statement (call_statement 20 2 (argument (integer 25 3) (argument (integer 28 2) no_arguments))) no_statements)) no_final

abbrev pub postings_table : List Node
postings_table =
    node 1 0 0 8 0 ∷
    node 2 1 3 2 4 ∷
    node 7 0 2 5 7 ∷
    node 10 0 3 4 12 ∷
    node 10 0 40 5 15 ∷
    node 7 0 2 8 20 ∷
    node 10 0 3 7 25 ∷
    node 10 0 2 8 28 ∷
    []

-- flag(256)
abbrev pub field_outside_tree : Program
field_outside_tree = single 0 (call 0 1 (argument (integer 5 256) no_arguments))

abbrev pub field_outside_table : List Node
field_outside_table =
    node 1 0 0 3 0 ∷
    node 17 0 1 3 0 ∷
    node 10 0 256 3 5 ∷
    []

-- each with its table
abbrev pub samples : List (Program × List Node)
samples =
    (sum_tree, sum_table) ∷
    (recursion_tree, recursion_table) ∷
    (one_branch_tree, one_branch_table) ∷
    (two_branches_tree, two_branches_table) ∷
    (unset_argument_tree, unset_argument_table) ∷
    (set_in_body_tree, set_in_body_table) ∷
    (quotient_tree, quotient_table) ∷
    (least_quotient_tree, least_quotient_table) ∷
    (by_zero_tree, by_zero_table) ∷
    (grouped_tree, grouped_table) ∷
    (both_sides_tree, both_sides_table) ∷
    (postings_tree, postings_table) ∷
    (field_outside_tree, field_outside_table) ∷
    []

-- every tree of the list keeps to its limits and lays its table out
abbrev pub AllLaidOut : List (Program × List Node) → Type 0
AllLaidOut [] = Unit {0}
AllLaidOut (s ∷ ss) = WithinLimits s.0 × (layout s.0 ≡ s.1) × AllLaidOut ss

abbrev pub SamplesLaidOut : Type 0
SamplesLaidOut = AllLaidOut samples

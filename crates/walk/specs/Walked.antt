-- What the functions of the walk ask of the table, the names and the code, and what they answer. Assumes nothing.
use Rattle.std.specs.Prelude.{◌≡◌, ℕ, ◌+◌, ◌*◌, ◌<◌, ◌≤◌, true, false, List, length, Some, Ok, Err, Result}
use Rattle.language.specs.declared.faults.Fault.{Fault}
use Rattle.language.specs.declared.values.ValueType.{ValueType}
use Rattle.language.specs.declared.values.Operator.{Operator}
use Rattle.table.specs.declared.kinds.Kind.{Kind}
use Rattle.table.specs.declared.nodes.Node.{Node}
use Rattle.table.specs.Kinds.{kind_at}
use Rattle.table.specs.Listed.{node_at}
use Rattle.table.specs.Tree.{Expression, Arguments, Statement, Statements, Block, ValueBlock, Final}
use Rattle.table.specs.Tree.Expression.{negation, operation, choice}
use Rattle.table.specs.Tree.Statement.{assignment, call_statement, if_then, if_else}
use Rattle.table.specs.Layout.{of_expression, of_arguments, of_statement, of_statements, of_block, of_value_block, of_final}
use Rattle.table.specs.Layout.Branch.{branch}
use Rattle.table.specs.Lays.{Lays, LaysAll}
use Rattle.walk.specs.declared.codes.Instr.{Instr}
use Rattle.walk.specs.declared.codes.Code.{Code}
use Rattle.walk.specs.declared.contexts.Context.{Context}
use Rattle.walk.specs.declared.flags.Flags.{Flags}
use Rattle.walk.specs.declared.names.Parameters.{Parameters}
use Rattle.walk.specs.declared.names.Tally.{Tally}
use Rattle.walk.specs.Lay.{live}
use Rattle.walk.specs.Scopes.{Env}
use Rattle.walk.specs.Types.{tallied}
use Rattle.walk.specs.Known.{seen, comes, tally_of}
use Rattle.walk.specs.Expressions.{reading, calling, walk_expression, walk_arguments, walk_statement, walk_statements, walk_block, walk_value_block}

-- the names that the walk sees, and its level
abbrev pub env_of : Context → Env
env_of context = seen context.nodes.now context.names.now context.level

-- where nothing is refused, the node ends further on, within the table, and three instructions at most were laid for each node from one to the other
abbrev pub Grew : {A : Type 0} → Result A Fault → List Node → ℕ → ℕ → ℕ → ℕ → Type 0
Grew (Ok a) table before after i end = (before ≤ after) × (after + 3 * i ≤ before + 3 * end) × (i < end) × (end ≤ length table)
Grew (Err e) table before after i end = Unit {0}

-- what came out, with the code that is laid, is the walk's answer; after a refusal nothing is said of the code
abbrev pub Gave : {A B : Type 0} → (A → B) → Result A Fault → Code → Result (B × List Instr) Fault → Type 0
Gave f (Ok a) code answer = answer ≡ Ok (f a, live code)
Gave f (Err e) code answer = answer ≡ Err e

-- the kind of node i
abbrev pub IsKind : List Node → ℕ → Kind → Type 0
IsKind table i k = kind_at (node_at table i).kind ≡ Some k

-- the table has an expression at node i, and for whichever it is the answer is the walk's
abbrev pub HasExpression : List Node → ℕ → Type 0
HasExpression table i = (e : Expression) × Lays (of_expression e) table i

abbrev pub GaveExpression : Context → Flags → Code → ℕ → Result ValueType Fault → Code → Type 0
GaveExpression context flags before i r after =
    (e : Expression) → Lays (of_expression e) context.nodes.now i → Gave (λ t. t) r after (walk_expression (env_of context) e flags.set (live before))

-- a read
abbrev pub GaveRead : Context → Flags → Code → Node → Result ValueType Fault → Code → Type 0
GaveRead context flags before node r after =
    Gave (λ t. t) r after (reading (env_of context) node.place node.value flags.set (live before))

-- one instruction
abbrev pub GrewOne : Result ValueType Fault → ℕ → ℕ → Type 0
GrewOne (Ok a) before after = after ≡ before + 1
GrewOne (Err e) before after = Unit {0}

-- a not
abbrev pub HasNot : List Node → ℕ → Type 0
HasNot table i = (p : ℕ) × (a : Expression) × Lays (of_expression (negation p a)) table i

abbrev pub GaveNot : Context → Flags → Code → ℕ → Result ValueType Fault → Code → Type 0
GaveNot context flags before i r after =
    (p : ℕ) (a : Expression) → Lays (of_expression (negation p a)) context.nodes.now i → Gave (λ t. t) r after (walk_expression (env_of context) (negation p a) flags.set (live before))

-- an operator
abbrev pub HasOperation : List Node → ℕ → Type 0
HasOperation table i = (p : ℕ) × (o : Operator) × (a : Expression) × (b : Expression) × Lays (of_expression (operation p o a b)) table i

abbrev pub GaveOperation : Context → Flags → Code → ℕ → Result ValueType Fault → Code → Type 0
GaveOperation context flags before i r after =
    (p : ℕ) (o : Operator) (a : Expression) (b : Expression) → Lays (of_expression (operation p o a b)) context.nodes.now i → Gave (λ t. t) r after (walk_expression (env_of context) (operation p o a b) flags.set (live before))

-- an if with a value
abbrev pub HasChoice : List Node → ℕ → Type 0
HasChoice table i = (p : ℕ) × (c : Expression) × (a : ValueBlock) × (b : ValueBlock) × Lays (of_expression (choice p c a b)) table i

abbrev pub GaveChoice : Context → Flags → Code → ℕ → Result ValueType Fault → Code → Type 0
GaveChoice context flags before i r after =
    (p : ℕ) (c : Expression) (a : ValueBlock) (b : ValueBlock) → Lays (of_expression (choice p c a b)) context.nodes.now i → Gave (λ t. t) r after (walk_expression (env_of context) (choice p c a b) flags.set (live before))

-- an assignment
abbrev pub HasAssignment : List Node → ℕ → Type 0
HasAssignment table i = (p : ℕ) × (x : ℕ) × (e : Expression) × Lays (of_statement (assignment p x e)) table i

abbrev pub GaveAssignment : Context → Flags → Code → ℕ → Result Flags Fault → Code → Type 0
GaveAssignment context flags before i r after =
    (p : ℕ) (x : ℕ) (e : Expression) → Lays (of_statement (assignment p x e)) context.nodes.now i → Gave (λ g. g.set) r after (walk_statement (env_of context) (assignment p x e) flags.set (live before))

-- a call that stands alone
abbrev pub HasCallStatement : List Node → ℕ → Type 0
HasCallStatement table i = (p : ℕ) × (x : ℕ) × (es : Arguments) × Lays (of_statement (call_statement p x es)) table i

abbrev pub GaveCallStatement : Context → Flags → Code → ℕ → Result Flags Fault → Code → Type 0
GaveCallStatement context flags before i r after =
    (p : ℕ) (x : ℕ) (es : Arguments) → Lays (of_statement (call_statement p x es)) context.nodes.now i → Gave (λ g. g.set) r after (walk_statement (env_of context) (call_statement p x es) flags.set (live before))

-- a call, of either kind
abbrev pub HasCall : List Node → ℕ → Type 0
HasCall table i = (k : Kind) × (p x : ℕ) × (es : Arguments) × Lays (branch k 0 x p (of_arguments es)) table i

abbrev pub GaveCall : Context → Flags → Code → ℕ → Result ValueType Fault → Code → Type 0
GaveCall context flags before i r after =
    (k : Kind) (p x : ℕ) (es : Arguments) → Lays (branch k 0 x p (of_arguments es)) context.nodes.now i →
    Gave (λ t. t) r after (calling (env_of context) p x (live before) (λ y c. walk_arguments (env_of context) es y flags.set c))

-- a call by itself lays two at most
abbrev pub GrewCall : Result ValueType Fault → List Node → ℕ → ℕ → ℕ → ℕ → Type 0
GrewCall (Ok a) table before after i end = (before ≤ after) × (after + 3 * i + 1 ≤ before + 3 * end) × (i < end) × (end ≤ length table)
GrewCall (Err e) table before after i end = Unit {0}

-- arguments from one node to a stop
abbrev pub HasArguments : List Node → ℕ → ℕ → Type 0
HasArguments table from stop = (es : Arguments) × LaysAll (of_arguments es) table from stop

abbrev pub GaveArguments : Context → Flags → Code → ℕ → ℕ → Parameters → Result Tally Fault → Code → Type 0
GaveArguments context flags before from stop left r after =
    (es : Arguments) → LaysAll (of_arguments es) context.nodes.now from stop →
    Gave (tally_of context.nodes.now) r after (walk_arguments (env_of context) es (tallied (comes context.nodes.now left) false true) flags.set (live before))

-- arguments may be none
abbrev pub GrewArguments : Result Tally Fault → ℕ → ℕ → ℕ → ℕ → Type 0
GrewArguments (Ok a) before after from stop = (before ≤ after) × (after + 3 * from ≤ before + 3 * stop) × (from ≤ stop)
GrewArguments (Err e) before after from stop = Unit {0}

-- a value block
abbrev pub HasValueBlock : List Node → ℕ → Type 0
HasValueBlock table i = (b : ValueBlock) × Lays (of_value_block b) table i

abbrev pub GaveValueBlock : Context → Flags → Code → ℕ → Result ValueType Fault → Code → Type 0
GaveValueBlock context flags before i r after =
    (b : ValueBlock) → Lays (of_value_block b) context.nodes.now i → Gave (λ t. t) r after (walk_value_block (env_of context) b flags.set (live before))

-- a statement
abbrev pub HasStatement : List Node → ℕ → Type 0
HasStatement table i = (s : Statement) × Lays (of_statement s) table i

abbrev pub GaveStatement : Context → Flags → Code → ℕ → Result Flags Fault → Code → Type 0
GaveStatement context flags before i r after =
    (s : Statement) → Lays (of_statement s) context.nodes.now i → Gave (λ g. g.set) r after (walk_statement (env_of context) s flags.set (live before))

-- an if with no else
abbrev pub HasThen : List Node → ℕ → Type 0
HasThen table i = (p : ℕ) × (c : Expression) × (a : Block) × Lays (of_statement (if_then p c a)) table i

abbrev pub GaveThen : Context → Flags → Code → ℕ → Result Flags Fault → Code → Type 0
GaveThen context flags before i r after =
    (p : ℕ) (c : Expression) (a : Block) → Lays (of_statement (if_then p c a)) context.nodes.now i →
    Gave (λ g. g.set) r after (walk_statement (env_of context) (if_then p c a) flags.set (live before))

-- an if with one
abbrev pub HasElse : List Node → ℕ → Type 0
HasElse table i = (p : ℕ) × (c : Expression) × (a b : Block) × Lays (of_statement (if_else p c a b)) table i

abbrev pub GaveElse : Context → Flags → Code → ℕ → Result Flags Fault → Code → Type 0
GaveElse context flags before i r after =
    (p : ℕ) (c : Expression) (a b : Block) → Lays (of_statement (if_else p c a b)) context.nodes.now i →
    Gave (λ g. g.set) r after (walk_statement (env_of context) (if_else p c a b) flags.set (live before))

-- a block
abbrev pub HasBlock : List Node → ℕ → Type 0
HasBlock table i = (b : Block) × Lays (of_block b) table i

abbrev pub GaveBlock : Context → Flags → Code → ℕ → Result Flags Fault → Code → Type 0
GaveBlock context flags before i r after =
    (b : Block) → Lays (of_block b) context.nodes.now i → Gave (λ g. g.set) r after (walk_block (env_of context) b flags.set (live before))

-- statements from one node on, which an expression may follow, to a stop
abbrev pub HasRow : List Node → ℕ → ℕ → Type 0
HasRow table from stop = (ss : Statements) × (f : Final) × LaysAll (of_statements ss (of_final f)) table from stop

-- the node where that expression stands, or the stop
abbrev pub RowEnds : List Node → ℕ → Final → Result (Flags × ℕ) Fault → Type 0
RowEnds table stop f (Ok p) = LaysAll (of_final f) table p.1 stop
RowEnds table stop f (Err e) = Unit {0}

abbrev pub GaveRow : Context → Flags → Code → ℕ → ℕ → Result (Flags × ℕ) Fault → Code → Type 0
GaveRow context flags before from stop r after =
    (ss : Statements) (f : Final) → LaysAll (of_statements ss (of_final f)) context.nodes.now from stop →
    Gave (λ p. p.0.set) r after (walk_statements (env_of context) ss flags.set (live before)) × RowEnds context.nodes.now stop f r

-- where the statements end, no more than three instructions for each node of theirs
abbrev pub GrewRow : Result (Flags × ℕ) Fault → ℕ → ℕ → ℕ → ℕ → Type 0
GrewRow (Ok p) before after from stop = (before ≤ after) × (after + 3 * from ≤ before + 3 * p.1) × (from ≤ p.1) × (p.1 ≤ stop)
GrewRow (Err e) before after from stop = Unit {0}

-- What the functions of the walk over declarations ask of the table, the names and the code, and what they answer. Assumes nothing.
use Rattle.std.specs.Prelude.{◌≡◌, ℕ, ◌+◌, ◌*◌, ◌≤◌, List, [], ◌∷◌, length, take, Ok, Err, Result}
use Rattle.language.specs.declared.faults.Fault.{Fault}
use Rattle.language.specs.declared.values.ValueType.{ValueType}
use Rattle.table.specs.declared.nodes.Node.{Node}
use Rattle.table.specs.Listed.{end_at}
use Rattle.table.specs.Tree.{Statements, Final, Parameter, Declaration, Declarations, Body, Program}
use Rattle.table.specs.Tree.Declaration.{function}
use Rattle.table.specs.Layout.{of_final, of_parameters, of_declaration, of_declarations, of_statements, of_body, of_program}
use Rattle.table.specs.Layout.Branches.{nil, cons}
use Rattle.table.specs.Lays.{Lays, LaysAll}
use Rattle.walk.specs.declared.codes.Instr.{Instr}
use Rattle.walk.specs.declared.codes.Code.{Code}
use Rattle.walk.specs.declared.contexts.Context.{Context}
use Rattle.walk.specs.declared.flags.Flags.{Flags}
use Rattle.walk.specs.declared.names.Entry.{Entry}
use Rattle.walk.specs.declared.names.What.TheVariants as whats
use Rattle.walk.specs.Bind.{bind}
use Rattle.walk.specs.Lay.{live}
use Rattle.walk.specs.Walked.{Gave, env_of}
use Rattle.walk.specs.Programs.{Scope as Walked, inner, inside, walk_final, walk_parameters, walk_declaration, walk_declarations, walk_body, walk_program}
use Rattle.admission.specs.declared.scopes.Names.{Names}
use Rattle.admission.specs.Standing.{scope_of, GaveScope}

-- at most one expression, from a node to a stop
abbrev pub HasFinal : List Node → ℕ → ℕ → Type 0
HasFinal table at stop = (f : Final) × LaysAll (of_final f) table at stop

abbrev pub GaveFinal : Context → Flags → Code → ℕ → ℕ → Result ValueType Fault → Code → Type 0
GaveFinal context flags before at stop r after =
    (f : Final) → LaysAll (of_final f) context.nodes.now at stop → Gave (λ t. t) r after (walk_final (env_of context) f flags.set (live before))

-- where nothing is refused, three instructions at most were laid for each node from one to the other
abbrev pub GrewFinal : {A : Type 0} → Result A Fault → ℕ → ℕ → ℕ → ℕ → Type 0
GrewFinal (Ok a) before after at stop = (before ≤ after) × (after + 3 * at ≤ before + 3 * stop)
GrewFinal (Err e) before after at stop = Unit {0}

-- a function's parameters from one node on, and its body, to a stop
abbrev pub LaysParameters : List Node → List Parameter → Body → ℕ → ℕ → Type 0
LaysParameters table qs b from stop = LaysAll (of_parameters qs (cons (of_body b) nil)) table from stop

abbrev pub HasParameters : List Node → ℕ → ℕ → Type 0
HasParameters table from stop = (qs : List Parameter) × (b : Body) × LaysParameters table qs b from stop

-- the body stands where the parameters end
abbrev pub BodyThere : List Node → ℕ → Body → Result ℕ Fault → Type 0
BodyThere table stop b (Ok at) = LaysAll (cons (of_body b) nil) table at stop
BodyThere table stop b (Err e) = Unit {0}

abbrev pub GaveParameters : List Node → Names → ℕ → ℕ → Result ℕ Fault → Names → Type 0
GaveParameters table before from stop r after =
    (qs : List Parameter) (b : Body) → LaysParameters table qs b from stop →
    GaveScope table r after (walk_parameters qs (scope_of table before)) × BodyThere table stop b r

-- where nothing is refused, they end no earlier than they begin
abbrev pub GrewParameters : Result ℕ Fault → ℕ → Type 0
GrewParameters (Ok at) from = from ≤ at
GrewParameters (Err e) from = Unit {0}

-- what came out, with the names and the code that there are then, is the walk's answer
abbrev pub GaveScoped : {A : Type 0} → List Node → Result A Fault → Names → Code → Result (Walked × List Instr) Fault → Type 0
GaveScoped table (Ok a) names code answer = answer ≡ Ok (scope_of table names, live code)
GaveScoped table (Err e) names code answer = answer ≡ Err e

-- a declaration
abbrev pub HasDeclaration : List Node → ℕ → Type 0
HasDeclaration table i = (d : Declaration) × Lays (of_declaration d) table i

abbrev pub GaveDeclaration : List Node → Names → Code → ℕ → Result (Unit {0}) Fault → Names → Code → Type 0
GaveDeclaration table names before i r names' after =
    (d : Declaration) → Lays (of_declaration d) table i → GaveScoped table r names' after (walk_declaration d (scope_of table names) (live before))

-- a function
abbrev pub HasFunction : List Node → ℕ → Type 0
HasFunction table i = (p : ℕ) × (t : ValueType) × (x : ℕ) × (qs : List Parameter) × (b : Body) × Lays (of_declaration (function p t x qs b)) table i

abbrev pub GaveFunction : List Node → Names → Code → ℕ → Result (Unit {0}) Fault → Names → Code → Type 0
GaveFunction table names before i r names' after =
    (p : ℕ) (t : ValueType) (x : ℕ) (qs : List Parameter) (b : Body) → Lays (of_declaration (function p t x qs b)) table i → GaveScoped table r names' after (walk_declaration (function p t x qs b) (scope_of table names) (live before))

-- declarations, statements and at most one expression, from one node to a stop
abbrev pub LaysMembers : List Node → Declarations → Statements → Final → ℕ → ℕ → Type 0
LaysMembers table ds ss z from stop = LaysAll (of_declarations ds (of_statements ss (of_final z))) table from stop

abbrev pub HasMembers : List Node → ℕ → ℕ → Type 0
HasMembers table from stop = (ds : Declarations) × (ss : Statements) × (z : Final) × LaysMembers table ds ss z from stop

-- the statements stand where the declarations end
abbrev pub StatementsThere : List Node → ℕ → Statements → Final → Result ℕ Fault → Type 0
StatementsThere table stop ss z (Ok at) = LaysAll (of_statements ss (of_final z)) table at stop
StatementsThere table stop ss z (Err e) = Unit {0}

abbrev pub GaveDeclarations : List Node → Names → Code → ℕ → ℕ → Result ℕ Fault → Names → Code → Type 0
GaveDeclarations table names before from stop r names' after =
    (ds : Declarations) (ss : Statements) (z : Final) → LaysMembers table ds ss z from stop →
    GaveScoped table r names' after (walk_declarations ds (scope_of table names) (live before)) × StatementsThere table stop ss z r

abbrev pub GrewDeclarations : Result ℕ Fault → ℕ → ℕ → ℕ → ℕ → Type 0
GrewDeclarations (Ok at) before after from stop = (before ≤ after) × (after + 3 * from ≤ before + 3 * at) × (from ≤ at) × (at ≤ stop)
GrewDeclarations (Err e) before after from stop = Unit {0}

-- the inside of a body or a program
abbrev pub GaveInside : List Node → Names → Code → ℕ → ℕ → Result ValueType Fault → Code → Type 0
GaveInside table names before from stop r after =
    (ds : Declarations) (ss : Statements) (z : Final) → LaysMembers table ds ss z from stop →
    Gave (λ t. t) r after (inside (scope_of table names) ss z (live before) (λ q c. walk_declarations ds q c))

-- an entry is laid beside what the nodes inside may take
abbrev pub GrewInside : {A : Type 0} → Result A Fault → ℕ → ℕ → ℕ → ℕ → Type 0
GrewInside (Ok a) before after from stop = (before ≤ after) × (after + 3 * from ≤ before + 1 + 3 * stop)
GrewInside (Err e) before after from stop = Unit {0}

-- the names below the height that there was stay
abbrev pub Kept : {A : Type 0} → Result A Fault → Names → Names → Type 0
Kept (Ok a) before after = take before.scope.height after.entries ≡ take before.scope.height before.entries
Kept (Err e) before after = Unit {0}

-- a body
abbrev pub HasBody : List Node → ℕ → Type 0
HasBody table i = (b : Body) × Lays (of_body b) table i

abbrev pub GaveBody : List Node → Names → Code → ℕ → ValueType → Result (Unit {0}) Fault → Code → Type 0
GaveBody table names before i t r after =
    (b : Body) → Lays (of_body b) table i → Gave (λ _. t) r after (walk_body b t (scope_of table names) (live before))

-- a function's parameters and its body, in a scope of their own
abbrev pub GaveEnclosed : List Node → Names → Code → ℕ → ValueType → Result (Unit {0}) Fault → Code → Type 0
GaveEnclosed table names before i t r after =
    (qs : List Parameter) (b : Body) → LaysParameters table qs b (i + 1) (end_at table i) →
    Gave (λ _. t) r after (bind (walk_parameters qs (inner (scope_of table names))) (λ q. walk_body b t q (live before)))

abbrev pub GrewEnclosed : {A : Type 0} → Result A Fault → ℕ → ℕ → ℕ → ℕ → Type 0
GrewEnclosed (Ok a) before after i stop = (before ≤ after) × (after + 3 * (i + 1) ≤ before + 3 * stop)
GrewEnclosed (Err e) before after i stop = Unit {0}

-- the host's three
abbrev pub host_entries : List Entry
host_entries = record { name = 0; level = 0; what = whats.Amount } ∷ record { name = 1; level = 0; what = whats.Flag } ∷ record { name = 2; level = 0; what = whats.Post } ∷ []

-- a program, at node 0, which ends with the table
abbrev pub HasProgram : List Node → Type 0
HasProgram table = (p : Program) × Lays (of_program p) table 0 × (end_at table 0 ≡ length table)

abbrev pub GaveProgram : List Node → Result ValueType Fault → Code → Type 0
GaveProgram table r after =
    (p : Program) → Lays (of_program p) table 0 → end_at table 0 ≡ length table → Gave (λ t. t) r after (walk_program p)

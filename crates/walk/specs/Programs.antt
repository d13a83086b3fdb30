-- The walk over declarations, bodies and programs: only declarations change the name list. Assumes nothing.
use Rattle.std.specs.Prelude.{ℕ, ◌+◌, ◌-◌, ◌*◌, Bool, true, false, cond, List, [], ◌∷◌, ◌++◌, map, length, Some, None, Ok, Err, Option, Result, nat_le}
use Rattle.language.specs.declared.faults.Fault.{Fault}
use Rattle.language.specs.declared.faults.WalkRefusal.TheVariants.{DeclaredTwice, TooManyNames, TooDeep}
use Rattle.language.specs.declared.values.ValueType.{ValueType}
use Rattle.language.specs.declared.values.ValueType.TheVariants.{Void}
use Rattle.rules.specs.Translate.{gives}
use Rattle.table.specs.Tree.{Statements, Final, Parameter, Declaration, Declarations, Body, Program}
use Rattle.table.specs.Tree.Statements.{no_statements}
use Rattle.table.specs.Tree.Final.{no_final, final}
use Rattle.table.specs.Tree.Parameter.{parameter}
use Rattle.table.specs.Tree.Declaration.{variable as a_variable, function as a_function}
use Rattle.table.specs.Tree.Declarations.{no_declarations, declaration}
use Rattle.table.specs.Tree.Body.{body}
use Rattle.table.specs.Tree.Program.{single, whole}
use Rattle.walk.specs.declared.codes.Instr.{Instr}
use Rattle.walk.specs.Bind.{refusal, bind, beside}
use Rattle.walk.specs.Lay.{laid, patched, aimed}
use Rattle.walk.specs.Sets.{none_set, marked}
use Rattle.walk.specs.Scopes.{Thing, named, hosts, Env, lookup}
use Rattle.walk.specs.Scopes.Thing.{variable, function}
use Rattle.walk.specs.Types.{same_type, typed}
use Rattle.walk.specs.Expressions.{walk_expression, walk_statements}

-- where declarations are walked: the names in open scopes and the level; the index of the innermost scope's first name; the slots that its frame has so far; what is set
pub record Scope : Type 0 where
  pub env : Env
  pub floor : ℕ
  pub slots : ℕ
  pub flags : List Bool

-- a name that was found lies in the innermost scope
abbrev pub at_or_above : ℕ → Option ℕ → Bool
at_or_above floor None = false
at_or_above floor (Some k) = nat_le floor k

-- a name must be new in the innermost scope
abbrev pub new : ℕ → Scope → ℕ → Result (Unit {0}) Fault
new p s x = cond (at_or_above s.floor (lookup s.env x)) (Err (refusal p DeclaredTwice)) (Ok tt)

-- there are at most 255 names in open scopes
abbrev pub room_for : ℕ → Scope → Result (Unit {0}) Fault
room_for p s = cond (nat_le 255 (length s.env.names)) (Err (refusal p TooManyNames)) (Ok tt)

-- functions are nested at most 32 deep; one that the program declares is 1 deep
abbrev pub shallow : ℕ → Scope → Result (Unit {0}) Fault
shallow p s = cond (nat_le 32 s.env.level) (Err (refusal p TooDeep)) (Ok tt)

-- a name enters the innermost scope, set or not
abbrev pub entered : Scope → ℕ → Thing → Bool → Scope
entered s x t b =
    record {
      env = record { names = s.env.names ++ named x s.env.level t ∷ []; level = s.env.level };
      floor = s.floor;
      slots = s.slots;
      flags = marked s.flags (length s.env.names) b;
    }

-- a variable takes the next slot
abbrev pub with_variable : Scope → ℕ → ValueType → Bool → Scope
with_variable s x t b =
    record {
      env = (entered s x (variable t s.slots) b).env;
      floor = s.floor;
      slots = s.slots + 1;
      flags = (entered s x (variable t s.slots) b).flags;
    }

-- a variable or a parameter: new, room for one more; a parameter is set
abbrev pub declaring : ℕ → ValueType → ℕ → Bool → Scope → Result Scope Fault
declaring p t x b s = bind (new p s x) (λ _. bind (room_for p s) (λ _. Ok (with_variable s x t b)))

-- a new scope in the innermost one, for a function's parameters and its body's declarations
abbrev pub inner : Scope → Scope
inner s =
    record {
      env = record { names = s.env.names; level = s.env.level + 1 };
      floor = length s.env.names;
      slots = 0;
      flags = s.flags;
    }

abbrev pub type_of : Parameter → ValueType
type_of (parameter p t x) = t

-- parameters, in their order
abbrev pub walk_parameters : List Parameter → Scope → Result Scope Fault
walk_parameters [] s = Ok s
walk_parameters (parameter p t x ∷ qs) s = bind (declaring p t x true s) (walk_parameters qs)

-- what ends a body or a program
abbrev pub walk_final : Env → Final → List Bool → List Instr → Result (ValueType × List Instr) Fault
walk_final env no_final flags code = Ok (Void, code)
walk_final env (final e) flags code = walk_expression env e flags code

-- the inside of a body or a program, where the walk over its declarations is given: its entry, with the parameters and the other slots of its frame; declarations; statements; ending
abbrev pub inside : Scope → Statements → Final → List Instr → (Scope → List Instr → Result (Scope × List Instr) Fault) → Result (ValueType × List Instr) Fault
inside s ss f code declaring =
    bind (declaring s (laid code 22 0))
    (λ r. bind (walk_statements r.0.env ss r.0.flags (patched r.1 (length code) 22 (256 * s.slots + (r.0.slots - s.slots))))
    (λ q. walk_final r.0.env f q.0 q.1))

-- a function's own name enters the scope before its parameters: its entry is laid after a jump past it
abbrev pub with_function : Scope → ℕ → ValueType → List Parameter → List Instr → Scope
with_function s x t qs code = entered s x (function t (map type_of qs) (length code + 1)) false

-- a function, where the walk over its body is given: new, room for one more, not too deep; then its parameters and its body, in a scope of their own
abbrev pub declaring_function : ℕ → ValueType → ℕ → List Parameter → Scope → List Instr → (Scope → List Instr → Result (ValueType × List Instr) Fault) → Result (Scope × List Instr) Fault
declaring_function p t x qs s code walking =
    bind (new p s x)
    (λ _. bind (room_for p s)
    (λ _. bind (shallow p s)
    (λ _. bind (walk_parameters qs (inner (with_function s x t qs code)))
    (λ q. bind (walking q (laid code 18 0))
    (λ r. Ok (with_function s x t qs code, aimed (laid r.1 23 (gives t)) (length code) 18))))))

abbrev mutual
  pub walk_declaration : Declaration → Scope → List Instr → Result (Scope × List Instr) Fault
  walk_declaration (a_variable p t x) s code = beside (declaring p t x false s) code
  walk_declaration (a_function p t x qs b) s code = declaring_function p t x qs s code (λ q c. walk_body b t q c)

  pub walk_declarations : Declarations → Scope → List Instr → Result (Scope × List Instr) Fault
  walk_declarations no_declarations s code = Ok (s, code)
  walk_declarations (declaration d ds) s code = bind (walk_declaration d s code) (λ r. walk_declarations ds r.0 r.1)

  -- a body has its function's result type
  pub walk_body : Body → ValueType → Scope → List Instr → Result (ValueType × List Instr) Fault
  walk_body (body p ds ss f) t s code =
      bind (inside s ss f code (λ q c. walk_declarations ds q c)) (λ r. beside (typed p (same_type r.0 t) t) r.1)

-- the program's scope lies inside the host's
abbrev pub outermost : Scope
outermost = record { env = record { names = hosts; level = 0 }; floor = 3; slots = 0; flags = none_set }

-- a program ends with what it has come to
abbrev pub ending : ValueType × List Instr → Result (ValueType × List Instr) Fault
ending r = Ok (r.0, laid r.1 27 (gives r.0))

-- the type of a program and its code, or the refusal that is met first
abbrev pub walk_program : Program → Result (ValueType × List Instr) Fault
walk_program (single p e) = bind (inside outermost no_statements (final e) [] (λ s c. Ok (s, c))) ending
walk_program (whole p d ds ss f) = bind (inside outermost ss f [] (λ s c. walk_declarations (declaration d ds) s c)) ending

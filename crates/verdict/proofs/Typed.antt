-- Declarations, bodies and programs that are accepted have a type. Assumes nothing.
use Rattle.std.proofs.Common.{◌≡◌, ℕ, ◌+◌, ◌-◌, ◌*◌, ◌≤◌, Bool, true, false, leb, List, [], ◌∷◌, map, length, set, Some, None, Ok, Option, Result, sym, refl, ap, ◌∙◌, subst, arith}
use Rattle.std.proofs.lemmas.Bool.{false≢true, true≢false, leb-false}
use Rattle.language.specs.declared.faults.Fault.{Fault}
use Rattle.language.specs.declared.faults.WalkRefusal.TheVariants.{DeclaredTwice, TooManyNames, TooDeep}
use Rattle.language.specs.declared.values.ValueType.{ValueType}
use Rattle.language.specs.declared.values.ValueType.TheVariants.{Void, Int, Bool as Truths}
use Rattle.language.specs.Numbers.{type_number}
use Rattle.table.specs.Tree.{Statements, Final, Parameter, Declaration, Declarations, Body, Program}
use Rattle.table.specs.Tree.Final.{no_final, final}
use Rattle.table.specs.Tree.Parameter.{parameter}
use Rattle.table.specs.Tree.Declaration.{variable as a_variable, function as a_function}
use Rattle.table.specs.Tree.Declarations.{no_declarations, declaration}
use Rattle.table.specs.Tree.Body.{body}
use Rattle.table.specs.Tree.Program.{single, whole}
use Rattle.table.specs.declared.kinds.Kind.TheVariants as kinds
use Rattle.table.specs.Kinds.{limits_of, within}
use Rattle.table.specs.Layout.{Branches, Limited, LimitedAll, of_statements, of_final, of_parameters, of_declaration, of_declarations, of_body, WithinLimits}
use Rattle.table.specs.Layout.Branches.{nil, cons}
use Rattle.rules.specs.Resolved.{Actions, Ending, Function, Functions, Rules}
use Rattle.rules.specs.Resolved.Actions.{no_actions}
use Rattle.rules.specs.Resolved.Ending.{nothing, giving}
use Rattle.rules.specs.Resolved.Function.{function as resolved}
use Rattle.rules.specs.Resolved.Functions.{no_functions, more}
use Rattle.typing.specs.Scopes as rules
use Rattle.typing.specs.Scopes.{Env, is_there, find, enter}
use Rattle.typing.specs.Scopes.Status.{dec}
use Rattle.typing.specs.Scopes.Named.{variable as variable', function as function'}
use Rattle.typing.specs.Rules.{Valued, HasType, top, RunsAll, Ends, Parameters, Declares, DeclaresAll, HasBody, IsTyped}
use Rattle.typing.specs.Rules.Valued.{int, bool}
use Rattle.typing.specs.Rules.Ends.{with_none, with_exp}
use Rattle.typing.specs.Rules.Parameters.{no_parameters, one_parameter}
use Rattle.typing.specs.Rules.Declares.{id_dec, fun_dec}
use Rattle.typing.specs.Rules.DeclaresAll.{none_left, variable_first, function_first}
use Rattle.typing.specs.Rules.HasBody.{has_body}
use Rattle.typing.specs.Rules.IsTyped.{single_exp, dec_stm_exp}
use Rattle.typing.specs.Limits.{Fits, FitsAll, FitsBody, WithinNames}
use Rattle.walk.specs.declared.codes.Instr.{Instr}
use Rattle.walk.specs.Bind.{bind, refusal}
use Rattle.walk.specs.Lay.{laid, patched}
use Rattle.walk.specs.Sets.{none_set}
use Rattle.walk.specs.Scopes.{lookup}
use Rattle.walk.specs.Scopes.Thing.{variable, function}
use Rattle.walk.specs.Types.{same_type, typed}
use Rattle.walk.specs.Expressions.{walk_expression, walk_statements}
use Rattle.walk.specs.Programs.{Scope, at_or_above, new, room_for, shallow, declaring, type_of, walk_parameters, walk_final, inside, outermost, walk_declaration, walk_declarations, walk_body, walk_program}
use Rattle.verdict.specs.Verdict.{TypedWhereAccepted}
use Rattle.verdict.proofs.Onward.{same_ok, ok-parts, bound, besides, right-typed, test-failed, types_same}
use Rattle.verdict.proofs.Piles.{Pile, level, size, floor, env, scope, size-with}
use Rattle.verdict.proofs.Piles.Pile.{base, opened, with}
use Rattle.verdict.proofs.Related.{AllValued, looked-above}
use Rattle.verdict.proofs.Related.AllValued.{none_valued, one_valued}
use Rattle.verdict.proofs.Related.Flagged.{not_yet, already}
use Rattle.verdict.proofs.Related.Same.{same_variable, same_function}
use Rattle.verdict.proofs.Accepts.{Known}
use Rattle.verdict.proofs.Entering.{known-enter, known-open}
use Rattle.verdict.proofs.Declared.{parameter-types, known-base, accepts-typed}
use Rattle.verdict.proofs.Accepted.{Anywhere, typed-back, statements-typed}

-- a record of a variable or a parameter that keeps to its limits has a type with values
valued-variable : (t : ValueType) (x : ℕ) → within (limits_of kinds.Variable) (type_number t) x ≡ true → Valued t
valued-variable Void x h = absurd (false≢true h)
valued-variable Int x h = int
valued-variable Truths x h = bool

all-valued : (qs : List Parameter) (others : Branches) → LimitedAll (of_parameters qs others) → AllValued (map type_of qs)
all-valued [] others h = none_valued
all-valued (parameter p t x ∷ qs) others h = one_valued (valued-variable t x h.0.0) (all-valued qs others h.1)

limited-rest : (qs : List Parameter) (others : Branches) → LimitedAll (of_parameters qs others) → LimitedAll others
limited-rest [] others h = h
limited-rest (q ∷ qs) others h = limited-rest qs others h.1

not_there : (o : Option rules.Named) → is_there o ≡ false → o ≡ None
not_there None h = refl
not_there (Some n) h = absurd (true≢false h)

-- the limits held
module _ (pile : Pile) (slots : ℕ) (flags : List Bool) (p : ℕ) where
  new-back : {Entered : ℕ → ℕ → Type 0} {Γ : Env} {u : Unit {0}} (x : ℕ) → Known Entered pile flags Γ → new p (scope pile slots flags) x ≡ Ok u → find x (top Γ) ≡ None
  new-back {Entered} {Γ} x k h = not_there (find x (top Γ)) (sym (looked-above Entered flags x k.related) ∙ test-failed (at_or_above (floor pile) (lookup (env pile) x)) (refusal p DeclaredTwice) h)

  room_back : {u : Unit {0}} → room_for p (scope pile slots flags) ≡ Ok u → size pile + 1 ≤ 255
  room_back h = omega (arith, leb-false 255 (size pile) (test-failed (leb 255 (size pile)) (refusal p TooManyNames) h))

  shallow-back : {u : Unit {0}} → shallow p (scope pile slots flags) ≡ Ok u → level pile + 1 ≤ 32
  shallow-back h = omega (arith, leb-false 32 (level pile) (test-failed (leb 32 (level pile)) (refusal p TooDeep) h))

  declaring-back : {Γ : Env} {s : Scope} (t : ValueType) (x : ℕ) (b : Bool) → Known Anywhere pile flags Γ → declaring p t x b (scope pile slots flags) ≡ Ok s → (find x (top Γ) ≡ None) × (size pile + 1 ≤ 255) × (s ≡ scope (with x (variable t slots) pile) (slots + 1) (set flags (size pile) b))
  declaring-back t x b k h =
      let a = bound (new p (scope pile slots flags) x) _ h in
      let c = bound (room_for p (scope pile slots flags)) _ a.2 in
      (new-back x k a.1, room_back c.1, sym (same_ok c.2))

-- where parameters lead: to names in the innermost scope
pub record ParametersLead (σ : rules.Scope) (Γ : Env) (slot : ℕ) (qs : List Parameter) (names depth : ℕ) (s : Scope) : Type 0 where
  pub pile : Pile
  pub flags : List Bool
  pub slots : ℕ
  pub inner : rules.Scope
  pub types : List ValueType
  pub is : s ≡ scope pile slots flags
  pub count : slots ≡ slot + length types
  pub parameters : Parameters σ slot qs inner types
  pub known : Known Anywhere pile flags (inner ∷ Γ)
  pub grown : size pile ≡ names + length qs
  pub deep : level pile ≡ depth
  pub room : size pile ≤ 255

parameters-back : (qs : List Parameter) {σ : rules.Scope} {Γ : Env} {s : Scope} (pile : Pile) (slot : ℕ) (flags : List Bool) (names : ℕ) (others : Branches) → size pile ≡ names → size pile ≤ 255 → Known Anywhere pile flags (σ ∷ Γ) → LimitedAll (of_parameters qs others) → walk_parameters qs (scope pile slot flags) ≡ Ok s → ParametersLead σ Γ slot qs names (level pile) s
parameters-back [] {σ} pile slot flags names others n room k l w =
    record { pile = pile; flags = flags; slots = slot; inner = σ; types = []; is = sym (same_ok w); count = omega arith; parameters = no_parameters; known = k; grown = omega arith; deep = refl; room = room }
parameters-back (parameter p t x ∷ qs) {σ} {Γ} {s} pile slot flags names others n room k l w =
    let a = bound (declaring p t x true (scope pile slot flags)) _ w in
    let d = declaring-back pile slot flags p t x true k a.1 in
    let v = valued-variable t x l.0.0 in
    let grown = size-with x (variable t slot) pile in
    let i =
    parameters-back qs (with x (variable t slot) pile) (slot + 1) (set flags (size pile) true) (names + 1) others (omega arith) (omega arith)
    (known-enter Anywhere flags true room (same_variable already v) k) l.1 (subst (λ q. walk_parameters qs q ≡ Ok s) d.2 a.2) in
    record {
      pile = i.pile;
      flags = i.flags;
      slots = i.slots;
      inner = i.inner;
      types = t ∷ i.types;
      is = i.is;
      count = omega (arith, i.count);
      parameters = one_parameter d.0 v i.parameters;
      known = i.known;
      grown = omega (arith, i.grown);
      deep = i.deep;
      room = i.room;
    }

-- a declaration of a variable, which resolves to nothing, or of a function
data OneDeclares (Γ : Env) (slot number : ℕ) (d : Declaration) (Γ' : Env) (slot' number' : ℕ) : Type 0 where
  of_variable : Declares Γ slot number d Γ' slot' number' no_functions → OneDeclares Γ slot number d Γ' slot' number'
  of_function : (f : Function) → Declares Γ slot number d Γ' slot' number' (more f no_functions) → OneDeclares Γ slot number d Γ' slot' number'

-- where one declaration leads
record OneLeads (Γ : Env) (slot number : ℕ) (d : Declaration) (names depth : ℕ) (s : Scope) : Type 0 where
  pile : Pile
  flags : List Bool
  slots : ℕ
  next : ℕ
  Γ' : Env
  is : s ≡ scope pile slots flags
  declares : OneDeclares Γ slot number d Γ' slots next
  known : Known Anywhere pile flags Γ'
  fits : Fits names depth d
  grown : size pile ≡ names + 1
  deep : level pile ≡ depth
  room : size pile ≤ 255
  grows : slot ≤ slots

-- where declarations lead
pub record AllLead (Γ : Env) (slot number : ℕ) (ds : Declarations) (names depth : ℕ) (s : Scope) : Type 0 where
  pub pile : Pile
  pub flags : List Bool
  pub slots : ℕ
  pub next : ℕ
  pub Γ' : Env
  pub functions : Functions
  pub is : s ≡ scope pile slots flags
  pub declares : DeclaresAll Γ slot number ds Γ' slots next functions
  pub known : Known Anywhere pile flags Γ'
  pub fits : FitsAll names depth ds
  pub room : size pile ≤ 255
  pub grows : slot ≤ slots

-- a body that has a type
record BodyTyped (Γ : Env) (slot number : ℕ) (b : Body) (t : ValueType) (names depth : ℕ) : Type 0 where
  slots : ℕ
  next : ℕ
  functions : Functions
  actions : Actions
  ending : Ending
  has : HasBody Γ slot number b t slots next functions actions ending
  fits : FitsBody names depth b
  grows : slot ≤ slots

first-declares : {Γ Γ' Γ'' : Env} {slot slot' slot'' number number' number'' : ℕ} {d : Declaration} {ds : Declarations} {fs : Functions} → OneDeclares Γ slot number d Γ' slot' number' → DeclaresAll Γ' slot' number' ds Γ'' slot'' number'' fs → (gs : Functions) × DeclaresAll Γ slot number (declaration d ds) Γ'' slot'' number'' gs
first-declares {Γ' = Γ'} {slot' = slot'} {number' = number'} {fs = fs} (of_variable d) ds = (fs, variable_first Γ' slot' number' d ds)
first-declares {Γ' = Γ'} {slot' = slot'} {number' = number'} {fs = fs} (of_function f d) ds = (more f fs, function_first Γ' slot' number' d ds)

final-back : (f : Final) {Γ : Env} {flags : List Bool} {t : ValueType} {c : List Instr} (pile : Pile) (code : List Instr) → size pile ≤ 255 → Known Anywhere pile flags Γ → walk_final (env pile) f flags code ≡ Ok (t, c) → (e : Ending) × Ends Γ f t e
final-back no_final {Γ} pile code room k w = (nothing, subst (λ t. Ends Γ no_final t nothing) (ok-parts w).0 with_none)
final-back (final e) pile code room k w =
    let i = typed-back pile room e code k w in
    (giving i.0, with_exp i.1)

-- the inside of a body or a program, once its declarations are known to lead somewhere
inside_back : {Γ : Env} {slot number names depth : ℕ} {ds : Declarations} {flags : List Bool} {t : ValueType} {c : List Instr} (pile : Pile) (ss : Statements) (f : Final) (code : List Instr) (walking : Scope → List Instr → Result (Scope × List Instr) Fault) → ((s : Scope) (d : List Instr) → walking (scope pile slot flags) (laid code 22 0) ≡ Ok (s, d) → AllLead Γ slot number ds names depth s) → inside (scope pile slot flags) ss f code walking ≡ Ok (t, c)
    → (s : Scope) × (a : AllLead Γ slot number ds names depth s) × (Γ'' : Env) × (α : Actions) × (e : Ending) × RunsAll a.Γ' ss Γ'' α × Ends Γ'' f t e
inside_back {slot = slot} {flags = flags} {t = t} {c = c} pile ss f code walking declared w =
    let a = bound (walking (scope pile slot flags) (laid code 22 0)) _ w in
    let d = declared a.0.0 a.0.1 a.1 in
    let after = patched a.0.1 (length code) 22 (256 * slot + (d.slots - slot)) in
    let rest : bind (walk_statements (env d.pile) ss d.flags after) (λ q. walk_final (env d.pile) f q.0 q.1) ≡ Ok (t, c) =
    subst (λ s. bind (walk_statements s.env ss s.flags (patched a.0.1 (length code) 22 (256 * slot + (s.slots - slot)))) (λ q. walk_final s.env f q.0 q.1) ≡ Ok (t, c)) d.is a.2 in
    let b = bound (walk_statements (env d.pile) ss d.flags after) _ rest in
    let i = statements-typed d.pile d.room ss after d.known b.1 in
    let j = final-back f d.pile b.0.1 d.room i.3 b.2 in
    (a.0.0, d, i.0, i.1, j.0, i.2, j.1)

mutual
  declaration-back : (d : Declaration) {Γ : Env} {flags : List Bool} {s : Scope} {c : List Instr} (pile : Pile) (slot number : ℕ) (code : List Instr) (names depth : ℕ) → size pile ≡ names → level pile ≡ depth → size pile ≤ 255 → Known Anywhere pile flags Γ → Limited (of_declaration d) → walk_declaration d (scope pile slot flags) code ≡ Ok (s, c) → OneLeads Γ slot number d names depth s
  declaration-back (a_variable p t x) {Γ} {flags} pile slot number code names depth n l room k lim w =
      let d = declaring-back pile slot flags p t x false k (besides (declaring p t x false (scope pile slot flags)) code w).0 in
      let v = valued-variable t x lim.0 in
      let grown = size-with x (variable t slot) pile in
      record {
        pile = with x (variable t slot) pile;
        flags = set flags (size pile) false;
        slots = slot + 1;
        next = number;
        Γ' = enter x (variable' dec t slot) Γ;
        is = d.2;
        declares = of_variable (id_dec d.0 v);
        known = known-enter Anywhere flags false room (same_variable not_yet v) k;
        fits = omega (arith, d.1);
        grown = omega arith;
        deep = l;
        room = omega (arith, d.1);
        grows = omega arith;
      }
  declaration-back (a_function p t x qs b) {Γ} {flags} pile slot number code names depth n l room k lim w =
      let ts = map type_of qs in
      let this = function t ts (length code + 1) in
      let start = scope pile slot flags in
      let set = set flags (size pile) false in
      let grown = size-with x this pile in
      let a₀ = bound (new p start x) _ w in
      let a₁ = bound (room_for p start) _ a₀.2 in
      let a₂ = bound (shallow p start) _ a₁.2 in
      let a₃ = bound (walk_parameters qs (scope (opened (with x this pile)) 0 set)) _ a₂.2 in
      let a₄ = bound (walk_body b t a₃.0 (laid code 18 0)) _ a₃.2 in
      let fresh = new-back pile slot flags p x k a₀.1 in
      let small = room_back pile slot flags p a₁.1 in
      let flat = shallow-back pile slot flags p a₂.1 in
      let known = known-enter Anywhere flags false {x = x} {n = function' number ts t} room (same_function tt (all-valued qs (cons (of_body b) nil) lim.1)) k in
      let q = parameters-back qs (opened (with x this pile)) 0 set (names + 1) (cons (of_body b) nil) (omega arith) (omega arith) (known-open known) lim.1 a₃.1 in
      let types = parameter-types q.parameters in
      let count : q.slots ≡ length ts = omega (arith, q.count, ap length types) in
      let r =
      body_back b t q.pile (length ts) (number + 1) (laid code 18 0) (names + 1 + length qs) (depth + 1) q.grown (omega (arith, q.deep)) q.room q.known (limited-rest qs (cons (of_body b) nil) lim.1).0
      (subst (λ s. walk_body b t s (laid code 18 0) ≡ Ok a₄.0) (q.is ∙ ap (λ n. scope q.pile n q.flags) count) a₄.1) in
      let split : r.slots ≡ length ts + (r.slots - length ts) = omega (arith, r.grows) in
      record {
        pile = with x this pile;
        flags = set;
        slots = slot;
        next = r.next;
        Γ' = enter x (function' number ts t) Γ;
        is = sym (ok-parts a₄.2).0;
        declares =
            of_function (resolved p t (length ts) (r.slots - length ts) r.functions r.actions r.ending)
            (fun_dec {others = r.slots - length ts} {after = r.next} {inner = r.functions} {α = r.actions} {ending = r.ending} fresh (subst (λ us. Parameters [] 0 qs q.inner us) (sym types) q.parameters)
            (subst (λ m. HasBody (q.inner ∷ enter x (function' number ts t) Γ) (length ts) (number + 1) b t m r.next r.functions r.actions r.ending) split r.has));
        known = known;
        fits = (omega arith, omega arith, omega (arith, q.grown, q.room), r.fits);
        grown = omega arith;
        deep = l;
        room = omega arith;
        grows = omega arith;
      }

  pub declarations-back : (ds : Declarations) {Γ : Env} {flags : List Bool} {s : Scope} {c : List Instr} (pile : Pile) (slot number : ℕ) (code : List Instr) (names depth : ℕ) (others : Branches) → size pile ≡ names → level pile ≡ depth → size pile ≤ 255 → Known Anywhere pile flags Γ → LimitedAll (of_declarations ds others) → walk_declarations ds (scope pile slot flags) code ≡ Ok (s, c) → AllLead Γ slot number ds names depth s
  declarations-back no_declarations {Γ} {flags} pile slot number code names depth others n l room k lim w =
      record { pile = pile; flags = flags; slots = slot; next = number; Γ' = Γ; functions = no_functions; is = sym (ok-parts w).0; declares = none_left; known = k; fits = tt; room = room; grows = omega arith }
  declarations-back (declaration d ds) {Γ} {flags} {s} {c} pile slot number code names depth others n l room k lim w =
      let a = bound (walk_declaration d (scope pile slot flags) code) _ w in
      let i = declaration-back d pile slot number code names depth n l room k lim.0 a.1 in
      let j =
      declarations-back ds i.pile i.slots i.next a.0.1 (names + 1) depth others i.grown i.deep i.room i.known lim.1
      (subst (λ q. walk_declarations ds q a.0.1 ≡ Ok (s, c)) i.is a.2) in
      let g = first-declares i.declares j.declares in
      record {
        pile = j.pile;
        flags = j.flags;
        slots = j.slots;
        next = j.next;
        Γ' = j.Γ';
        functions = g.0;
        is = j.is;
        declares = g.1;
        known = j.known;
        fits = (i.fits, j.fits);
        room = j.room;
        grows = omega (arith, i.grows, j.grows);
      }

  body_back : (b : Body) {Γ : Env} {flags : List Bool} {u : ValueType} {c : List Instr} (t : ValueType) (pile : Pile) (slot number : ℕ) (code : List Instr) (names depth : ℕ) → size pile ≡ names → level pile ≡ depth → size pile ≤ 255 → Known Anywhere pile flags Γ → Limited (of_body b) → walk_body b t (scope pile slot flags) code ≡ Ok (u, c) → BodyTyped Γ slot number b t names depth
  body_back (body p ds ss f) {Γ} {flags} t pile slot number code names depth n l room k lim w =
      let a = bound (inside (scope pile slot flags) ss f code (λ q c. walk_declarations ds q c)) _ w in
      let i =
      inside_back {Γ = Γ} {slot = slot} {number = number} {names = names} {depth = depth} {ds = ds} pile ss f code (λ q c. walk_declarations ds q c)
      (λ s d h. declarations-back ds pile slot number (laid code 22 0) names depth (of_statements ss (of_final f)) n l room k lim.1 h) a.1 in
      let e = right-typed p (same_type a.0.0 t) t (besides (typed p (same_type a.0.0 t) t) a.0.1 a.2).0 in
      let ends = subst (λ v. Ends i.2 f v i.4) (types_same a.0.0 t e.0) i.6 in
      record {
        slots = i.1.slots;
        next = i.1.next;
        functions = i.1.functions;
        actions = i.3;
        ending = i.4;
        has = has_body i.1.Γ' i.2 i.1.declares i.5 ends;
        fits = i.1.fits;
        grows = i.1.grows;
      }

-- what is accepted has a type, within the limits on names
typed-program : (p : Program) {t : ValueType} {code : List Instr} → WithinLimits p → walk_program p ≡ Ok (t, code) → (r : Rules) × IsTyped p t r × WithinNames p
typed-program (single p e) {t} lim w =
    let a = bound (walk_expression (env base) e none_set (laid [] 22 0)) _ w in
    let i = typed-back base (omega arith) e (laid [] 22 0) (known-base Anywhere) a.1 in (
      record { place = p; result = t; others = 0; functions = no_functions; actions = no_actions; ending = giving i.0 },
      single_exp (subst (λ u. HasType ([] ∷ []) e u i.0) (ok-parts a.2).0 i.1),
      tt,
    )
typed-program (whole p d ds ss f) {t} lim w =
    let a = bound (inside outermost ss f [] (λ s c. walk_declarations (declaration d ds) s c)) _ w in
    let i =
    inside_back {Γ = [] ∷ []} {slot = 0} {number = 0} {names = 3} {depth = 0} {ds = declaration d ds} {flags = none_set} base ss f [] (λ s c. walk_declarations (declaration d ds) s c)
    (λ s c h. declarations-back (declaration d ds) base 0 0 (laid [] 22 0) 3 0 (of_statements ss (of_final f)) refl refl (omega arith) (known-base Anywhere) lim.1 h) a.1 in (
      record { place = p; result = t; others = i.1.slots; functions = i.1.functions; actions = i.3; ending = i.4 },
      dec_stm_exp i.1.Γ' i.2 i.1.declares i.5 (subst (λ u. Ends i.2 f u i.4) (ok-parts a.2).0 i.6),
      i.1.fits,
    )

pub typed-accepted : TypedWhereAccepted
typed-accepted p t code lim w =
    let i = typed-program p lim w in
    (i.0, i.1, i.2, (ok-parts (sym w ∙ accepts-typed p t i.0 i.1 i.2)).1)

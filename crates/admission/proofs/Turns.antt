-- Functions, bodies and their insides, in their parts. Assumes nothing.
use Rattle.std.proofs.Common.{◌≡◌, ℕ, ◌+◌, ◌<◌, ◌≤◌, Bool, false, List, [], ◌∷◌, map, length, take, drop, set, Some, Ok, Err, Result, sym, refl, ap, ◌∙◌, subst, arith}
use Rattle.language.specs.declared.faults.Fault.{Fault}
use Rattle.language.specs.declared.values.ValueType.{ValueType}
use Rattle.rules.specs.Translate.{gives}
use Rattle.table.specs.declared.nodes.Node.{Node}
use Rattle.table.specs.declared.kinds.Kind.TheVariants as kinds
use Rattle.table.specs.Kinds.{kind_at}
use Rattle.table.specs.Listed.{node_at, end_at}
use Rattle.table.specs.Tree.{Statements, Final, Parameter, Declaration, Declarations, Body}
use Rattle.table.specs.Tree.Parameter.{parameter}
use Rattle.table.specs.Tree.Declaration.{variable, function}
use Rattle.table.specs.Tree.Body.{body}
use Rattle.table.specs.Layout.{of_parameter, of_declaration, of_body}
use Rattle.table.specs.Lays.{Lays}
use Rattle.table.proofs.Formed.{class-of-lays}
use Rattle.table.proofs.Kept.{body-class}
use Rattle.table.proofs.Placed.{lays-here}
use Rattle.table.proofs.Views.{as-body}
use Rattle.walk.specs.declared.codes.Instr.{Instr}
use Rattle.walk.specs.declared.codes.Code.{Code}
use Rattle.walk.specs.declared.names.What.TheVariants.{Function}
use Rattle.walk.specs.Scopes.Thing.{function as thing}
use Rattle.walk.specs.Sets.{marked}
use Rattle.walk.specs.Bind.{bind, beside}
use Rattle.walk.specs.Lay.{live, laid, aimed}
use Rattle.walk.specs.Walked.{Grew}
use Rattle.walk.specs.Types.{same_type, typed}
use Rattle.walk.specs.Known.{is_parameter, leading, seen, type_or}
use Rattle.walk.specs.Programs.{Scope as Walked, inner, inside, type_of, new, room_for, shallow, declaring, entered, with_function, declaring_function, walk_parameters, walk_declaration, walk_declarations, walk_body}
use Rattle.walk.proofs.Exits.{goes, breaks}
use Rattle.walk.proofs.Leading.{leading-more, leading-other}
use Rattle.admission.specs.declared.scopes.Names.{Names}
use Rattle.admission.specs.Standing.{scope_of, GaveScope}
use Rattle.admission.specs.Walks.{LaysParameters, LaysMembers, HasFunction, GaveFunction, GaveDeclaration, GaveScoped, Kept}
use Rattle.admission.proofs.Entered.{one_more}
use Rattle.admission.proofs.Progress.{stays-lower, type-back}

-- the parameters that stand at a node are those that a call reads there
pub leading-parameters : (table : List Node) (at stop : ℕ) (qs : List Parameter) (b : Body) → LaysParameters table qs b at stop → leading (drop at table) ≡ map type_of qs
leading-parameters table at stop [] b l =
    leading-other table at (lays-here (of_body b) table at l.0) (ap is_parameter (class-of-lays (of_body b) table at l.0 ∙ body-class b))
leading-parameters table at stop (parameter p t x ∷ qs) b l =
    leading-more table at l.0.0 (ap is_parameter (class-of-lays (of_parameter (parameter p t x)) table at l.0)) ∙
    ap (λ u. u ∷ leading (drop (at + 1) table)) (ap type_or l.0.2 ∙ type-back t) ∙
    ap (λ k. t ∷ leading (drop k table)) l.0.5 ∙
    ap (λ us. t ∷ us) (leading-parameters table (end_at table at) stop qs b l.1)

-- one thing after another, in either grouping
pub bind-regroup : {A B C : Type 0} (r : Result A Fault) (f : A → Result B Fault) (g : B → Result C Fault) → bind r (λ a. bind (f a) g) ≡ bind (bind r f) g
bind-regroup (Ok a) f g = refl
bind-regroup (Err e) f g = refl

-- a body by its parts
pub body_at : (table : List Node) (i : ℕ) (b : Body) → Lays (of_body b) table i → (ds : Declarations) × (ss : Statements) × (z : Final) × (b ≡ body (node_at table i).place ds ss z) × LaysMembers table ds ss z (i + 1) (end_at table i)
body_at table i b l =
    let v = as-body b in
    let m : Lays (of_body (body v.0 v.1 v.2 v.3)) table i = subst (λ a. Lays (of_body a) table i) v.4 l in
    (v.1, v.2, v.3, v.4 ∙ ap (λ p. body p v.1 v.2 v.3) (sym m.4), m.5)

module _ (table : List Node) (i : ℕ) (s : Walked) (code : List Instr) (t : ValueType) where
  pub body_refused : (y : Fault) → ((ds : Declarations) (ss : Statements) (z : Final) → LaysMembers table ds ss z (i + 1) (end_at table i) → inside s ss z code (λ q c. walk_declarations ds q c) ≡ Err y) → (b : Body) → Lays (of_body b) table i → walk_body b t s code ≡ Err y
  body_refused y e b l =
      let v = body_at table i b l in
      ap (λ a. walk_body a t s code) v.3 ∙ breaks (λ r. beside (typed (node_at table i).place (same_type r.0 t) t) r.1) (e v.0 v.1 v.2 v.4)

  pub body-judged : (u : ValueType) (after : List Instr) → ((ds : Declarations) (ss : Statements) (z : Final) → LaysMembers table ds ss z (i + 1) (end_at table i) → inside s ss z code (λ q c. walk_declarations ds q c) ≡ Ok (u, after)) → (same : Bool) → same_type u t ≡ same → (b : Body) → Lays (of_body b) table i → walk_body b t s code ≡ beside (typed (node_at table i).place same t) after
  body-judged u after e same is b l =
      let v = body_at table i b l in
      ap (λ a. walk_body a t s code) v.3 ∙ goes (λ r. beside (typed (node_at table i).place (same_type r.0 t) t) r.1) (e v.0 v.1 v.2 v.4) ∙
      ap (λ x. beside (typed (node_at table i).place x t) after) is

-- a function by what its node says
module _ (table : List Node) (i : ℕ) (node : Node) (there : node ≡ node_at table i) (s : Walked) (code : List Instr) where
  abbrev asked : List Parameter → Body → Result (Walked × List Instr) Fault
  asked qs b = declaring_function node.place (type_or node.sub) node.value qs s code (λ q c. walk_body b (type_or node.sub) q c)

  function-is : (p : ℕ) (t : ValueType) (x : ℕ) (qs : List Parameter) (b : Body) → Lays (of_declaration (function p t x qs b)) table i → walk_declaration (function p t x qs b) s code ≡ asked qs b
  function-is p t x qs b l =
      ap (λ p. declaring_function p t x qs s code (λ q c. walk_body b t q c)) (sym l.4 ∙ ap (λ n. n.place) (sym there)) ∙
      ap (λ t. declaring_function node.place t x qs s code (λ q c. walk_body b t q c)) (sym (type-back t) ∙ ap type_or (sym l.2 ∙ ap (λ n. n.sub) (sym there))) ∙
      ap (λ x. declaring_function node.place (type_or node.sub) x qs s code (λ q c. walk_body b (type_or node.sub) q c)) (sym l.3 ∙ ap (λ n. n.value) (sym there))

  pub function-known : (y : Fault) → new node.place s node.value ≡ Err y → (p : ℕ) (t : ValueType) (x : ℕ) (qs : List Parameter) (b : Body) → Lays (of_declaration (function p t x qs b)) table i → walk_declaration (function p t x qs b) s code ≡ Err y
  function-known y e p t x qs b l = function-is p t x qs b l ∙ breaks _ e

  pub function-full : (y : Fault) → new node.place s node.value ≡ Ok tt → room_for node.place s ≡ Err y → (p : ℕ) (t : ValueType) (x : ℕ) (qs : List Parameter) (b : Body) → Lays (of_declaration (function p t x qs b)) table i → walk_declaration (function p t x qs b) s code ≡ Err y
  function-full y n e p t x qs b l = function-is p t x qs b l ∙ goes _ n ∙ breaks _ e

  module _ (n : new node.place s node.value ≡ Ok tt) (r : room_for node.place s ≡ Ok tt) where
    pub function-deep : (y : Fault) → shallow node.place s ≡ Err y → (p : ℕ) (t : ValueType) (x : ℕ) (qs : List Parameter) (b : Body) → Lays (of_declaration (function p t x qs b)) table i → walk_declaration (function p t x qs b) s code ≡ Err y
    function-deep y e p t x qs b l = function-is p t x qs b l ∙ goes _ n ∙ goes _ r ∙ breaks _ e

    module _ (h : shallow node.place s ≡ Ok tt) (s' : Walked) (t : ValueType) (is : t ≡ type_or node.sub) (entered : (qs : List Parameter) (b : Body) → LaysParameters table qs b (i + 1) (end_at table i) → with_function s node.value t qs code ≡ s') where
      -- what is left once its name has entered
      function-rest : (p : ℕ) (u : ValueType) (x : ℕ) (qs : List Parameter) (b : Body) → Lays (of_declaration (function p u x qs b)) table i → walk_declaration (function p u x qs b) s code ≡ bind (bind (walk_parameters qs (inner s')) (λ q. walk_body b t q (laid code 18 0))) (λ r. Ok (s', aimed (laid r.1 23 (gives t)) (length code) 18))
      function-rest p u x qs b l =
          function-is p u x qs b l ∙ goes _ n ∙ goes _ r ∙ goes _ h ∙
          ap (λ t. bind (walk_parameters qs (inner (with_function s node.value t qs code))) (λ q. bind (walk_body b t q (laid code 18 0)) (λ r. Ok (with_function s node.value t qs code, aimed (laid r.1 23 (gives t)) (length code) 18)))) (sym is) ∙
          ap (λ z. bind (walk_parameters qs (inner z)) (λ q. bind (walk_body b t q (laid code 18 0)) (λ r. Ok (z, aimed (laid r.1 23 (gives t)) (length code) 18)))) (entered qs b l.5) ∙
          bind-regroup (walk_parameters qs (inner s')) (λ q. walk_body b t q (laid code 18 0)) (λ r. Ok (s', aimed (laid r.1 23 (gives t)) (length code) 18))

      pub function-refused : (y : Fault) → ((qs : List Parameter) (b : Body) → LaysParameters table qs b (i + 1) (end_at table i) → bind (walk_parameters qs (inner s')) (λ q. walk_body b t q (laid code 18 0)) ≡ Err y) → (p : ℕ) (u : ValueType) (x : ℕ) (qs : List Parameter) (b : Body) → Lays (of_declaration (function p u x qs b)) table i → walk_declaration (function p u x qs b) s code ≡ Err y
      function-refused y e p u x qs b l = function-rest p u x qs b l ∙ breaks (λ r. Ok (s', aimed (laid r.1 23 (gives t)) (length code) 18)) (e qs b l.5)

      pub function-done : (after : List Instr) → ((qs : List Parameter) (b : Body) → LaysParameters table qs b (i + 1) (end_at table i) → bind (walk_parameters qs (inner s')) (λ q. walk_body b t q (laid code 18 0)) ≡ Ok (t, after)) → (p : ℕ) (u : ValueType) (x : ℕ) (qs : List Parameter) (b : Body) → Lays (of_declaration (function p u x qs b)) table i → walk_declaration (function p u x qs b) s code ≡ Ok (s', aimed (laid after 23 (gives t)) (length code) 18)
      function-done after e p u x qs b l = function-rest p u x qs b l ∙ goes (λ r. Ok (s', aimed (laid r.1 23 (gives t)) (length code) 18)) (e qs b l.5)

-- a function stands at a node whose kind says so
pub has-function : (table : List Node) (i : ℕ) (d : Declaration) → Lays (of_declaration d) table i → kind_at (node_at table i).kind ≡ Some kinds.Function → HasFunction table i
has-function table i (variable p t x) l e = let z : ◌≡◌ (Some kinds.Variable) (Some kinds.Function) = sym (ap kind_at l.1) ∙ e in cc
has-function table i (function p t x qs b) l e = (p, t, x, qs, b, l)

pub gave-function : (table : List Node) (names : Names) (before : Code) (i : ℕ) (r : Result (Unit {0}) Fault) (names' : Names) (after : Code) → kind_at (node_at table i).kind ≡ Some kinds.Function → GaveFunction table names before i r names' after → GaveDeclaration table names before i r names' after
gave-function table names before i r names' after e g (variable p t x) l = let z : ◌≡◌ (Some kinds.Variable) (Some kinds.Function) = sym (ap kind_at l.1) ∙ e in cc
gave-function table names before i r names' after e g (function p t x qs b) l = g p t x qs b l

-- a variable comes to what declaring it comes to
pub a-variable : (table : List Node) (i : ℕ) (node : Node) → node ≡ node_at table i → (kind_at node.kind ≡ Some kinds.Function → ⊥) → (s : Walked) (code : List Instr) (d : Declaration) → Lays (of_declaration d) table i → (i + 1 ≡ end_at table i) × (walk_declaration d s code ≡ beside (declaring node.place (type_or node.sub) node.value false s) code)
a-variable table i node there n s code (function p t x qs b) l = absurd (n (ap (λ m. kind_at m.kind) there ∙ ap kind_at l.1))
a-variable table i node there n s code (variable p t x) l = (
  l.5,
  ap (λ p. beside (declaring p t x false s) code) (sym l.4 ∙ ap (λ n. n.place) (sym there)) ∙
      ap (λ t. beside (declaring node.place t x false s) code) (sym (type-back t) ∙ ap type_or (sym l.2 ∙ ap (λ n. n.sub) (sym there))) ∙
      ap (λ x. beside (declaring node.place (type_or node.sub) x false s) code) (sym l.3 ∙ ap (λ n. n.value) (sym there)),
)

pub gave-scoped : (table : List Node) (r : Result (Unit {0}) Fault) (names : Names) (code : Code) (x : Result Walked Fault) (y : Result (Walked × List Instr) Fault) → GaveScope table r names x → y ≡ beside x (live code) → GaveScoped table r names code y
gave-scoped table (Ok u) names code x y g e = e ∙ ap (λ z. beside z (live code)) g
gave-scoped table (Err y') names code x y g e = e ∙ ap (λ z. beside z (live code)) g

-- the code's entry for a function stands for the function with the parameters that its node has
pub function-entered : (table : List Node) (before after : Names) (i stop x : ℕ) (t : ValueType) (code : List Instr) (jump : ℕ) → before.scope.height < 255 → after.entries ≡ set before.entries before.scope.height (record { name = x; level = before.scope.level; what = Function t (i + 1) (jump + 1) }) → after.scope.height ≡ before.scope.height + 1 → after.scope.level ≡ before.scope.level → after.scope.floor ≡ before.scope.floor → after.scope.slots ≡ before.scope.slots → after.scope.flags.set ≡ marked before.scope.flags.set before.scope.height false → jump ≡ length code → (qs : List Parameter) (b : Body) → LaysParameters table qs b (i + 1) stop → with_function (scope_of table before) x t qs code ≡ scope_of table after
function-entered table before after i stop x t code jump h entries height level floor slots flags at qs b l =
    ap (λ ts. entered (scope_of table before) x (thing t ts (length code + 1)) false) (sym (leading-parameters table (i + 1) stop qs b l)) ∙
    ap (λ n. entered (scope_of table before) x (thing t (leading (drop (i + 1) table)) (n + 1)) false) (sym at) ∙
    sym (one_more table before after (record { name = x; level = before.scope.level; what = Function t (i + 1) (jump + 1) }) false h entries height level floor slots flags)

-- the names below a height are all that a scope is made of
pub scope_kept : (table : List Node) (before after : Names) → after.scope ≡ before.scope → take before.scope.height after.entries ≡ take before.scope.height before.entries → scope_of table after ≡ scope_of table before
scope_kept table before after e k =
    ap (λ s. record { env = seen table (take s.height after.entries) s.level; floor = s.floor; slots = s.slots; flags = s.flags.set }) e ∙
    ap (λ xs. record { env = seen table xs before.scope.level; floor = before.scope.floor; slots = before.scope.slots; flags = before.scope.flags.set }) k

-- a node that lays nothing
pub grew_none : (r : Result (Unit {0}) Fault) (table : List Node) (n i end : ℕ) → i < length table → i + 1 ≡ end → Grew r table n n i end
grew_none (Ok u) table n i end h e = (omega arith, omega arith, omega arith, omega arith)
grew_none (Err y) table n i end h e = tt

-- the names that there were before parameters stay with those that there are after them
pub kept_on : (r : Result (Unit {0}) Fault) (before between after last : Names) → before.scope.height ≤ between.scope.height → take before.scope.height between.entries ≡ take before.scope.height before.entries → Kept r between after → last.entries ≡ after.entries → Kept r before last
kept_on (Ok u) before between after last l e k d = ap (take before.scope.height) d ∙ stays-lower before.scope.height between.scope.height between.entries after.entries l k ∙ e
kept_on (Err y) before between after last l e k d = tt

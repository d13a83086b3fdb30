-- How far the walk over a row of parameters or declarations has come. Assumes nothing.
use Rattle.std.proofs.Common.{◌≡◌, ℕ, ◌+◌, ◌*◌, ◌<◌, ◌≤◌, true, List, [], ◌∷◌, take, Ok, Err, sym, refl, ap, ◌∙◌, subst, arith}
use Rattle.language.specs.declared.faults.Fault.{Fault}
use Rattle.std.proofs.lemmas.List.{take-take}
use Rattle.table.specs.declared.kinds.Class.TheVariants as classes
use Rattle.table.specs.declared.nodes.Node.{Node}
use Rattle.language.specs.declared.values.ValueType.{ValueType}
use Rattle.language.specs.declared.values.ValueType.TheVariants.{Void, Int, Bool}
use Rattle.language.specs.Numbers.{type_number}
use Rattle.table.specs.declared.checking.ChildNodes.{ChildNodes}
use Rattle.table.specs.Kinds.{kind_at, class_or}
use Rattle.table.specs.Listed.{node_at, end_at}
use Rattle.table.specs.Tree.{Parameter, Body, Statements, Final, Declaration, Declarations}
use Rattle.table.specs.Tree.Parameter.{parameter}
use Rattle.table.specs.Tree.Declarations.{declaration}
use Rattle.table.proofs.Chains.{class_at}
use Rattle.table.proofs.Placed.{lays-rises, lays-rises-all}
use Rattle.table.proofs.Unique.{row-lacks}
use Rattle.table.proofs.Rows.{parameters-ended, parameters-go-on, declarations-ended, declarations-go-on}
use Rattle.table.proofs.Views.{as-parameter}
use Rattle.table.specs.Layout.{of_parameter, of_parameters, of_body, of_declaration, of_declarations, of_statements, of_final}
use Rattle.table.specs.Layout.{Branches}
use Rattle.table.specs.Layout.Branches.{nil, cons}
use Rattle.table.specs.Lays.{Lays, LaysAll}
use Rattle.walk.specs.Known.{type_or}
use Rattle.walk.specs.declared.codes.Code.{Code}
use Rattle.walk.specs.Bind.{bind}
use Rattle.walk.specs.Lay.{live, count}
use Rattle.walk.specs.Programs.{declaring, walk_parameters, walk_declaration, walk_declarations}
use Rattle.walk.proofs.Along.{Children, Child}
use Rattle.walk.proofs.Exits.{goes, breaks}
use Rattle.admission.specs.declared.scopes.Names.{Names}
use Rattle.admission.specs.Standing.{scope_of, Widened}
use Rattle.admission.specs.Walks.{LaysParameters, LaysMembers}

-- what stays below a height stays below a lower one
pub stays-lower : {X : Type 0} (m n : ℕ) (xs ys : List X) → m ≤ n → take n ys ≡ take n xs → take m ys ≡ take m xs
stays-lower m n xs ys h e = sym (take-take m n ys h) ∙ ap (take m) e ∙ take-take m n xs h

-- names added
abbrev pub Added : Names → Names → Type 0
Added before after = Widened {A = Unit {0}} (Ok tt) before after

-- and then more
pub added-on : (before between after : Names) → Added before between → Added between after → Added before after
added-on before between after a b =
    (omega (arith, a.0, b.0), b.1 ∙ a.1, stays-lower before.scope.height between.scope.height between.entries after.entries a.0 b.2 ∙ a.2, omega (arith, a.3, b.3))

-- the parameters from the first on come to what those from here on come to, with the names so far
pub record ParametersSoFar (table : List Node) (before : Names) (from stop : ℕ) (children : ChildNodes) (now : Names) : Type 0 where
  pub over : Children table stop children
  pub behind : from ≤ children.at
  pub widened : Added before now
  pub onward :
      (qs : List Parameter) (b : Body) → LaysParameters table qs b from stop →
      (rs : List Parameter) × LaysParameters table rs b children.at stop ×
      (walk_parameters qs (scope_of table before) ≡ walk_parameters rs (scope_of table now))

-- a type by its number
pub type-back : (t : ValueType) → type_or (type_number t) ≡ t
type-back Void = refl
type-back Int = refl
type-back Bool = refl

-- the parameter that stands at a node, and those after it
pub record NextParameter (table : List Node) (at stop : ℕ) (rs : List Parameter) (b : Body) : Type 0 where
  pub others : List Parameter
  pub is : rs ≡ parameter (node_at table at).place (type_or (node_at table at).sub) (node_at table at).value ∷ others
  pub rises : at < end_at table at
  pub after : LaysParameters table others b (end_at table at) stop

pub next-parameter : (table : List Node) (at stop : ℕ) (rs : List Parameter) (b : Body) → LaysParameters table rs b at stop → class_at table at ≡ classes.Parameter → NextParameter table at stop rs b
next-parameter table at stop rs b l e =
    let g = parameters-go-on table at stop rs b l e in
    let v = as-parameter g.0 in
    let whole : rs ≡ parameter v.0 v.1 v.2 ∷ g.1 = g.2 ∙ ap (λ q. q ∷ g.1) v.3 in
    let m : LaysParameters table (parameter v.0 v.1 v.2 ∷ g.1) b at stop = subst (λ qs. LaysParameters table qs b at stop) whole l in
    record {
      others = g.1;
      is = whole ∙ ap (λ p. parameter p v.1 v.2 ∷ g.1) (sym m.0.4) ∙
          ap (λ t. parameter (node_at table at).place t v.2 ∷ g.1) (sym (type-back v.1) ∙ ap type_or (sym m.0.2)) ∙
          ap (λ x. parameter (node_at table at).place (type_or (node_at table at).sub) x ∷ g.1) (sym m.0.3);
      rises = lays-rises (of_parameter (parameter v.0 v.1 v.2)) table at m.0;
      after = m.1;
    }

-- a body stands short of the stop, parameters before it or not
pub body-ahead : (table : List Node) (at stop : ℕ) (rs : List Parameter) (b : Body) → LaysParameters table rs b at stop → at < stop
body-ahead table at stop [] b l = omega (arith, lays-rises (of_body b) table at l.0, l.1)
body-ahead table at stop (q ∷ rs) b l =
    omega (arith, lays-rises (of_parameter q) table at l.0, lays-rises-all (of_parameters rs (cons (of_body b) nil)) table (end_at table at) stop l.1)

-- where no child stands short of the stop, the row has ended
pub run-out : (bs : Branches) (table : List Node) (at stop : ℕ) → (at < end_at table at → end_at table at ≤ stop → ⊥) → LaysAll bs table at stop → at ≡ stop
run-out nil table at stop n l = l
run-out (cons b bs) table at stop n l = absurd (n (lays-rises b table at l.0) (lays-rises-all bs table (end_at table at) stop l.1))

module _ (table : List Node) (before : Names) (from stop : ℕ) (children others : ChildNodes) (given : ℕ × Node) (now : Names) (sofar : ParametersSoFar table before from stop children now) (k : Child table stop children given others) where
  -- the parameters have ended where a child of another class is given
  pub parameters-end : (class_or (kind_at given.1.kind) ≡ classes.Parameter → ⊥) → (qs : List Parameter) (b : Body) → LaysParameters table qs b from stop → (walk_parameters qs (scope_of table before) ≡ Ok (scope_of table now)) × LaysAll (cons (of_body b) nil) table given.0 stop
  parameters-end n qs b l =
      let w = sofar.onward qs b l in
      let z = parameters-ended table children.at stop w.0 b w.1 (λ e. n (ap (λ m. class_or (kind_at m.kind)) k.node ∙ e)) in
      (w.2 ∙ ap (λ rs. walk_parameters rs (scope_of table now)) z, subst (λ i. LaysAll (cons (of_body b) nil) table i stop) (sym k.number) (subst (λ rs. LaysParameters table rs b children.at stop) z w.1))

  module _ (class : class_or (kind_at given.1.kind) ≡ classes.Parameter) where
    -- one more parameter comes to what declaring it comes to, and then the others
    parameters-step : (qs : List Parameter) (b : Body) → LaysParameters table qs b from stop → (rs : List Parameter) × LaysParameters table rs b others.at stop × (walk_parameters qs (scope_of table before) ≡ bind (declaring given.1.place (type_or given.1.sub) given.1.value true (scope_of table now)) (walk_parameters rs))
    parameters-step qs b l =
        let w = sofar.onward qs b l in
        let n = next-parameter table children.at stop w.0 b w.1 (ap (λ m. class_or (kind_at m.kind)) (sym k.node) ∙ class) in (
          n.others,
          subst (λ i. LaysParameters table n.others b i stop) (sym k.ends) n.after,
          w.2 ∙ ap (λ rs. walk_parameters rs (scope_of table now)) n.is ∙
              ap (λ m. bind (declaring m.place (type_or m.sub) m.value true (scope_of table now)) (walk_parameters n.others)) (sym k.node),
        )

    pub parameters-refused : (y : Fault) → declaring given.1.place (type_or given.1.sub) given.1.value true (scope_of table now) ≡ Err y → (qs : List Parameter) (b : Body) → LaysParameters table qs b from stop → walk_parameters qs (scope_of table before) ≡ Err y
    parameters-refused y e qs b l = let n = parameters-step qs b l in n.2 ∙ breaks (walk_parameters n.0) e

    pub parameters-on : (after : Names) → declaring given.1.place (type_or given.1.sub) given.1.value true (scope_of table now) ≡ Ok (scope_of table after) → Added now after → ParametersSoFar table before from stop others after
    parameters-on after e v =
        record {
          over = k.onward;
          behind = omega (arith, sofar.behind, k.rises, k.ends);
          widened = added-on before now after sofar.widened v;
          onward = λ qs b l. let n = parameters-step qs b l in (n.0, n.1, n.2 ∙ goes (walk_parameters n.0) e);
        }

-- the declarations from the first on come to what those from here on come to, with the names and the code so far
pub record DeclarationsSoFar (table : List Node) (before : Names) (code : Code) (from stop : ℕ) (children : ChildNodes) (now : Names) (laid : Code) : Type 0 where
  pub over : Children table stop children
  pub behind : from ≤ children.at
  pub short : children.at ≤ stop
  pub widened : Added before now
  pub grows : count code ≤ count laid
  pub room : count laid + 3 * from ≤ count code + 3 * children.at
  pub onward :
      (ds : Declarations) (ss : Statements) (z : Final) → LaysMembers table ds ss z from stop →
      (es : Declarations) × LaysMembers table es ss z children.at stop ×
      (walk_declarations ds (scope_of table before) (live code) ≡ walk_declarations es (scope_of table now) (live laid))

-- the declarations have ended
module _ (table : List Node) (before : Names) (code : Code) (from stop : ℕ) (children : ChildNodes) (now : Names) (laid : Code) (sofar : DeclarationsSoFar table before code from stop children now laid) where
  pub declarations-end : (children.at < stop → class_at table children.at ≡ classes.Declaration → ⊥) → (ds : Declarations) (ss : Statements) (z : Final) → LaysMembers table ds ss z from stop → (walk_declarations ds (scope_of table before) (live code) ≡ Ok (scope_of table now, live laid)) × LaysAll (of_statements ss (of_final z)) table children.at stop
  declarations-end n ds ss z l =
      let w = sofar.onward ds ss z l in
      let e = declarations-ended table children.at stop w.0 (of_statements ss (of_final z)) w.1 n in
      (w.2 ∙ ap (λ es. walk_declarations es (scope_of table now) (live laid)) e, subst (λ es. LaysMembers table es ss z children.at stop) e w.1)

  pub declarations-out : (children.at < end_at table children.at → end_at table children.at ≤ stop → ⊥) → (ds : Declarations) (ss : Statements) (z : Final) → LaysMembers table ds ss z from stop → children.at ≡ stop
  declarations-out n ds ss z l =
      let w = sofar.onward ds ss z l in run-out (of_declarations w.0 (of_statements ss (of_final z))) table children.at stop n w.1

  -- one more declaration
  module _ (others : ChildNodes) (given : ℕ × Node) (k : Child table stop children given others) (class : class_or (kind_at given.1.kind) ≡ classes.Declaration) where
    pub declarations-step : (ds : Declarations) (ss : Statements) (z : Final) → LaysMembers table ds ss z from stop → (d : Declaration) × (es : Declarations) × Lays (of_declaration d) table given.0 × LaysMembers table es ss z others.at stop × (walk_declarations ds (scope_of table before) (live code) ≡ bind (walk_declaration d (scope_of table now) (live laid)) (λ r. walk_declarations es r.0 r.1))
    declarations-step ds ss z l =
        let w = sofar.onward ds ss z l in
        let n = declarations-go-on table children.at stop w.0 (of_statements ss (of_final z)) (row-lacks ss z) w.1 (omega (arith, k.rises, k.keeps)) (ap (λ m. class_or (kind_at m.kind)) (sym k.node) ∙ class) in
        let m : LaysMembers table (declaration n.0 n.1) ss z children.at stop = subst (λ es. LaysMembers table es ss z children.at stop) n.2 w.1 in
        (n.0, n.1, subst (λ i. Lays (of_declaration n.0) table i) (sym k.number) m.0, subst (λ i. LaysMembers table n.1 ss z i stop) (sym k.ends) m.1, w.2 ∙ ap (λ es. walk_declarations es (scope_of table now) (live laid)) n.2)

    pub declarations-refused : (y : Fault) → ((d : Declaration) → Lays (of_declaration d) table given.0 → walk_declaration d (scope_of table now) (live laid) ≡ Err y) → (ds : Declarations) (ss : Statements) (z : Final) → LaysMembers table ds ss z from stop → walk_declarations ds (scope_of table before) (live code) ≡ Err y
    declarations-refused y e ds ss z l =
        let n = declarations-step ds ss z l in n.4 ∙ breaks (λ r. walk_declarations n.1 r.0 r.1) (e n.0 n.2)

    pub declarations-on : (after : Names) (more : Code) → ((d : Declaration) → Lays (of_declaration d) table given.0 → walk_declaration d (scope_of table now) (live laid) ≡ Ok (scope_of table after, live more)) → Added now after → count laid ≤ count more → count more + 3 * given.0 ≤ count laid + 3 * end_at table given.0 → DeclarationsSoFar table before code from stop others after more
    declarations-on after more e v grows room =
        let number = k.number in
        let ends : others.at ≡ end_at table given.0 = k.ends ∙ ap (end_at table) (sym number) in
        record {
          over = k.onward;
          behind = omega (arith, sofar.behind, k.rises, k.ends);
          short = omega (arith, k.keeps, k.ends);
          widened = added-on before now after sofar.widened v;
          grows = omega (arith, sofar.grows);
          room = omega (arith, sofar.room);
          onward = λ ds ss z l.
              let n = declarations-step ds ss z l in (n.1, n.3, n.4 ∙ goes (λ r. walk_declarations n.1 r.0 r.1) (e n.0 n.2));
        }

-- What a list of trees is, where a table has it from one node to a stop: for those who read the table node by node and look at the number, or at the class of the node that stands there. Assumes nothing.
use Rattle.std.proofs.Common.{◌≡◌, ℕ, ◌+◌, ◌<◌, ◌≤◌, true, List, [], ◌∷◌, Some, sym, refl, ◌∙◌, subst, arith}
use Rattle.std.proofs.lemmas.Option.{same_Some}
use Rattle.table.specs.declared.kinds.Kind.{Kind}
use Rattle.table.specs.declared.kinds.Class.{Class}
use Rattle.table.specs.declared.kinds.Class.TheVariants as classes
use Rattle.table.specs.declared.nodes.Node.{Node}
use Rattle.table.specs.Kinds.{kind_at, limits_of, within}
use Rattle.table.specs.Tree.{Expression, Arguments, Statement, Statements, Final, Parameter, Declaration, Declarations, Body, Program}
use Rattle.table.specs.Tree.Arguments.{no_arguments, argument}
use Rattle.table.specs.Tree.Statements.{no_statements, statement}
use Rattle.table.specs.Tree.Final.{no_final, final}
use Rattle.table.specs.Tree.Declarations.{no_declarations, declaration}
use Rattle.table.specs.Tree.Program.{single, whole}
use Rattle.table.specs.Layout.{Branch, Branches, of_program, of_expression, of_arguments, of_statement, of_statements, of_final, of_parameter, of_parameters, of_declaration, of_declarations, of_body}
use Rattle.table.specs.Layout.Branches.{nil, cons}
use Rattle.table.specs.Listed.{node_at, end_at, Listed}
use Rattle.table.specs.Lays.{Lays, LaysAll}
use Rattle.table.proofs.Chains.{class_at}
use Rattle.table.proofs.Placed.{lays-rises, lays-rises-all}
use Rattle.table.proofs.Formed.{class-of-lays}
use Rattle.table.proofs.Kept.{expression-class, statement-class, parameter-class, declaration-class}
use Rattle.table.proofs.Unique.{Lacks, body-lacks, expression-not-declaration}

-- a first branch stands short of the stop
front : (b : Branch) (bs : Branches) (table : List Node) (at stop : ℕ) → LaysAll (cons b bs) table at stop → at < stop
front b bs table at stop l = omega (arith, lays-rises b table at l.0, lays-rises-all bs table (end_at table at) stop l.1)

-- and no node of a class that is lacking stands there
lacking : (c : Class) (bs : Branches) (table : List Node) (at stop : ℕ) → Lacks c bs → LaysAll bs table at stop → at < stop → class_at table at ≡ c → ⊥
lacking c nil table at stop n l h e = omega arith
lacking c (cons b bs) table at stop n l h e = n (sym (class-of-lays b table at l.0) ∙ e)

module _ (table : List Node) (at stop : ℕ) where
  -- arguments: by the number alone
  pub no-argument : (es : Arguments) → LaysAll (of_arguments es) table at stop → stop ≤ at → es ≡ no_arguments
  no-argument no_arguments l h = refl
  no-argument (argument e es) l h = absurd (omega (arith, front (of_expression e) (of_arguments es) table at stop l))

  pub an-argument : (es : Arguments) → LaysAll (of_arguments es) table at stop → at < stop → (f : Expression) × (fs : Arguments) × (es ≡ argument f fs)
  an-argument no_arguments l h = absurd (omega arith)
  an-argument (argument e es) l h = (e, es, refl)

  -- statements that nothing follows: by the number alone
  pub no-statement : (ss : Statements) → LaysAll (of_statements ss nil) table at stop → stop ≤ at → ss ≡ no_statements
  no-statement no_statements l h = refl
  no-statement (statement s ss) l h = absurd (omega (arith, front (of_statement s) (of_statements ss nil) table at stop l))

  pub a-statement : (ss : Statements) → LaysAll (of_statements ss nil) table at stop → at < stop → (r : Statement) × (rs : Statements) × (ss ≡ statement r rs)
  a-statement no_statements l h = absurd (omega arith)
  a-statement (statement s ss) l h = (s, ss, refl)

  -- statements that something else may follow: by the class
  pub row-ended : (ss : Statements) (others : Branches) → LaysAll (of_statements ss others) table at stop → (at < stop → class_at table at ≡ classes.Statement → ⊥) → ss ≡ no_statements
  row-ended no_statements others l n = refl
  row-ended (statement s ss) others l n =
      absurd (n (front (of_statement s) (of_statements ss others) table at stop l) (class-of-lays (of_statement s) table at l.0 ∙ statement-class s))

  pub row-goes-on : (ss : Statements) (others : Branches) → Lacks classes.Statement others → LaysAll (of_statements ss others) table at stop → at < stop → class_at table at ≡ classes.Statement → (r : Statement) × (rs : Statements) × (ss ≡ statement r rs)
  row-goes-on no_statements others m l h e = absurd (lacking classes.Statement others table at stop m l h e)
  row-goes-on (statement s ss) others m l h e = (s, ss, refl)

  -- declarations, by the class
  pub declarations-ended : (ds : Declarations) (others : Branches) → LaysAll (of_declarations ds others) table at stop → (at < stop → class_at table at ≡ classes.Declaration → ⊥) → ds ≡ no_declarations
  declarations-ended no_declarations others l n = refl
  declarations-ended (declaration d ds) others l n =
      absurd (n (front (of_declaration d) (of_declarations ds others) table at stop l) (class-of-lays (of_declaration d) table at l.0 ∙ declaration-class d))

  pub declarations-go-on : (ds : Declarations) (others : Branches) → Lacks classes.Declaration others → LaysAll (of_declarations ds others) table at stop → at < stop → class_at table at ≡ classes.Declaration → (c : Declaration) × (cs : Declarations) × (ds ≡ declaration c cs)
  declarations-go-on no_declarations others m l h e = absurd (lacking classes.Declaration others table at stop m l h e)
  declarations-go-on (declaration d ds) others m l h e = (d, ds, refl)

  -- parameters, by the class; a body follows them
  pub parameters-ended : (qs : List Parameter) (b : Body) → LaysAll (of_parameters qs (cons (of_body b) nil)) table at stop → (class_at table at ≡ classes.Parameter → ⊥) → qs ≡ []
  parameters-ended [] b l n = refl
  parameters-ended (q ∷ qs) b l n = absurd (n (class-of-lays (of_parameter q) table at l.0 ∙ parameter-class q))

  pub parameters-go-on : (qs : List Parameter) (b : Body) → LaysAll (of_parameters qs (cons (of_body b) nil)) table at stop → class_at table at ≡ classes.Parameter → (r : Parameter) × (rs : List Parameter) × (qs ≡ r ∷ rs)
  parameters-go-on [] b l e = absurd (body-lacks b (sym (class-of-lays (of_body b) table at l.0) ∙ e))
  parameters-go-on (q ∷ qs) b l e = (q, qs, refl)

  -- at most one expression, by the number
  pub no-final : (f : Final) → LaysAll (of_final f) table at stop → stop ≤ at → f ≡ no_final
  no-final no_final l h = refl
  no-final (final e) l h = absurd (omega (arith, front (of_expression e) nil table at stop l))

  pub a-final : (f : Final) → LaysAll (of_final f) table at stop → at < stop → (e : Expression) × (f ≡ final e)
  a-final no_final l h = absurd (omega arith)
  a-final (final e) l h = (e, refl)

-- a program, by the class of its first child
pub a-single : (t : Program) (table : List Node) (i : ℕ) → Lays (of_program t) table i → class_at table (i + 1) ≡ classes.Expression → (p : ℕ) × (e : Expression) × (t ≡ single p e)
a-single (single p e) table i l h = (p, e, refl)
a-single (whole p d ds ss f) table i l h =
    absurd (expression-not-declaration (sym h ∙ class-of-lays (of_declaration d) table (i + 1) l.5.0 ∙ declaration-class d))

pub a-whole : (t : Program) (table : List Node) (i : ℕ) → Lays (of_program t) table i → class_at table (i + 1) ≡ classes.Declaration → (p : ℕ) × (d : Declaration) × (ds : Declarations) × (ss : Statements) × (f : Final) × (t ≡ whole p d ds ss f)
a-whole (single p e) table i l h =
    absurd (expression-not-declaration (sym (expression-class e) ∙ sym (class-of-lays (of_expression e) table (i + 1) l.5.0) ∙ h))
a-whole (whole p d ds ss f) table i l h = (p, d, ds, ss, f, refl)

-- sub and value of a node as listed keep to the limits of the kind that the code has decided
pub limited-at : (table : List Node) (i : ℕ) (k : Kind) → Listed table i → kind_at (node_at table i).kind ≡ Some k → within (limits_of k) (node_at table i).sub (node_at table i).value ≡ true
limited-at table i k l e =
    subst (λ j. within (limits_of j) (node_at table i).sub (node_at table i).value ≡ true) (same_Some _ _ (sym l.known ∙ e)) l.limited

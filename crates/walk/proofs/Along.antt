-- How far the walk over a row of arguments or statements has come. Assumes nothing.
use Rattle.std.proofs.Common.{◌≡◌, ℕ, ◌+◌, ◌*◌, ◌<◌, ◌≤◌, List, Some, None, sym, refl, ap, ◌∙◌, subst, arith}
use Rattle.table.specs.declared.nodes.Node.{Node}
use Rattle.table.specs.declared.checking.ChildNodes.{ChildNodes}
use Rattle.table.specs.ChildNodes.{GivesChild}
use Rattle.table.specs.Listed.{node_at, end_at}
use Rattle.table.specs.Tree.{Expression, Arguments, Statement, Statements, Final}
use Rattle.table.specs.Tree.Arguments.{no_arguments, argument}
use Rattle.table.specs.Tree.Statements.{no_statements, statement}
use Rattle.table.specs.Tree.Final.{no_final, final}
use Rattle.table.specs.Layout.{of_expression, of_arguments, of_statement, of_statements, of_final}
use Rattle.table.specs.Layout.Branches.{nil}
use Rattle.table.specs.Lays.{Lays, LaysAll}
use Rattle.table.specs.Kinds.{kind_at, class_or}
use Rattle.table.specs.declared.kinds.Class.TheVariants as classes
use Rattle.table.proofs.Chains.{class_at}
use Rattle.table.proofs.Unique.{final-lacks}
use Rattle.table.proofs.Rows.{an-argument, row-ended, row-goes-on}
use Rattle.table.proofs.Placed.{lays-rises, lays-rises-all}
use Rattle.walk.specs.declared.codes.Code.{Code}
use Rattle.walk.specs.declared.contexts.Context.{Context}
use Rattle.walk.specs.declared.flags.Flags.{Flags}
use Rattle.walk.specs.declared.names.Tally.{Tally}
use Rattle.walk.specs.Lay.{live, count}
use Rattle.walk.specs.Known.{tally_of}
use Rattle.walk.specs.Expressions.{walk_arguments, walk_statements}
use Rattle.walk.specs.Walked.{env_of}

-- the children that are still to come stand in the table, short of the stop
pub record Children (table : List Node) (stop : ℕ) (children : ChildNodes) : Type 0 where
  pub over : children.nodes.now ≡ table
  pub to : children.stop ≡ stop

-- a child that is given: which it is, where it ends, and those that are still to come
pub record Child (table : List Node) (stop : ℕ) (children : ChildNodes) (given : ℕ × Node) (others : ChildNodes) : Type 0 where
  pub number : given.0 ≡ children.at
  pub node : given.1 ≡ node_at table children.at
  pub rises : children.at < end_at table children.at
  pub keeps : end_at table children.at ≤ stop
  pub ends : others.at ≡ end_at table children.at
  pub onward : Children table stop others

module _ {table : List Node} {stop : ℕ} (children others : ChildNodes) (f : Children table stop children) where
  pub a-child : (given : ℕ × Node) → GivesChild children (Some given) others → Child table stop children given others
  a-child given g =
      subst (λ t. Child t stop children given others) f.over
      (subst (λ s. Child children.nodes.now s children given others) f.to
      (record {
        number = ap (λ p. p.0) g.1;
        node = ap (λ p. p.1) g.1;
        rises = g.0.0;
        keeps = g.0.1;
        ends = ap (λ c. c.at) g.2;
        onward = record { over = ap (λ c. c.nodes.now) g.2; to = ap (λ c. c.stop) g.2 };
      }))

  pub no-child : GivesChild children None others → children.at < end_at table children.at → end_at table children.at ≤ stop → ⊥
  no-child g =
      subst (λ t. children.at < end_at t children.at → end_at t children.at ≤ stop → ⊥) f.over
      (subst (λ s. children.at < end_at children.nodes.now children.at → end_at children.nodes.now children.at ≤ s → ⊥) f.to (λ a b. g.0 (a, b)))

-- what the row is, where a child is given
module _ {table : List Node} {stop : ℕ} {children others : ChildNodes} {given : ℕ × Node} (k : Child table stop children given others) where
  pub argument-given : (es : Arguments) → LaysAll (of_arguments es) table children.at stop → (e : Expression) × (fs : Arguments) × (es ≡ argument e fs) × Lays (of_expression e) table given.0 × LaysAll (of_arguments fs) table others.at stop
  argument-given es l =
      let a = an-argument table children.at stop es l (omega (arith, k.rises, k.keeps)) in
      let m : LaysAll (of_arguments (argument a.0 a.1)) table children.at stop = subst (λ fs. LaysAll (of_arguments fs) table children.at stop) a.2 l in
      (a.0, a.1, a.2, subst (λ n. Lays (of_expression a.0) table n) (sym k.number) m.0, subst (λ n. LaysAll (of_arguments a.1) table n stop) (sym k.ends) m.1)

  class_given : class_at table children.at ≡ class_or (kind_at given.1.kind)
  class_given = ap (λ n. class_or (kind_at n.kind)) (sym k.node)

  pub statement-given : class_or (kind_at given.1.kind) ≡ classes.Statement → (ss : Statements) (f : Final) → LaysAll (of_statements ss (of_final f)) table children.at stop → (s : Statement) × (rs : Statements) × (ss ≡ statement s rs) × Lays (of_statement s) table given.0 × LaysAll (of_statements rs (of_final f)) table others.at stop
  statement-given e ss f l =
      let a = row-goes-on table children.at stop ss (of_final f) (final-lacks f) l (omega (arith, k.rises, k.keeps)) (class_given ∙ e) in
      let m : LaysAll (of_statements (statement a.0 a.1) (of_final f)) table children.at stop = subst (λ rs. LaysAll (of_statements rs (of_final f)) table children.at stop) a.2 l in
      (a.0, a.1, a.2, subst (λ n. Lays (of_statement a.0) table n) (sym k.number) m.0, subst (λ n. LaysAll (of_statements a.1 (of_final f)) table n stop) (sym k.ends) m.1)

  pub another-given : (class_or (kind_at given.1.kind) ≡ classes.Statement → ⊥) → (ss : Statements) (f : Final) → LaysAll (of_statements ss (of_final f)) table children.at stop → (ss ≡ no_statements) × LaysAll (of_final f) table given.0 stop
  another-given n ss f l =
      let z = row-ended table children.at stop ss (of_final f) l (λ h e. n (sym class_given ∙ e)) in
      (z, subst (λ i. LaysAll (of_final f) table i stop) (sym k.number) (subst (λ rs. LaysAll (of_statements rs (of_final f)) table children.at stop) z l))

-- where none stands short of the stop, the row has ended, and there
module _ (table : List Node) (at stop : ℕ) (n : at < end_at table at → end_at table at ≤ stop → ⊥) where
  pub arguments-ended : (es : Arguments) → LaysAll (of_arguments es) table at stop → (es ≡ no_arguments) × (at ≡ stop)
  arguments-ended no_arguments l = (refl, l)
  arguments-ended (argument e es) l =
      absurd (n (lays-rises (of_expression e) table at l.0) (lays-rises-all (of_arguments es) table (end_at table at) stop l.1))

  pub statements-ended : (ss : Statements) (f : Final) → LaysAll (of_statements ss (of_final f)) table at stop → (ss ≡ no_statements) × (at ≡ stop) × LaysAll (of_final f) table stop stop
  statements-ended no_statements no_final l = (refl, l, refl)
  statements-ended no_statements (final e) l =
      absurd (n (lays-rises (of_expression e) table at l.0) (lays-rises-all nil table (end_at table at) stop l.1))
  statements-ended (statement s ss) f l =
      absurd (n (lays-rises (of_statement s) table at l.0) (lays-rises-all (of_statements ss (of_final f)) table (end_at table at) stop l.1))

-- the arguments from the first on come to what those from here on come to, with the tally and the code so far
pub record ArgumentsSoFar (context : Context) (flags : Flags) (before : Code) (from stop : ℕ) (first : Tally) (children : ChildNodes) (tally : Tally) (after : Code) : Type 0 where
  pub over : Children context.nodes.now stop children
  pub behind : from ≤ children.at
  pub short : children.at ≤ stop
  pub grows : count before ≤ count after
  pub room : count after + 3 * from ≤ count before + 3 * children.at
  pub onward :
      (es : Arguments) → LaysAll (of_arguments es) context.nodes.now from stop →
      (fs : Arguments) × LaysAll (of_arguments fs) context.nodes.now children.at stop ×
      (walk_arguments (env_of context) es (tally_of context.nodes.now first) flags.set (live before) ≡
      walk_arguments (env_of context) fs (tally_of context.nodes.now tally) flags.set (live after))

-- the statements from the first on come to what those from here on come to, with what is set and the code so far
pub record RowSoFar (context : Context) (flags : Flags) (before : Code) (from stop : ℕ) (children : ChildNodes) (now : Flags) (after : Code) : Type 0 where
  pub over : Children context.nodes.now stop children
  pub behind : from ≤ children.at
  pub short : children.at ≤ stop
  pub grows : count before ≤ count after
  pub room : count after + 3 * from ≤ count before + 3 * children.at
  pub onward :
      (ss : Statements) (f : Final) → LaysAll (of_statements ss (of_final f)) context.nodes.now from stop →
      (rs : Statements) × LaysAll (of_statements rs (of_final f)) context.nodes.now children.at stop ×
      (walk_statements (env_of context) ss flags.set (live before) ≡ walk_statements (env_of context) rs now.set (live after))

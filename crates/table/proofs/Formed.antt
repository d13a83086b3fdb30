-- A table whose nodes are as listed has a branch whose children are those of their forms, and the other way round. Assumes nothing.
use Rattle.std.proofs.Common.{◌≡◌, ℕ, zero, suc, ◌+◌, ◌*◌, ◌<◌, ◌≤◌, true, false, cond, not, ◌&&◌, eqb, List, length, Some, None, sym, refl, ap, ◌∙◌, subst, inl, inr, arith}
use Rattle.std.proofs.lemmas.Bool.{cases_lt, cases_eq, ne_eqb}
use Rattle.table.specs.declared.kinds.Kind.{Kind}
use Rattle.table.specs.declared.kinds.Class.{Class}
use Rattle.table.specs.declared.kinds.Class.TheVariants as classes
use Rattle.table.specs.declared.kinds.Form.{Form}
use Rattle.table.specs.declared.nodes.Node.{Node}
use Rattle.table.specs.Kinds.{kind_number, kind_at, class_of, class_or, limits_of, within}
use Rattle.table.specs.Forms.{after, complete, form_of}
use Rattle.table.specs.Listed.{node_at, end_at, standing, Children, Listed, AllListed}
use Rattle.table.specs.Listed.Children.{ended, child}
use Rattle.table.specs.Layout.{Branch, Branches, Limited, LimitedAll}
use Rattle.table.specs.Layout.Branch.{branch}
use Rattle.table.specs.Layout.Branches.{nil, cons}
use Rattle.table.specs.Lays.{Lays, LaysAll}
use Rattle.table.proofs.Chains.{class_at, unchain}
use Rattle.table.proofs.Numbered.{kind-back, kind-number}
use Rattle.table.proofs.Placed.{lays-rises, lays-rises-all}

-- the class of a branch
abbrev pub class_of_branch : Branch → Class
class_of_branch (branch k s v p bs) = class_of k

-- the branches are the children of a form
abbrev pub Fit : Form → Branches → Type 0
Fit f nil = complete f ≡ true
Fit f (cons b bs) = (g : Form) × (after f (class_of_branch b) ≡ Some g) × Fit g bs

-- so are those of every node below
abbrev mutual
  pub Formed : Branch → Type 0
  Formed (branch k s v p bs) = Fit (form_of k) bs × FormedAll bs

  pub FormedAll : Branches → Type 0
  FormedAll nil = Unit {0}
  FormedAll (cons b bs) = Formed b × FormedAll bs

-- a branch that the table has from a node on
abbrev Built : List Node → ℕ → Type 0
Built table i = (b : Branch) × Lays b table i × Limited b × Formed b × (class_of_branch b ≡ class_at table i)

abbrev BuiltAll : List Node → Form → ℕ → ℕ → Type 0
BuiltAll table f at stop = (bs : Branches) × LaysAll bs table at stop × LimitedAll bs × FormedAll bs × Fit f bs

chain-rises : {table : List Node} {stop : ℕ} {f : Form} {at : ℕ} → Children table stop f at → at ≤ stop
chain-rises c = elim (unchain c) [ inl e ↦ omega (arith, e.0) | inr s ↦ omega (arith, s.here) ]

module _ (table : List Node) (all : AllListed table) where
  mutual
    -- the nodes left, twice, bound how deep this goes
    build : (n i : ℕ) → i < length table → 2 * length table < n + 2 * i → Built table i
    build zero i h m = absurd (omega arith)
    build (suc n) i h m =
        let l = all i h in
        let bs = build-all n (form_of l.kind) (i + 1) (end_at table i) l.inside (omega arith) l.children in (
          branch l.kind (node_at table i).sub (node_at table i).value (node_at table i).place bs.0,
          (h, kind-number (node_at table i).kind l.kind l.known, refl, refl, refl, bs.1),
          (l.limited, bs.2),
          (bs.4, bs.3),
          sym (ap class_or l.known),
        )

    build-all : (n : ℕ) (f : Form) (at stop : ℕ) → stop ≤ length table → 2 * length table + 1 < n + 2 * at → Children table stop f at → BuiltAll table f at stop
    build-all zero f at stop h m c = absurd (omega (arith, chain-rises c))
    build-all (suc n) f at stop h m c =
        elim (unchain c) [
          | inl e ↦ (nil, e.0, tt, tt, e.1)
          | inr s ↦
              (let b = build n at (omega (arith, s.here)) (omega arith) in
              let bs = build-all n s.rest (end_at table at) stop h (omega (arith, s.rises)) s.others in
              (cons b.0 bs.0, (b.1, bs.1), (b.2, bs.2), (b.3, bs.3), (s.rest, ap (after f) b.4 ∙ s.comes, bs.4)))
        ]

  pub built : 0 < length table → Built table 0
  built h = build (2 * length table + 1) 0 h (omega arith)

-- and the other way round
pub class-of-lays : (b : Branch) (table : List Node) (i : ℕ) → Lays b table i → class_at table i ≡ class_of_branch b
class-of-lays (branch k s v p bs) table i l = ap (λ n. class_or (kind_at n)) l.1 ∙ ap class_or (kind-back k)

pub lays-children : (bs : Branches) (table : List Node) (f : Form) (at stop : ℕ) → LaysAll bs table at stop → Fit f bs → Children table stop f at
lays-children nil table f at stop l e = subst (λ k. Children table stop f k) (sym l) (ended e)
lays-children (cons b bs) table f at stop l e =
    let r = lays-rises b table at l.0 in
    let q = lays-rises-all bs table (end_at table at) stop l.1 in
    child (omega arith) r q (ap (after f) (class-of-lays b table at l.0) ∙ e.1) (lays-children bs table e.0 (end_at table at) stop l.1 e.2)

pub lays-listed : (b : Branch) (table : List Node) (i : ℕ) → Lays b table i → Limited b → Formed b → end_at table i ≤ length table → standing (length table) i (node_at table i) ≡ true → Listed table i
lays-listed (branch k s v p bs) table i l m f h st =
    record {
      kind = k;
      known = ap kind_at l.1 ∙ kind-back k;
      stands = st;
      limited = ap (λ x. within (limits_of k) x (node_at table i).value) l.2 ∙ ap (λ x. within (limits_of k) s x) l.3 ∙ m.0;
      inside = h;
      children = lays-children bs table (form_of k) (i + 1) (end_at table i) l.5 f.0;
    }

-- a program may come nowhere, so no child is of kind 1
never_other : (f : Form) → after f classes.Other ≡ None
never_other f = grind arith

no_program : (f g : Form) (k : Kind) → after f (class_of k) ≡ Some g → eqb (kind_number k) 1 ≡ false
no_program f g k e = grind (arith, never_other)

stands-below : (table : List Node) (i : ℕ) → 0 < i → eqb (node_at table i).kind 1 ≡ false → standing (length table) i (node_at table i) ≡ true
stands-below table i h e =
    ap (λ b. cond b (eqb (node_at table i).kind 1 && eqb (node_at table i).end (length table)) (not (eqb (node_at table i).kind 1))) (ne_eqb i 0 (λ q. omega arith)) ∙ ap not e

child-stands : (b : Branch) (f g : Form) (table : List Node) (i : ℕ) → Lays b table i → after f (class_of_branch b) ≡ Some g → 0 < i → standing (length table) i (node_at table i) ≡ true
child-stands (branch k s v p bs) f g table i l e h = stands-below table i h (ap (λ n. eqb n 1) l.1 ∙ no_program f g k e)

mutual
  -- every node of a branch but the first
  pub below-listed : (b : Branch) (table : List Node) (i : ℕ) → Lays b table i → Limited b → Formed b → end_at table i ≤ length table → (j : ℕ) → i < j → j < end_at table i → Listed table j
  below-listed (branch k s v p bs) table i l m f h j a z =
      all_listed bs table (form_of k) (i + 1) (end_at table i) l.5 m.1 f.1 f.0 (omega arith) h j (omega arith) z

  -- every node of branches that are children
  all_listed : (bs : Branches) (table : List Node) (f : Form) (at stop : ℕ) → LaysAll bs table at stop → LimitedAll bs → FormedAll bs → Fit f bs → 0 < at → stop ≤ length table → (j : ℕ) → at ≤ j → j < stop → Listed table j
  all_listed nil table f at stop l m g e o h j a z = absurd (omega arith)
  all_listed (cons b bs) table f at stop l m g e o h j a z =
      let q = lays-rises-all bs table (end_at table at) stop l.1 in
      let r = lays-rises b table at l.0 in
      elim (cases_lt j (end_at table at)) [
        | inl y ↦
            elim (cases_eq j at) [
              | inl s ↦ subst (Listed table) (sym s) (lays-listed b table at l.0 m.0 g.0 (omega arith) (child-stands b f e.0 table at l.0 e.1 o))
              | inr n ↦ below-listed b table at l.0 m.0 g.0 (omega arith) j (omega arith) y
            ]
        | inr y ↦ all_listed bs table e.0 (end_at table at) stop l.1 m.1 g.1 e.2 (omega arith) h j y z
      ]

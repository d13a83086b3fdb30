-- The theorems on tables and trees. Assumes nothing.
use Rattle.std.proofs.Common.{◌≡◌, ℕ, ◌+◌, ◌<◌, true, eqb, List, [], ◌++◌, length, Ok, Err, sym, refl, ap, ◌∙◌, subst, inl, inr, append-nil, arith, length-append}
use Rattle.std.proofs.lemmas.List.{drop_all}
use Rattle.std.proofs.lemmas.Bool.{and_parts, and_from, eqb-true, eq-eqb, cases_eq, cases_order}
use Rattle.language.specs.declared.faults.Fault.{Fault}
use Rattle.table.specs.declared.kinds.Kind.TheVariants as kinds
use Rattle.table.specs.declared.kinds.Class.TheVariants as classes
use Rattle.table.specs.declared.nodes.Node.{Node}
use Rattle.table.specs.Kinds.{kind_at, kind_number, class_or}
use Rattle.table.specs.Tree.{Program}
use Rattle.table.specs.Tree.Program.{single, whole}
use Rattle.table.specs.Layout.{Branch, Branches, Limited, end_of, end_of_all, records, records_of_all, of_program, layout, LaidOut}
use Rattle.table.specs.Layout.Branch.{branch}
use Rattle.table.specs.Layout.Branches.{nil, cons}
use Rattle.table.specs.Listed.{node_at, end_at, standing, Listed, AllListed, Lowest}
use Rattle.table.specs.Lays.{Lays}
use Rattle.table.specs.Answers.{Sized, fault, Refused}
use Rattle.table.specs.Answers.Refused.{length-is-none, node-is-bad}
use Rattle.table.specs.Theorems.{ListedJustWhenLaidOut, OneTree, RefusedAtLowest, OneAnswer}
use Rattle.table.proofs.Placed.{lays-end, lays-records, records-lays, lays-unique}
use Rattle.table.proofs.Formed.{class_of_branch, built, lays-listed, below-listed}
use Rattle.table.proofs.Typed.{Is, typed}
use Rattle.table.proofs.Kept.{formed-program}
use Rattle.table.proofs.Views.{kind_of}
use Rattle.table.proofs.Unique.{one-program}

-- a branch has as many records as lie between its numbers
mutual
  length-records : (b : Branch) (i : ℕ) → length (records i b) + i ≡ end_of i b
  length-records (branch k s v p bs) i = omega (arith, length-records-all bs (i + 1))

  length-records-all : (bs : Branches) (i : ℕ) → length (records_of_all i bs) + i ≡ end_of_all i bs
  length-records-all nil i = omega arith
  length-records-all (cons b bs) i =
      omega (arith, length-append (records i b) (records_of_all (end_of i b) bs), length-records b i, length-records-all bs (end_of i b))

-- the table of a program has the program's branch at node 0
pub layout-lays : (t : Program) (table : List Node) → layout t ≡ table → Lays (of_program t) table 0
layout-lays t table e = (records-lays (of_program t) table 0 [] (sym e ∙ sym (append-nil (records 0 (of_program t))))).0

-- and node 0 ends with the table
pub layout-end : (t : Program) (table : List Node) → layout t ≡ table → end_at table 0 ≡ length table
layout-end t table e =
    lays-end (of_program t) table 0 (layout-lays t table e) ∙ (omega (arith, length-records (of_program t) 0, ap length e))

program-kind : (t : Program) → kind_of (of_program t) ≡ kinds.Program
program-kind (single p e) = refl
program-kind (whole p d ds ss f) = refl

kind-number : (b : Branch) (table : List Node) (i : ℕ) → Lays b table i → (node_at table i).kind ≡ kind_number (kind_of b)
kind-number (branch k s v p bs) table i l = l.1

pub laid-out-listed : (table : List Node) → LaidOut table → AllListed table
laid-out-listed table (t, m, e) i h =
    let l = layout-lays t table e in
    let f = formed-program t in
    let z = layout-end t table e in
    let k : (node_at table 0).kind ≡ 1 = kind-number (of_program t) table 0 l ∙ ap kind_number (program-kind t) in
    let st : standing (length table) 0 (node_at table 0) ≡ true = and_from _ _ (eq-eqb (node_at table 0).kind 1 k) (eq-eqb (end_at table 0) (length table) z) in
    elim (cases_eq i 0) [
      | inl q ↦ subst (Listed table) (sym q) (lays-listed (of_program t) table 0 l m f (omega arith) st)
      | inr n ↦ below-listed (of_program t) table 0 l m f (omega arith) i (omega arith) (omega arith)
    ]

-- a branch that the table has from node 0 to its end is the table
all-records : (b : Branch) (table : List Node) → Lays b table 0 → end_at table 0 ≡ length table → records 0 b ≡ table
all-records b table l z =
    sym (append-nil (records 0 b)) ∙ sym (ap (λ r. records 0 b ++ r) (drop_all (end_at table 0) table (omega arith))) ∙ sym (lays-records b table 0 l)

pub listed-laid-out : (table : List Node) → 0 < length table → AllListed table → LaidOut table
listed-laid-out table h all =
    let b = built table all h in
    let st = and_parts (eqb (node_at table 0).kind 1) (eqb (end_at table 0) (length table)) (all 0 h).stands in
    let k : (node_at table 0).kind ≡ 1 = eqb-true (node_at table 0).kind 1 st.0 in
    let z : end_at table 0 ≡ length table = eqb-true (end_at table 0) (length table) st.1 in
    let c : class_of_branch b.0 ≡ classes.Other = b.4 ∙ ap (λ n. class_or (kind_at n)) k in
    let t : Is classes.Other b.0 = subst (λ d. Is d b.0) c (typed b.0 b.2 b.3) in
    (t.0, subst Limited (sym t.1) b.2, ap (records 0) t.1 ∙ all-records b.0 table b.1 z)

pub listed-just-when-laid-out : ListedJustWhenLaidOut
listed-just-when-laid-out table h = (listed-laid-out table h, laid-out-listed table)

pub one-tree : OneTree
one-tree t u e =
    one-program t u (lays-unique (of_program t) (of_program u) (layout u) 0 (layout-lays t (layout u) e) (layout-lays u (layout u) refl))

-- one node at most is the lowest that is not as listed
pub one-lowest : (table : List Node) (i j : ℕ) → Lowest table i → Lowest table j → i ≡ j
one-lowest table i j a b =
    elim (cases_order i j) [
      | inl e ↦ e
      | inr o ↦ elim o [ inl h ↦ absurd (a.bad (b.below i h)) | inr h ↦ absurd (b.bad (a.below j h)) ]
    ]

refused-lowest : (table : List Node) (f : Fault) → Sized table → Refused table f → (i : ℕ) × Lowest table i × (f ≡ fault (node_at table i).place)
refused-lowest table f s (length-is-none n) = absurd (n s)
refused-lowest table f s (node-is-bad i z l) = (i, l, refl)

pub refused-at-lowest : RefusedAtLowest
refused-at-lowest table f s = (refused-lowest table f s, λ r. subst (Refused table) (sym r.2) (node-is-bad r.0 s r.1))

-- what is laid out is not refused
not-both : (table : List Node) (f : Fault) → Sized table × LaidOut table → Refused table f → ⊥
not-both table f a r =
    let l = refused-lowest table f a.0 r in
    l.1.bad (laid-out-listed table a.1 l.0 l.1.there)

one-refusal : (table : List Node) (f g : Fault) → Refused table f → Refused table g → f ≡ g
one-refusal table f g (length-is-none n) (length-is-none m) = refl
one-refusal table f g (length-is-none n) (node-is-bad j z l) = absurd (n z)
one-refusal table f g (node-is-bad i y k) (length-is-none m) = absurd (m y)
one-refusal table f g (node-is-bad i y k) (node-is-bad j z l) = ap (λ n. fault (node_at table n).place) (one-lowest table i j k l)

pub one_answer : OneAnswer
one_answer table (Ok x) (Ok y) a b = refl
one_answer table (Ok x) (Err g) a b = absurd (not-both table g a b)
one_answer table (Err f) (Ok y) a b = absurd (not-both table f b a)
one_answer table (Err f) (Err g) a b = ap Err (one-refusal table f g a b)

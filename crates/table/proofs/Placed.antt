-- A table has a branch, read node by node, just where its records are a part of the list; and it has no other there. Assumes nothing.
use Rattle.std.proofs.Common.{◌≡◌, ℕ, ◌+◌, ◌<◌, ◌≤◌, List, [], ◌∷◌, ◌++◌, length, drop, sym, refl, ap, ◌∙◌, subst, inl, inr, append_assoc, arith}
use Rattle.std.proofs.lemmas.List.{drop_more, drop_all}
use Rattle.std.proofs.lemmas.Bool.{cases_lt}
use Rattle.table.specs.declared.nodes.Node.{Node}
use Rattle.table.specs.Kinds.{kind_number}
use Rattle.table.specs.Listed.{node_at, end_at, blank}
use Rattle.table.specs.Layout.{Branch, Branches, end_of, end_of_all, records, records_of_all}
use Rattle.table.specs.Layout.Branch.{branch}
use Rattle.table.specs.Layout.Branches.{nil, cons}
use Rattle.table.specs.Lays.{Lays, LaysAll}
use Rattle.table.proofs.Numbered.{kind-same}

-- a branch stands at a node of the table
pub lays-here : (b : Branch) (table : List Node) (i : ℕ) → Lays b table i → i < length table
lays-here (branch k s v p bs) table i l = l.0

-- a branch ends where the table says
mutual
  pub lays-end : (b : Branch) (table : List Node) (i : ℕ) → Lays b table i → end_at table i ≡ end_of i b
  lays-end (branch k s v p bs) table i l = lays-end-all bs table (i + 1) (end_at table i) l.5

  pub lays-end-all : (bs : Branches) (table : List Node) (at stop : ℕ) → LaysAll bs table at stop → stop ≡ end_of_all at bs
  lays-end-all nil table at stop l = sym l
  lays-end-all (cons b bs) table at stop l =
      lays-end-all bs table (end_at table at) stop l.1 ∙ ap (λ e. end_of_all e bs) (lays-end b table at l.0)

-- it ends further on
mutual
  pub lays-rises : (b : Branch) (table : List Node) (i : ℕ) → Lays b table i → i < end_at table i
  lays-rises (branch k s v p bs) table i l = omega (arith, lays-rises-all bs table (i + 1) (end_at table i) l.5)

  pub lays-rises-all : (bs : Branches) (table : List Node) (at stop : ℕ) → LaysAll bs table at stop → at ≤ stop
  lays-rises-all nil table at stop l = omega arith
  lays-rises-all (cons b bs) table at stop l =
      omega (arith, lays-rises b table at l.0, lays-rises-all bs table (end_at table at) stop l.1)

-- and not past the end of the table
mutual
  pub lays-inside : (b : Branch) (table : List Node) (i : ℕ) → Lays b table i → end_at table i ≤ length table
  lays-inside (branch k s v p bs) table i l = lays-inside-all bs table (i + 1) (end_at table i) l.5 (omega arith)

  pub lays-inside-all : (bs : Branches) (table : List Node) (at stop : ℕ) → LaysAll bs table at stop → at ≤ length table → stop ≤ length table
  lays-inside-all nil table at stop l h = omega arith
  lays-inside-all (cons b bs) table at stop l h = lays-inside-all bs table (end_at table at) stop l.1 (lays-inside b table at l.0)

-- a record is its five numbers
same-node : (n m : Node) → n.kind ≡ m.kind → n.sub ≡ m.sub → n.value ≡ m.value → n.end ≡ m.end → n.place ≡ m.place → n ≡ m
same-node n m a b c d e i = record { kind = a i; sub = b i; value = c i; end = d i; place = e i }

-- the records of a branch that the table has stand in the list
mutual
  pub lays-records : (b : Branch) (table : List Node) (i : ℕ) → Lays b table i → drop i table ≡ records i b ++ drop (end_at table i) table
  lays-records (branch k s v p bs) table i l =
      drop_more table i blank l.0 ∙
      (λ j. same-node (node_at table i) (record { kind = kind_number k; sub = s; value = v; end = end_of_all (i + 1) bs; place = p }) l.1 l.2 l.3 (lays-end-all bs table (i + 1) (end_at table i) l.5) l.4 j
      ∷ lays-records-all bs table (i + 1) (end_at table i) l.5 j)

  pub lays-records-all : (bs : Branches) (table : List Node) (at stop : ℕ) → LaysAll bs table at stop → drop at table ≡ records_of_all at bs ++ drop stop table
  lays-records-all nil table at stop l = ap (λ k. drop k table) l
  lays-records-all (cons b bs) table at stop l =
      lays-records b table at l.0 ∙
      ap (λ r. records at b ++ r) (lays-records-all bs table (end_at table at) stop l.1) ∙
      ap (λ e. records at b ++ (records_of_all e bs ++ drop stop table)) (lays-end b table at l.0) ∙
      sym (append_assoc (records at b) (records_of_all (end_of at b) bs) (drop stop table))

-- what the front of a part of the list says of the table
nil-cons : {X : Type 0} {x : X} {xs ys : List X} → xs ≡ [] → xs ≡ x ∷ ys → ⊥
nil-cons p q = let z : ◌≡◌ {A = ℕ} 0 1 = cc in omega arith

cons-first : {X : Type 0} {x y : X} {xs ys zs : List X} → zs ≡ x ∷ xs → zs ≡ y ∷ ys → x ≡ y
cons-first p q = cc

cons-rest : {X : Type 0} {x y : X} {xs ys zs : List X} → zs ≡ x ∷ xs → zs ≡ y ∷ ys → xs ≡ ys
cons-rest p q = cc

at_front : (table : List Node) (i : ℕ) (n : Node) (ns : List Node) → drop i table ≡ n ∷ ns → (i < length table) × (node_at table i ≡ n) × (drop (i + 1) table ≡ ns)
at_front table i n ns e =
    elim (cases_lt i (length table)) [
      | inl h ↦ (h, cons-first (drop_more table i blank h) e, cons-rest (drop_more table i blank h) e)
      | inr h ↦ absurd (nil-cons (drop_all i table h) e)
    ]

-- records that stand in the list are those of a branch that the table has
mutual
  pub records-lays : (b : Branch) (table : List Node) (i : ℕ) (others : List Node) → drop i table ≡ records i b ++ others → Lays b table i × (drop (end_of i b) table ≡ others)
  records-lays (branch k s v p bs) table i others e =
      let f = at_front table i _ (records_of_all (i + 1) bs ++ others) e in
      let g = records-lays-all bs table (i + 1) others f.2 in (
        (
          f.0,
          ap (λ n. n.kind) f.1,
          ap (λ n. n.sub) f.1,
          ap (λ n. n.value) f.1,
          ap (λ n. n.place) f.1,
          subst (λ stop. LaysAll bs table (i + 1) stop) (sym (ap (λ n. n.end) f.1)) g.0,
        ),
        g.1,
      )

  pub records-lays-all : (bs : Branches) (table : List Node) (at : ℕ) (others : List Node) → drop at table ≡ records_of_all at bs ++ others → LaysAll bs table at (end_of_all at bs) × (drop (end_of_all at bs) table ≡ others)
  records-lays-all nil table at others e = (refl, e)
  records-lays-all (cons b bs) table at others e =
      let f = records-lays b table at (records_of_all (end_of at b) bs ++ others) (e ∙ append_assoc (records at b) (records_of_all (end_of at b) bs) others) in
      let g = records-lays-all bs table (end_of at b) others f.1 in
      ((f.0, subst (λ k. LaysAll bs table k (end_of_all (end_of at b) bs)) (sym (lays-end b table at f.0)) g.0), g.1)

-- a table has one branch at a node
mutual
  pub lays-unique : (b c : Branch) (table : List Node) (i : ℕ) → Lays b table i → Lays c table i → b ≡ c
  lays-unique (branch k s v p bs) (branch k' s' v' p' cs) table i l m =
      let ek : k ≡ k' = kind-same k k' (sym l.1 ∙ m.1) in
      let es : s ≡ s' = sym l.2 ∙ m.2 in
      let ev : v ≡ v' = sym l.3 ∙ m.3 in
      let ep : p ≡ p' = sym l.4 ∙ m.4 in
      let eb : bs ≡ cs = lays-unique-all bs cs table (i + 1) (end_at table i) l.5 m.5 in
      λ j. branch (ek j) (es j) (ev j) (ep j) (eb j)

  pub lays-unique-all : (bs cs : Branches) (table : List Node) (at stop : ℕ) → LaysAll bs table at stop → LaysAll cs table at stop → bs ≡ cs
  lays-unique-all nil nil table at stop l m = refl
  lays-unique-all nil (cons c cs) table at stop l m =
      absurd (omega (arith, lays-rises c table at m.0, lays-rises-all cs table (end_at table at) stop m.1))
  lays-unique-all (cons b bs) nil table at stop l m =
      absurd (omega (arith, lays-rises b table at l.0, lays-rises-all bs table (end_at table at) stop l.1))
  lays-unique-all (cons b bs) (cons c cs) table at stop l m =
      let eb : b ≡ c = lays-unique b c table at l.0 m.0 in
      let es : bs ≡ cs = lays-unique-all bs cs table (end_at table at) stop l.1 m.1 in
      λ j. cons (eb j) (es j)

-- The sample tables are laid out by their trees, by computation. Assumes nothing.
use Rattle.std.proofs.Common.{◌≡◌, Bool, true, ◌&&◌, List, [], ◌∷◌, map, refl}
use Rattle.std.proofs.lemmas.Bool.{and_parts}
use Rattle.table.specs.declared.nodes.Node.{Node}
use Rattle.table.specs.Kinds.{limits_of, within}
use Rattle.table.specs.Tree.{Program}
use Rattle.table.specs.Layout.{Branch, Branches, Limited, LimitedAll, of_program, layout}
use Rattle.table.specs.Layout.Branch.{branch}
use Rattle.table.specs.Layout.Branches.{nil, cons}
use Rattle.table.specs.Samples.{samples, AllLaidOut, SamplesLaidOut}

-- whether all records of a branch keep to their limits
abbrev mutual
  limited : Branch → Bool
  limited (branch k s v p bs) = within (limits_of k) s v && limited-all bs

  limited-all : Branches → Bool
  limited-all nil = true
  limited-all (cons b bs) = limited b && limited-all bs

mutual
  is-limited : (b : Branch) → limited b ≡ true → Limited b
  is-limited (branch k s v p bs) e =
      let a = and_parts (within (limits_of k) s v) (limited-all bs) e in
      (a.0, is-limited-all bs a.1)

  is-limited-all : (bs : Branches) → limited-all bs ≡ true → LimitedAll bs
  is-limited-all nil e = tt
  is-limited-all (cons b bs) e =
      let a = and_parts (limited b) (limited-all bs) e in
      (is-limited b a.0, is-limited-all bs a.1)

abbrev all-limited : List (Program × List Node) → Bool
all-limited [] = true
all-limited (s ∷ ss) = limited (of_program s.0) && all-limited ss

same_first : {x y : List Node} {xs ys : List (List Node)} → x ∷ xs ≡ y ∷ ys → x ≡ y
same_first h = cc

same-others : {x y : List Node} {xs ys : List (List Node)} → x ∷ xs ≡ y ∷ ys → xs ≡ ys
same-others h = cc

-- a list of trees with their tables, by two computations
computed : (ss : List (Program × List Node)) → all-limited ss ≡ true → map (λ s. layout s.0) ss ≡ map (λ s. s.1) ss → AllLaidOut ss
computed [] l e = tt
computed (s ∷ ss) l e =
    let a = and_parts (limited (of_program s.0)) (all-limited ss) l in
    (is-limited (of_program s.0) a.0, same_first e, computed ss a.1 (same-others e))

pub samples-laid-out : SamplesLaidOut
samples-laid-out = computed samples refl refl

-- Names in open scopes as they were entered, one after another: the walk's list and level, and lookup in it. Assumes nothing.
use Rattle.std.proofs.Common.{◌≡◌, ℕ, ◌+◌, ◌<◌, ◌≤◌, Bool, cond, eqb, List, [], ◌∷◌, ◌++◌, length, Some, Option, refl, ap, ◌∙◌, add-one, arith}
use Rattle.std.proofs.lemmas.List.{length_push, get_or_push, get_or_append_left}
use Rattle.walk.specs.Scopes.{Thing, Named, named, nobody, hosts, Env, newest, entry, lookup}
use Rattle.walk.specs.Programs.{Scope}
use Rattle.walk.proofs.Found.{newest-same}

-- the host's names, with the program's scope around nothing yet; a scope that opened; a name that entered the innermost scope
pub data Pile : Type 0 where
  base : Pile
  opened : Pile → Pile
  with : (name : ℕ) → Thing → Pile → Pile

-- the level of the innermost scope
abbrev pub level : Pile → ℕ
level base = 0
level (opened pile) = level pile + 1
level (with x th pile) = level pile

-- all names, the newest last
abbrev pub names : Pile → List Named
names base = hosts
names (opened pile) = names pile
names (with x th pile) = names pile ++ named x (level pile) th ∷ []

abbrev pub size : Pile → ℕ
size pile = length (names pile)

-- the index of the innermost scope's first name
abbrev pub floor : Pile → ℕ
floor base = 3
floor (opened pile) = size pile
floor (with x th pile) = floor pile

-- the walk's environment
abbrev pub env : Pile → Env
env pile = record { names = names pile; level = level pile }

-- and its scope, with so many slots and what is set
abbrev pub scope : Pile → ℕ → List Bool → Scope
scope pile slots flags = record { env = env pile; floor = floor pile; slots = slots; flags = flags }

pub size-with : (x : ℕ) (th : Thing) (pile : Pile) → size (with x th pile) ≡ size pile + 1
size-with x th pile = length_push (names pile) (named x (level pile) th)

pub size-hosts : (pile : Pile) → 3 ≤ size pile
size-hosts base = omega arith
size-hosts (opened pile) = size-hosts pile
size-hosts (with x th pile) = omega (arith, size-hosts pile, size-with x th pile)

pub floor-size : (pile : Pile) → floor pile ≤ size pile
floor-size base = omega arith
floor-size (opened pile) = omega arith
floor-size (with x th pile) = omega (arith, floor-size pile, size-with x th pile)

-- lookup in the pile
abbrev pub seek : Pile → ℕ → Option ℕ
seek base x = lookup (env base) x
seek (opened pile) x = seek pile x
seek (with y th pile) x = cond (eqb y x) (Some (size pile)) (seek pile x)

-- an older name keeps its place
pub entry-older : (x : ℕ) (th : Thing) (pile : Pile) (k : ℕ) → k < size pile → entry (env (with x th pile)) k ≡ entry (env pile) k
entry-older x th pile k h = get_or_append_left (names pile) (named x (level pile) th ∷ []) nobody k h

-- and the newest is the last
pub entry-newest : (x : ℕ) (th : Thing) (pile : Pile) → entry (env (with x th pile)) (size pile) ≡ named x (level pile) th
entry-newest x th pile = get_or_push (names pile) (named x (level pile) th) nobody (size pile) refl

pub lookup-seek : (pile : Pile) (x : ℕ) → lookup (env pile) x ≡ seek pile x
lookup-seek base x = refl
lookup-seek (opened pile) x = lookup-seek pile x
lookup-seek (with y th pile) x =
    ap (λ n. newest (λ k. (entry (env (with y th pile)) k).name) n x) (size-with y th pile ∙ add-one (size pile)) ∙
    ap (λ n. cond (eqb n.name x) (Some (size pile)) (newest (λ k. (entry (env (with y th pile)) k).name) (size pile) x)) (entry-newest y th pile) ∙
    ap (λ r. cond (eqb y x) (Some (size pile)) r) (newest-same (λ k. (entry (env (with y th pile)) k).name) (λ k. (entry (env pile) k).name) (size pile) x (λ k h. ap (λ n. n.name) (entry-older y th pile k h)) ∙ lookup-seek pile x)

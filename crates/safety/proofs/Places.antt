-- What stands at a place of a list, and segments of a list. Assumes nothing.
use Rattle.std.proofs.Common.{ℕ, suc, ◌+◌, ◌<◌, List, [], ◌∷◌, ◌++◌, length, sym, subst, add-zero, arith}

-- an element stands at a place
pub data At {A : Type 0} : List A → ℕ → A → Type 0 where
  here : {x : A} {xs : List A} → At (x ∷ xs) 0 x
  there : {x y : A} {xs : List A} {k : ℕ} → At xs k x → At (y ∷ xs) (suc k) x

pub at-below : {A : Type 0} {xs : List A} {k : ℕ} {x : A} → At xs k x → k < length xs
at-below here = omega arith
at-below (there a) = let h = at-below a in omega arith

-- a list stands as a segment from a place on
abbrev pub Segment : {A : Type 0} → List A → ℕ → List A → Type 0
Segment l k [] = Unit {0}
Segment l k (x ∷ xs) = At l k x × Segment l (k + 1) xs

segment-suc : {A : Type 0} (l : List A) (y : A) (k : ℕ) (xs : List A) → Segment l k xs → Segment (y ∷ l) (suc k) xs
segment-suc l y k [] s = tt
segment-suc l y k (x ∷ xs) s = (there s.0, subst (λ i. Segment (y ∷ l) i xs) (omega arith) (segment-suc l y (k + 1) xs s.1))

-- a list is a segment of itself
pub segment-all : {A : Type 0} (l : List A) → Segment l 0 l
segment-all [] = tt
segment-all (x ∷ xs) = (here, segment-suc xs x 0 xs (segment-all xs))

-- both parts of a segment are segments
pub segment-left : {A : Type 0} (l : List A) (k : ℕ) (xs ys : List A) → Segment l k (xs ++ ys) → Segment l k xs
segment-left l k [] ys s = tt
segment-left l k (x ∷ xs) ys s = (s.0, segment-left l (k + 1) xs ys s.1)

pub segment-right : {A : Type 0} (l : List A) (k : ℕ) (xs ys : List A) → Segment l k (xs ++ ys) → Segment l (k + length xs) ys
segment-right l k [] ys s = subst (λ i. Segment l i ys) (sym (add-zero k)) s
segment-right l k (x ∷ xs) ys s = subst (λ i. Segment l i ys) (omega arith) (segment-right l (k + 1) xs ys s.1)

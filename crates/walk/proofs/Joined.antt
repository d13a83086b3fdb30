-- Those that both have set, flag by flag. Assumes nothing.
use Rattle.std.proofs.Common.{◌≡◌, ℕ, zero, suc, ◌<◌, Bool, false, ◌&&◌, List, [], ◌∷◌, length, get_or, refl, ap, arith}
use Rattle.walk.specs.Sets.{both}

pub both-length : (xs ys : List Bool) → length xs ≡ length ys → length (both xs ys) ≡ length xs
unfolding both
both-length [] ys e = refl
both-length (x ∷ xs) [] e = absurd (omega arith)
both-length (x ∷ xs) (y ∷ ys) e = ap suc (both-length xs ys (omega arith))

pub both_at : (xs ys : List Bool) (k : ℕ) → length xs ≡ length ys → k < length xs → get_or (both xs ys) k false ≡ (get_or xs k false && get_or ys k false)
unfolding both
both_at [] ys k e h = absurd (omega arith)
both_at (x ∷ xs) [] k e h = absurd (omega arith)
both_at (x ∷ xs) (y ∷ ys) zero e h = refl
both_at (x ∷ xs) (y ∷ ys) (suc k) e h = both_at xs ys k (omega arith) (omega arith)

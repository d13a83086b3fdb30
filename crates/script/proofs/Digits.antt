-- Digits read one after another. Assumes nothing.
use Rattle.std.proofs.Common.{◌≡◌, ℕ, ◌+◌, ◌<◌, ◌≤◌, List, length, get_or, drop, Ok, Err, sym, refl, ap, ◌∙◌, add-one, drop_of_length-le, drop-cons}
use Rattle.script.specs.declared.problem.Problem.{Problem}
use Rattle.script.specs.Numbers.{and_then, one_more, read_on}

-- all bytes read
pub ended : (n : ℕ) (bs : List ℕ) (i : ℕ) → length bs ≤ i → read_on n (drop i bs) ≡ Ok n
unfolding read_on
ended n bs i h = ap (read_on n) (drop_of_length-le bs h)

-- the byte at i is read next
pub next : (n : ℕ) (bs : List ℕ) (i : ℕ) → i < length bs → read_on n (drop i bs) ≡ and_then (one_more n (get_or bs i 0)) (λ m. read_on m (drop (i + 1) bs))
unfolding read_on
next n bs i h = ap (read_on n) (drop-cons bs i 0 h) ∙ rw add-one refl

pub goes : (n m : ℕ) (bs : List ℕ) (i : ℕ) → i < length bs → Ok m ≡ one_more n (get_or bs i 0) → read_on n (drop i bs) ≡ read_on m (drop (i + 1) bs)
goes n m bs i h e = next n bs i h ∙ ap (λ r. and_then r (λ k. read_on k (drop (i + 1) bs))) (sym e)

pub breaks : (n : ℕ) (p : Problem) (bs : List ℕ) (i : ℕ) → i < length bs → Err p ≡ one_more n (get_or bs i 0) → read_on n (drop i bs) ≡ Err p
breaks n p bs i h e = next n bs i h ∙ ap (λ r. and_then r (λ k. read_on k (drop (i + 1) bs))) (sym e)

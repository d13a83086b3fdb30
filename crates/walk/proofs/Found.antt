-- The newest name, one entry after another. Assumes nothing.
use Rattle.std.proofs.Common.{◌≡◌, ℕ, zero, suc, ◌<◌, cond, eqb, None, Some, Option, refl, sym, ap, ◌∙◌, inl, inr, arith}
use Rattle.std.proofs.Math.Nat.{eq-or-lt_of_le}
use Rattle.std.proofs.lemmas.Bool.{eq-eqb, ne_eqb}
use Rattle.walk.specs.Scopes.{newest}

-- none has the name
pub newest-none : (f : ℕ → ℕ) (n x : ℕ) → ((j : ℕ) → j < n → f j ≡ x → ⊥) → newest f n x ≡ None
newest-none f zero x h = refl
newest-none f (suc n) x h =
    ap (λ b. cond b (Some n) (newest f n x)) (ne_eqb (f n) x (h n (omega arith))) ∙
    newest-none f n x (λ j l e. h j (omega arith) e)

-- one has it, and none after that
pub newest-some : (f : ℕ → ℕ) (n x k : ℕ) → k < n → f k ≡ x → ((j : ℕ) → k < j → j < n → f j ≡ x → ⊥) → newest f n x ≡ Some k
newest-some f zero x k l e h = absurd (omega arith)
newest-some f (suc n) x k l e h =
    elim (eq-or-lt_of_le {n = k} {m = n} (omega arith)) as (λ _. newest f (suc n) x ≡ Some k) [
      | inl q ↦
          ap (λ b. cond b (Some n) (newest f n x)) (eq-eqb (f n) x (ap f (sym q) ∙ e)) ∙ ap Some (sym q)
      | inr b ↦
          ap (λ b. cond b (Some n) (newest f n x)) (ne_eqb (f n) x (h n b (omega arith))) ∙
          newest-some f n x k b e (λ j a m q. h j a (omega arith) q)
    ]

-- what a search from the back has found
pub newest_is : (f : ℕ → ℕ) (n x : ℕ) (r : Option ℕ) →
    (r ≡ None → (j : ℕ) → j < n → f j ≡ x → ⊥) →
    ((k : ℕ) → r ≡ Some k → (k < n) × (f k ≡ x) × ((j : ℕ) → k < j → j < n → f j ≡ x → ⊥)) →
    r ≡ newest f n x
newest_is f n x None a b = sym (newest-none f n x (a refl))
newest_is f n x (Some k) a b =
    let h = b k refl in sym (newest-some f n x k h.0 h.1 h.2)

-- names that are the same below a number
pub newest-same : (f g : ℕ → ℕ) (k x : ℕ) → ((j : ℕ) → j < k → f j ≡ g j) → newest f k x ≡ newest g k x
newest-same f g zero x same = refl
newest-same f g (suc k) x same =
    ap (λ n. cond (eqb n x) (Some k) (newest f k x)) (same k (omega arith)) ∙
    ap (λ r. cond (eqb (g k) x) (Some k) r) (newest-same f g k x (λ j h. same j (omega arith)))

-- A stack laid under what lies above it: reads, writes, lengths. Assumes nothing.
use Rattle.std.proofs.Common.{◌≡◌, ℕ, zero, suc, ◌+◌, ◌<◌, ◌≤◌, eqb, List, [], ◌∷◌, ◌++◌, reverse, length, get_or, drop, set, replicate, sym, refl, ap, ◌∙◌, arith, length-append, drop-cons, drop_at}
use mathlib.Core.List.{reverse_aux, reverse_aux-eq}
use lib.ListN.{length-replicate, length-reverse}
use lib.Seq.{get_or_at, set_at}
use Rattle.std.proofs.lemmas.Bool.{eqb-true, eqb-false, cond_both}
use Rattle.machine.specs.declared.cells.Cell.{Cell}
use Rattle.machine.specs.declared.cells.Cell.TheVariants.{Unset}
use Rattle.machine.specs.State.{cleared}
use Rattle.stack.specs.Stack.{cell_at, put_at}
use Rattle.stack.specs.Law.{over}

-- how many cells there are
pub length_over : (s j : List Cell) → length (over s j) ≡ length s + length j
length_over [] j = omega arith
length_over (c ∷ s) j = let e = length_over s (c ∷ j) in omega arith

-- the stack from the bottom up, then what lies above it
over-aux : (s j : List Cell) → over s j ≡ reverse_aux s j
over-aux [] j = refl
over-aux (c ∷ s) j = over-aux s (c ∷ j)

pub over-is : (s j : List Cell) → over s j ≡ reverse s ++ j
over-is s j = over-aux s j ∙ reverse_aux-eq s j

-- what lies above the top
pub drop-over : (s j : List Cell) → drop (length s) (over s j) ≡ j
drop-over s j = ap (drop (length s)) (over-is s j) ∙ drop_at (reverse s) j (length s) (length-reverse s)

-- the first cell above the top, read and written
pub read-top : (s : List Cell) (c : Cell) (j : List Cell) → get_or (over s (c ∷ j)) (length s) Unset ≡ c
read-top s c j =
    ap (λ l. get_or l (length s) Unset) (over-is s (c ∷ j)) ∙ get_or_at (reverse s) c j Unset (length s) (length-reverse s)

pub set-top : (s : List Cell) (k : ℕ) (c v : Cell) (j : List Cell) → length s ≡ k → set (over s (c ∷ j)) k v ≡ over s (v ∷ j)
set-top s k c v j e =
    ap (λ l. set l k v) (over-is s (c ∷ j)) ∙ set_at (reverse s) c j v k (length-reverse s ∙ e) ∙ sym (over-is s (v ∷ j))

-- below, and not the one just below
lower : (k n : ℕ) → (k ≡ n → ⊥) → k < suc n → k < n
lower k n d h = omega arith

-- a cell below the top, read and written
pub read_below : (s j : List Cell) (k : ℕ) → k < length s → get_or (over s j) k Unset ≡ cell_at s k
read_below [] j k h = absurd (omega arith)
read_below (c ∷ s) j k h =
    cond_both (eqb k (length s)) c (cell_at s k) (λ x. get_or (over s (c ∷ j)) k Unset ≡ x)
    (λ e. ap (λ n. get_or (over s (c ∷ j)) n Unset) (eqb-true k (length s) e) ∙ read-top s c j)
    (λ e. read_below s (c ∷ j) k (lower k (length s) (eqb-false k (length s) e) h))

pub set_below : (s j : List Cell) (k : ℕ) (v : Cell) → k < length s → set (over s j) k v ≡ over (put_at s k v) j
set_below [] j k v h = absurd (omega arith)
set_below (c ∷ s) j k v h =
    cond_both (eqb k (length s)) (v ∷ s) (c ∷ put_at s k v) (λ x. set (over s (c ∷ j)) k v ≡ over x j)
    (λ e. set-top s k c v j (sym (eqb-true k (length s) e)))
    (λ e. set_below s (c ∷ j) k v (lower k (length s) (eqb-false k (length s) e) h))

-- a write leaves the number of cells as it was
pub length-put_at : (s : List Cell) (k : ℕ) (v : Cell) → length (put_at s k v) ≡ length s
length-put_at [] k v = refl
length-put_at (c ∷ s) k v =
    cond_both (eqb k (length s)) (v ∷ s) (c ∷ put_at s k v) (λ x. length x ≡ suc (length s)) (λ e. refl) (λ e. ap suc (length-put_at s k v))

-- what is laid again over cells that hold it changes none of them
pub again : (w t j : List Cell) → w ≡ over t j → over t (drop (length t) w) ≡ w
again w t j e = ap (λ l. over t (drop (length t) l)) e ∙ ap (over t) (drop-over t j) ∙ sym e

-- one cell more, written over the first above the top
pub put : (w t : List Cell) (x v : Cell) (j : List Cell) → w ≡ over t (x ∷ j) → set w (length t) v ≡ over (v ∷ t) (drop (suc (length t)) w)
put w t x v j e =
    ap (λ l. set l (length t) v) e
    ∙ set-top t (length t) x v j refl
    ∙ ap (λ l. over t (v ∷ l)) (sym (drop-over (x ∷ t) j))
    ∙ ap (λ l. over t (v ∷ drop (suc (length t)) l)) (sym e)

-- four cells more
pub put_four : (s : List Cell) (a b c d : Cell) (j : List Cell) → 4 ≤ length j → set (set (set (set (over s j) (length s) a) (length s + 1) b) (length s + 2) c) (length s + 3) d ≡ over (d ∷ c ∷ b ∷ a ∷ s) (drop (length (d ∷ c ∷ b ∷ a ∷ s)) (over s j))
put_four s a b c d [] h = absurd (omega arith)
put_four s a b c d (w ∷ []) h = absurd (omega arith)
put_four s a b c d (w ∷ x ∷ []) h = absurd (omega arith)
put_four s a b c d (w ∷ x ∷ y ∷ []) h = absurd (omega arith)
put_four s a b c d (w ∷ x ∷ y ∷ z ∷ j) h =
    ap (λ l. set (set (set l (length s + 1) b) (length s + 2) c) (length s + 3) d) (set-top s (length s) w a (x ∷ y ∷ z ∷ j) refl)
    ∙ ap (λ l. set (set l (length s + 2) c) (length s + 3) d) (set-top (a ∷ s) (length s + 1) x b (y ∷ z ∷ j) (omega arith))
    ∙ ap (λ l. set l (length s + 3) d) (set-top (b ∷ a ∷ s) (length s + 2) y c (z ∷ j) (omega arith))
    ∙ set-top (c ∷ b ∷ a ∷ s) (length s + 3) z d j (omega arith)
    ∙ ap (over (d ∷ c ∷ b ∷ a ∷ s)) (sym (drop-over (z ∷ y ∷ x ∷ w ∷ s) j))

-- so many unset cells more
pub cleared-over : (n : ℕ) (s j : List Cell) (from : ℕ) → length s ≡ from → n ≤ length j → cleared n (over s j) from ≡ over (replicate n Unset ++ s) (drop n j)
cleared-over zero s j from e h = refl
cleared-over (suc n) s j from e h =
    ap (λ l. set l (from + n) Unset) (cleared-over n s j from e (omega arith))
    ∙ ap (λ l. set (over (replicate n Unset ++ s) l) (from + n) Unset) (drop-cons j n Unset h)
    ∙ set-top (replicate n Unset ++ s) (from + n) (get_or j n Unset) Unset (drop (suc n) j) (omega (arith, length-append (replicate n Unset) s, length-replicate n Unset))

-- the cells above the cells below a place
pub above-below : (n : ℕ) (s j : List Cell) → (k : List Cell) × (over s j ≡ over (drop n s) k)
above-below zero s j = (j, refl)
above-below (suc n) [] j = (j, refl)
above-below (suc n) (c ∷ s) j = above-below n s (c ∷ j)

-- A line cut before and after its first word. Assumes nothing.
use Rattle.std.proofs.Common.{◌≡◌, ℕ, zero, suc, ◌<◌, ◌≤◌, Bool, true, false, cond, eqb, List, [], ◌∷◌, ◌++◌, length, get_or, take, drop, sym, refl, ap, ◌∙◌, append_assoc, append-nil, suc-le-suc, add-zero, arith, length-drop, get_or-drop, true-eqb, false-eqb}
use Rattle.script.specs.Words.{blank, closed, words, words_from}

-- what a byte's kind makes of the words
turned : (w bs : List ℕ) (b : ℕ) (v : Bool) → blank b ≡ v → words_from w (b ∷ bs) ≡ cond v (closed w (words bs)) (words_from (w ++ b ∷ []) bs)
unfolding words_from
turned w bs b v e = ap (λ x. cond x (closed w (words bs)) (words_from (w ++ b ∷ []) bs)) e

-- blanks in front make no word
pub skipped : (n : ℕ) (bs : List ℕ) → n ≤ length bs → ((k : ℕ) → k < n → blank (get_or bs k 0) ≡ true) → words bs ≡ words (drop n bs)
skipped zero bs h all = refl
skipped (suc n) [] h all = refl
skipped (suc n) (b ∷ bs) h all =
    turned [] bs b true (all 0 (omega arith)) ∙ skipped n bs (omega arith) (λ k lt. all (suc k) (suc-le-suc lt))

empty : words [] ≡ []
unfolding words_from
empty = refl

-- no byte is left
pub none : (bs : List ℕ) → true ≡ eqb (length bs) 0 → words bs ≡ []
none [] e = empty
none (b ∷ bs) e = absurd (omega (arith, true-eqb (length (b ∷ bs)) 0 e))

-- bytes that are no blanks, up to one that is or to the end, go to the word
pub gathered : (n : ℕ) (w bs : List ℕ) → n ≤ length bs → ((k : ℕ) → k < n → blank (get_or bs k 0) ≡ false) → (n < length bs → blank (get_or bs n 0) ≡ true) → words_from w bs ≡ closed (w ++ take n bs) (words (drop n bs))
unfolding words_from
gathered zero w [] h all stops = ap (λ v. closed v []) (sym (append-nil w))
gathered zero w (b ∷ bs) h all stops =
    let here = stops (omega arith) in
    turned w bs b true here ∙ ap (λ v. closed v (words bs)) (sym (append-nil w)) ∙ ap (closed (w ++ [])) (sym (turned [] bs b true here))
gathered (suc n) w [] h all stops = absurd (omega arith)
gathered (suc n) w (b ∷ bs) h all stops =
    turned w bs b false (all 0 (omega arith))
    ∙ gathered n (w ++ b ∷ []) bs (omega arith) (λ k lt. all (suc k) (suc-le-suc lt)) (λ lt. stops (suc-le-suc lt))
    ∙ ap (λ v. closed v (words (drop n bs))) (append_assoc w (b ∷ []) (take n bs))

-- the first word has a byte
pub word_first : (n : ℕ) (bs : List ℕ) → 0 < n → 0 < length bs → closed (take n bs) (words (drop n bs)) ≡ take n bs ∷ words (drop n bs)
word_first zero bs more some = absurd (omega arith)
word_first (suc n) [] more some = absurd (omega arith)
word_first (suc n) (b ∷ bs) more some = refl

-- a byte that is of one kind or the other and not of this one is of the other
other : (v : Bool) → (v ≡ false → ⊥) → v ≡ true
other true h = refl
other false h = absurd (h refl)

also : (v : Bool) → (v ≡ true → ⊥) → v ≡ false
also true h = absurd (h refl)
also false h = refl

-- the text from its first word on, cut after it
after : (n : ℕ) (t : List ℕ) → 0 < length t → blank (get_or t 0 0) ≡ false → n ≤ length t → ((k : ℕ) → k < n → blank (get_or t k 0) ≡ false) → (n < length t → blank (get_or t n 0) ≡ false → ⊥) → words t ≡ take n t ∷ words (drop n t)
after zero t some starts h all stops = absurd (stops some starts)
after (suc n) t some starts h all stops =
    gathered (suc n) [] t h all (λ lt. other _ (stops lt)) ∙ word_first (suc n) t (omega arith) some

-- the text after the blanks begins with another byte
begins-so : (m : ℕ) (bs t : List ℕ) → t ≡ drop m bs → 0 < length t → (m < length bs → blank (get_or bs m 0) ≡ true → ⊥) → blank (get_or t 0 0) ≡ false
begins-so m bs t is long begins =
    let lies : m < length bs = omega (arith, ap length is, length-drop m bs) in
    let first : get_or t 0 0 ≡ get_or bs m 0 = ap (λ l. get_or l 0 0) is ∙ get_or-drop m bs 0 0 ∙ ap (λ i. get_or bs i 0) (add-zero m) in
    ap blank first ∙ also _ (begins lies)

-- blanks passed, then the first word
pub cut : (m n : ℕ) (bs t w r : List ℕ) → t ≡ drop m bs → false ≡ eqb (length t) 0 → (m < length bs → blank (get_or bs m 0) ≡ true → ⊥) → n ≤ length t → ((k : ℕ) → k < n → blank (get_or t k 0) ≡ false) → (n < length t → blank (get_or t n 0) ≡ false → ⊥) → w ≡ take n t → r ≡ drop n t → words (drop m bs) ≡ w ∷ words r
cut m n bs t w r is some begins h all stops front back =
    let long : 0 < length t = omega (arith, false-eqb (length t) 0 some) in
    ap words (sym is) ∙ after n t long (begins-so m bs t is long begins) h all stops ∙ (λ i. sym front i ∷ words (sym back i))

-- the first word has a byte
pub some_byte : (m n : ℕ) (bs t : List ℕ) → t ≡ drop m bs → false ≡ eqb (length t) 0 → (m < length bs → blank (get_or bs m 0) ≡ true → ⊥) → (n < length t → blank (get_or t n 0) ≡ false → ⊥) → 0 < n
some_byte m zero bs t is some begins stops =
    let long : 0 < length t = omega (arith, false-eqb (length t) 0 some) in
    absurd (stops long (begins-so m bs t is long begins))
some_byte m (suc n) bs t is some begins stops = omega arith

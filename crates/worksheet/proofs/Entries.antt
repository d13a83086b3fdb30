-- Setting a row changes what is said under its own field and kind, and no other.
use Rattle.std.proofs.Common.{◌≡◌, ℕ, zero, suc, ◌<◌, Bool, true, false, cond, eqb, List, [], ◌∷◌, ◌++◌, length, get_or, set, Some, None, sym, refl, ap, ◌∙◌, arith, ◌&&◌}
use Rattle.std.proofs.lemmas.Bool.{and_parts, eqb-true}
use Rattle.std.proofs.lemmas.List.{get_or_default}
use Rattle.std.proofs.lemmas.List.Quantifiers.{all_pairs_push}
use Rattle.worksheet.specs.declared.row.Kind.{Kind}
use Rattle.worksheet.specs.declared.row.Kind.TheVariants as kinds
use Rattle.worksheet.specs.declared.row.Row.{Row}
use Rattle.worksheet.specs.Rows.{Apart, blank, entry_in, kind_of, names, same_kind}

one_kind : (a b : Kind) → same_kind a b ≡ true → a ≡ b
one_kind kinds.Amount kinds.Amount e = refl
one_kind kinds.Amount kinds.Flag e = absurd cc
one_kind kinds.Flag kinds.Amount e = absurd cc
one_kind kinds.Flag kinds.Flag e = refl

-- what a row names
named : (field : ℕ) (kind : Kind) (row : Row) → names field kind row ≡ true → (row.field ≡ field) × (kind_of row.entry ≡ kind)
named field kind row is =
    let parts = and_parts (eqb row.field field) (same_kind (kind_of row.entry) kind) is in
    (eqb-true row.field field parts.0, one_kind (kind_of row.entry) kind parts.1)

-- a row that names what another does is named as it is
pub alike : (field : ℕ) (kind : Kind) (one row : Row) → names row.field (kind_of row.entry) one ≡ true → names field kind one ≡ names field kind row
alike field kind one row is =
    let same = named row.field (kind_of row.entry) one is in
    ap (λ f. eqb f field && same_kind (kind_of one.entry) kind) same.0 ∙ ap (λ k. eqb row.field field && same_kind k kind) same.1

-- a row that names other than another does is not named with it
pub unlike : (field : ℕ) (kind : Kind) (one row : Row) → names row.field (kind_of row.entry) one ≡ false → names field kind row ≡ true → names field kind one ≡ false
unlike field kind one row other is =
    let same = named field kind row is in
    sym (ap (λ f. names f kind one) same.0) ∙ sym (ap (λ k. names row.field k one) same.1) ∙ other

-- two tests of which one holds at most change places
swap : {X : Type 0} (p q : Bool) (x y z : X) → (q ≡ true → p ≡ false) → cond p x (cond q y z) ≡ cond q y (cond p x z)
swap true true x y z other = absurd (let no : true ≡ false = other refl in cc)
swap true false x y z other = refl
swap false q x y z other = refl

-- a test that is asked twice
twice : {X : Type 0} (b : Bool) (x y z : X) → cond b x z ≡ cond b x (cond b y z)
twice true x y z = refl
twice false x y z = refl

-- nothing is said where no row names the field and kind
pub entry-none : (rows : List Row) (field : ℕ) (kind : Kind)
    → ((k : ℕ) → k < length rows → names field kind (get_or rows k blank) ≡ false) → entry_in field kind rows ≡ None
entry-none [] field kind none = refl
entry-none (row ∷ rows) field kind none =
    ap (λ b. cond b (Some row.entry) (entry_in field kind rows)) (none 0 (omega arith))
    ∙ entry-none rows field kind (λ k inside. none (suc k) (omega arith))

-- the first row that names them says it
pub entry_at : (rows : List Row) (field : ℕ) (kind : Kind) (i : ℕ)
    → i < length rows → names field kind (get_or rows i blank) ≡ true → ((k : ℕ) → k < i → names field kind (get_or rows k blank) ≡ false)
    → entry_in field kind rows ≡ Some (get_or rows i blank).entry
entry_at [] field kind i inside is first = absurd (omega arith)
entry_at (row ∷ rows) field kind zero inside is first = ap (λ b. cond b (Some row.entry) (entry_in field kind rows)) is
entry_at (row ∷ rows) field kind (suc i) inside is first =
    ap (λ b. cond b (Some row.entry) (entry_in field kind rows)) (first 0 (omega arith))
    ∙ entry_at rows field kind i (omega arith) is (λ k below. first (suc k) (omega arith))

-- the row in place of the first of the same field and kind
pub entry-replaced : (rows : List Row) (i : ℕ) (row : Row) (field : ℕ) (kind : Kind)
    → i < length rows → names row.field (kind_of row.entry) (get_or rows i blank) ≡ true
    → ((k : ℕ) → k < i → names row.field (kind_of row.entry) (get_or rows k blank) ≡ false)
    → entry_in field kind (set rows i row) ≡ cond (names field kind row) (Some row.entry) (entry_in field kind rows)
entry-replaced [] i row field kind inside is first = absurd (omega arith)
entry-replaced (r ∷ rows) zero row field kind inside is first =
    twice (names field kind row) (Some row.entry) (Some r.entry) (entry_in field kind rows)
    ∙ ap (λ b. cond (names field kind row) (Some row.entry) (cond b (Some r.entry) (entry_in field kind rows))) (sym (alike field kind r row is))
entry-replaced (r ∷ rows) (suc i) row field kind inside is first =
    ap (cond (names field kind r) (Some r.entry)) (entry-replaced rows i row field kind (omega arith) is (λ k below. first (suc k) (omega arith)))
    ∙ swap (names field kind r) (names field kind row) (Some r.entry) (Some row.entry) (entry_in field kind rows) (unlike field kind r row (first 0 (omega arith)))

-- the row after all others, where none is of its field and kind
pub entry-added : (rows : List Row) (row : Row) (field : ℕ) (kind : Kind)
    → ((k : ℕ) → k < length rows → names row.field (kind_of row.entry) (get_or rows k blank) ≡ false)
    → entry_in field kind (rows ++ (row ∷ [])) ≡ cond (names field kind row) (Some row.entry) (entry_in field kind rows)
entry-added [] row field kind none = refl
entry-added (r ∷ rows) row field kind none =
    ap (cond (names field kind r) (Some r.entry)) (entry-added rows row field kind (λ k inside. none (suc k) (omega arith)))
    ∙ swap (names field kind r) (names field kind row) (Some r.entry) (Some row.entry) (entry_in field kind rows) (unlike field kind r row (none 0 (omega arith)))

-- rows stay apart when one of another field and kind comes after them
pub apart-added : (rows : List Row) (row : Row) → Apart rows
    → ((k : ℕ) → k < length rows → names row.field (kind_of row.entry) (get_or rows k blank) ≡ false) → Apart (rows ++ (row ∷ []))
apart-added rows row apart none =
    all_pairs_push (λ one other. names other.field (kind_of other.entry) one ≡ false) rows row apart
    (λ k d inside. ap (names row.field (kind_of row.entry)) (get_or_default rows k d blank inside) ∙ none k inside)

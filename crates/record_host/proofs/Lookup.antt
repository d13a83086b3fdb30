-- Looking a field up in a group whose numbers rise gives what the group says of it.
use Rattle.std.proofs.Common.{◌≡◌, ℕ, zero, suc, ◌+◌, ◌<◌, ◌≤◌, eqb, ◌⊎◌, List, length, get_or, Some, None, Option, sym, refl, ap, ◌∙◌, inl, inr, add-one, arith}
use Rattle.std.proofs.lemmas.Bool.{cases_eq, cond-true, cond-false, eq-eqb, ne_eqb}
use Rattle.std.specs.Option.{option_map}
use Rattle.record_host.specs.Lawful.{Rising}
use Rattle.record_host.specs.Parts.{Given, part}
use Rattle.record_host.proofs.Portions.{as_long, part_at}
use Rattle.record_host.specs.Says.{Group, Names, Says}
use Rattle.record_host.specs.Means.{placed, valued, looked_up}

-- in a group that rises, an earlier number is less than a later one
pub apart : (words : List ℕ) (from count : ℕ) → Rising words from count → (i j : ℕ) → i < j → j < count → get_or words (from + i) 0 < get_or words (from + j) 0
apart words from count rising i zero before inside = absurd (omega arith)
apart words from count rising i (suc j) before inside =
    let step : get_or words (from + j) 0 < get_or words (from + (j + 1)) 0 = rising j (omega arith) in
    let next : get_or words (from + j) 0 < get_or words (from + suc j) 0 = rw add-one at step in
    elim (cases_eq i j) [
      | inl same ↦ rw same next
      | inr other ↦ let more : get_or words (from + i) 0 < get_or words (from + j) 0 = apart words from count rising i j (omega arith) (omega arith) in omega arith
    ]

-- nothing is found where no number is the field's
pub placed-none : (words : List ℕ) (from count field : ℕ)
    → ((j : ℕ) → j < count → get_or words (from + j) 0 ≡ field → ⊥) → placed words from count field ≡ None
placed-none words from zero field none = refl
placed-none words from (suc n) field none =
    cond-false (eqb (get_or words (from + n) 0) field) (Some n) (placed words from n field) (ne_eqb (get_or words (from + n) 0) field (none n (omega arith)))
    ∙ placed-none words from n field (λ j inside. none j (omega arith))

-- a field's number is found where it stands
pub placed-some : (words : List ℕ) (from count field : ℕ)
    → Rising words from count → (j : ℕ) → j < count → get_or words (from + j) 0 ≡ field → placed words from count field ≡ Some j
placed-some words from zero field rising j inside is = absurd (omega arith)
placed-some words from (suc n) field rising j inside is =
    elim (cases_eq j n) [
      | inl same ↦
          cond-true (eqb (get_or words (from + n) 0) field) (Some n) (placed words from n field) (eq-eqb (get_or words (from + n) 0) field (rw same at is))
          ∙ ap Some (sym same)
      | inr other ↦
          let later : get_or words (from + j) 0 < get_or words (from + n) 0 = apart words from (suc n) rising j n (omega arith) (omega arith) in
          cond-false (eqb (get_or words (from + n) 0) field) (Some n) (placed words from n field) (ne_eqb (get_or words (from + n) 0) field (λ e. omega arith))
          ∙ placed-some words from n field (λ i within. rising i (omega arith)) j (omega arith) is
    ]

-- some number is the field's, or none is
sought : (words : List ℕ) (from count field : ℕ)
    → ((j : ℕ) × (j < count) × (get_or words (from + j) 0 ≡ field)) ⊎ ((j : ℕ) → j < count → get_or words (from + j) 0 ≡ field → ⊥)
sought words from zero field = inr (λ j inside is. omega arith)
sought words from (suc n) field =
    elim (sought words from n field) [
      | inl there ↦ inl (there.0, omega (arith, there.1), there.2)
      | inr none ↦
          elim (cases_eq (get_or words (from + n) 0) field) [
            | inl is ↦ inl (n, omega arith, is)
            | inr other ↦ inr (λ j inside is. elim (cases_eq j n) [ inl same ↦ other (rw same at is) | inr below ↦ none j (omega arith) is ])
          ]
    ]

-- what is there at one value is not there at another, nor missing
some_same : {V : Type 0} (o : Option V) (u v : V) → o ≡ Some u → o ≡ Some v → u ≡ v
some_same o u v p q = cc

some-none : {V : Type 0} (o : Option V) (u : V) → o ≡ Some u → o ≡ None → ⊥
some-none o u p q = let z : ◌≡◌ {A = ℕ} 0 1 = cc in omega arith

module _ {V : Type 0} (words : List ℕ) (group : Group) (reads : ℕ → V) (rising : Rising words group.from group.count) (field : ℕ) where
  -- the value that stands at a field's number is the one looked up
  looked : (j : ℕ) → Names words group field j → looked_up words group reads field ≡ Some (reads (get_or words (group.at + j) 0))
  looked j names = ap (valued words group.at reads) (placed-some words group.from group.count field rising j names.0 names.1)

  missed : ((j : ℕ) → Names words group field j → ⊥) → looked_up words group reads field ≡ None
  missed none = ap (valued words group.at reads) (placed-none words group.from group.count field (λ j inside is. none j (inside, is)))

  -- what the fields and values of the group, as slices, say of the field
  pub given : (fields values : List ℕ) (found : Option ℕ) → Given fields values field found → fields ≡ part words group.from group.count
      → values ≡ part words group.at group.count → group.from + group.count ≤ length words
      → option_map reads found ≡ looked_up words group reads field
  given fields values None none p q fits =
      let long : length fields ≡ group.count = as_long words group.from group.count fields p fits in
      sym (missed (λ j names. none j (omega (arith, names.0)) (ap (λ l. get_or l j 0) p ∙ part_at words group.from group.count j names.0 ∙ names.1)))
  given fields values (Some value) there p q fits =
      let long : length fields ≡ group.count = as_long words group.from group.count fields p fits in
      let j = there.0 in
      let inside : j < group.count = omega (arith, there.1) in
      let field_is : get_or words (group.from + j) 0 ≡ field = sym (part_at words group.from group.count j inside) ∙ sym (ap (λ l. get_or l j 0) p) ∙ there.2 in
      let value_is : get_or words (group.at + j) 0 ≡ value = sym (part_at words group.at group.count j inside) ∙ sym (ap (λ l. get_or l j 0) q) ∙ there.3 in
      ap (λ v. Some (reads v)) (sym value_is) ∙ sym (looked j (inside, field_is))

  pub said : Says words group reads field (looked_up words group reads field)
  said =
      elim (sought words group.from group.count field) [
        | inl there ↦
            let names : Names words group field there.0 = (there.1, there.2) in
            let found : looked_up words group reads field ≡ Some (reads (get_or words (group.at + there.0) 0)) = looked there.0 names in
            ((λ v. ((λ is. (there.0, names, some_same _ _ _ found is)), (λ at. looked at.0 at.1 ∙ ap Some at.2))), ((λ gone. absurd (some-none _ _ found gone)), (λ none. absurd (none there.0 names))))
        | inr none ↦
            let gone : looked_up words group reads field ≡ None = missed (λ j names. none j names.0 names.1) in
            ((λ v. ((λ is. absurd (some-none _ _ is gone)), (λ at. absurd (none at.0 at.1.0 at.1.1)))), ((λ _ j names. none j names.0 names.1), (λ _. gone)))
      ]

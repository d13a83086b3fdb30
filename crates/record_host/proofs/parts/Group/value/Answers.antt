use Rattle.std.proofs.Common.{◌≡◌, ℕ, ◌<◌, ◌≤◌, List, length, get_or, sym, Ok, Err, None, Result, inl, inr, arith, rules}
use Rattle.std.specs.Ordering.{nat_cmp}
use Rattle.std.specs.List.Sorted.{IsBinarySearchResult, IsStrictlyIncreasing}
use Rattle.std.specs.Result.{result_ok}
use Rattle.std.proofs.lemmas.Bool.{cases_lt, cases_eq}
use Rattle.std.proofs.lemmas.Option.{none-some}
use Rattle.std.proofs.lemmas.List.Sorted.{searched}
use Rattle.std.proofs.lemmas.List.Kept.{AllPairs-from_increasing}
use Rattle.record_host.proofs.parts.Group.value.Goals as goal

-- numbers that rise do not fall
rise : (fields : List ℕ) → IsStrictlyIncreasing fields → (i j : ℕ) → i ≤ j → j < length fields → get_or fields i 0 ≤ get_or fields j 0
rise fields rising i j before inside = elim (cases_eq i j) [
  | inl same ↦ rw same (omega arith)
  | inr other ↦ omega (arith, AllPairs-from_increasing fields rising i j 0 (omega arith) inside)
]

-- a search that finds nothing leaves no number that is the field's
missed : (fields : List ℕ) (field : ℕ) (found : Result ℕ ℕ) → IsStrictlyIncreasing fields → IsBinarySearchResult (λ y. nat_cmp y field) fields found
    → result_ok found ≡ None → (j : ℕ) → j < length fields → get_or fields j 0 ≡ field → ⊥
missed fields field (Ok i) rising said none j inside is = none-some i (sym none)
missed fields field (Err i) rising said none j inside is =
    let sides = searched fields field (Err i) said (rise fields rising) in
    elim (cases_lt j i) [
      | inl below ↦ omega (arith, sides.1 j below)
      | inr above ↦ omega (arith, sides.2 j above inside)
    ]

pub returns-in_err-place : goal.returns-in_err-place
returns-in_err-place c =
    let none = missed c.args.self.fields.now c.from.result c.binary_search.result c.requires.rising c.binary_search.ensures.position (search rules) in
    let sought : c.args.field ≡ c.from.result = search rules in
    rw (c.from_residual.ensures, sought) none

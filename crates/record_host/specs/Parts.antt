-- Parts of rows of words, and what stands in them. Assumes nothing.
use Rattle.std.specs.Prelude.{◌≡◌, ℕ, ◌<◌, ◌≤◌, EachIndex, List, length, take, drop, Option, MatchOption, ◌≢◌, slice_index}

-- the words from a place on, as many as told
abbrev pub part : List ℕ → ℕ → ℕ → List ℕ
part words from count = take count (drop from words)

-- no word is above a number
abbrev pub NoneAbove : ℕ → List ℕ → Type 0
NoneAbove most words = EachIndex words (λ j. slice_index words j ≤ most)

-- what fields and their values say of a field: nothing where no number is the field's, else the value in the same order
abbrev pub Given : List ℕ → List ℕ → ℕ → Option ℕ → Type 0
Given fields values field given =
    MatchOption given ((j : ℕ) → j < length fields → slice_index fields j ≢ field)
    (λ value. (j : ℕ) × (j < length fields) × (slice_index fields j ≡ field) × (slice_index values j ≡ value))

-- A part of a row of words has the words from its place on.
use Rattle.std.proofs.Common.{◌≡◌, ℕ, ◌+◌, ◌-◌, ◌<◌, ◌≤◌, Bool, Decides, List, length, get_or, drop, min, take, ap, ◌∙◌, inl, inr, arith, length-drop, length-take-le, get_or-drop, get_or-take}
use Rattle.std.specs.List.Sorted.{IsStrictlyIncreasing}
use Rattle.std.proofs.lemmas.Bool.{cases_lt}
use Rattle.std.proofs.lemmas.List.{length-take}
use Rattle.std.proofs.Math.Nat.{min-le_left, min-le_right}
use Rattle.record_host.specs.Lawful.{Counted, Lawful, Rising, UpTo, amounts, flags, values}
use Rattle.record_host.specs.Parts.{NoneAbove, part}

module _ (words : List ℕ) (from count : ℕ) where
  pub length_part : from + count ≤ length words → length (part words from count) ≡ count
  length_part inside = length-take-le count (drop from words) (simp length-drop (omega arith))

  pub as_long : (taken : List ℕ) → taken ≡ part words from count → from + count ≤ length words → length taken ≡ count
  as_long taken is inside = ap length is ∙ length_part inside

  pub part_at : (j : ℕ) → j < count → get_or (part words from count) j 0 ≡ get_or words (from + j) 0
  part_at j inside = get_or-take count (drop from words) j 0 inside ∙ get_or-drop from words j 0

-- the first of numbers that rise, as many as told, rise
pub increasing_take : (n : ℕ) (l : List ℕ) → IsStrictlyIncreasing l → IsStrictlyIncreasing (take n l)
increasing_take n l rises j below =
    let inside : j + 1 < min n (length l) = rw (← length-take n l) below in
    let short : j + 1 < n = omega (arith, min-le_left n (length l)) in
    let fewer : j + 1 < length l = omega (arith, min-le_right n (length l)) in
    omega (arith, rises j fewer, get_or-take n l j 0 (omega arith), get_or-take n l (j + 1) 0 short)

-- what is asked of a part is asked of the words
module _ (words : List ℕ) (from count : ℕ) (inside : from + count ≤ length words) where
  pub rising_from : IsStrictlyIncreasing (part words from count) → Rising words from count
  rising_from rises j below =
      let long : length (part words from count) ≡ count = length_part words from count inside in
      omega (arith, rises j (omega arith), part_at words from count j (omega arith), part_at words from count (j + 1) (omega arith))

  pub increasing_from : Rising words from count → IsStrictlyIncreasing (part words from count)
  increasing_from rising j below =
      let long : length (part words from count) ≡ count = length_part words from count inside in
      omega (arith, rising j (omega arith), part_at words from count j (omega arith), part_at words from count (j + 1) (omega arith))

  pub up_to_from : (most : ℕ) → NoneAbove most (part words from count) → UpTo words from count most
  up_to_from most none j below =
      let long : length (part words from count) ≡ count = length_part words from count inside in
      omega (arith, none j (omega arith), part_at words from count j (omega arith))

  pub none_above_from : (most : ℕ) → UpTo words from count most → NoneAbove most (part words from count)
  none_above_from most all j below =
      let long : length (part words from count) ≡ count = length_part words from count inside in
      omega (arith, all j (omega arith), part_at words from count j (omega arith))

-- two parts that follow each other
pub up_to_both : (words : List ℕ) (from n m most : ℕ) → UpTo words from n most → UpTo words (from + n) m most → UpTo words from (n + m) most
up_to_both words from n m most first second j below = elim (cases_lt j n) [
  | inl low ↦ first j low
  | inr high ↦
      let place : from + n + (j - n) ≡ from + j = omega arith in
      let here : get_or words (from + n + (j - n)) 0 ≤ most = second (j - n) (omega arith) in
      rw place at here
]

pub up_to_second : (words : List ℕ) (from n m most : ℕ) → UpTo words from (n + m) most → UpTo words (from + n) m most
up_to_second words from n m most all j below =
    let place : from + (n + j) ≡ from + n + j = omega arith in
    let here : get_or words (from + (n + j)) 0 ≤ most = all (n + j) (omega arith) in
    rw place at here

-- the parts of words whose counts and length fit each other are as they should be exactly where the words are lawful
module _ (words : List ℕ) (fits : Counted words) where
  abbrev PartsLawful : Type 0
  PartsLawful =
      IsStrictlyIncreasing (part words 2 (amounts words))
      × IsStrictlyIncreasing (part words (2 + amounts words) (flags words))
      × NoneAbove 255 (part words 2 (amounts words))
      × NoneAbove 255 (part words (2 + amounts words) (flags words))
      × NoneAbove 1 (part words (values words + amounts words) (flags words))

  lawful_from : PartsLawful → Lawful words
  lawful_from parts = (
    fits,
    (
      rising_from words 2 (amounts words) (omega arith) parts.0,
      rising_from words (2 + amounts words) (flags words) (omega arith) parts.1,
      up_to_both words 2 (amounts words) (flags words) 255
          (up_to_from words 2 (amounts words) (omega arith) 255 parts.2)
          (up_to_from words (2 + amounts words) (flags words) (omega arith) 255 parts.3),
    ),
    up_to_from words (values words + amounts words) (flags words) (omega arith) 1 parts.4,
  )

  parts_from : Lawful words → PartsLawful
  parts_from lawful = (
    increasing_from words 2 (amounts words) (omega arith) lawful.1.0,
    increasing_from words (2 + amounts words) (flags words) (omega arith) lawful.1.1,
    none_above_from words 2 (amounts words) (omega arith) 255 (λ j below. lawful.1.2 j (omega arith)),
    none_above_from words (2 + amounts words) (flags words) (omega arith) 255 (up_to_second words 2 (amounts words) (flags words) 255 lawful.1.2),
    none_above_from words (values words + amounts words) (flags words) (omega arith) 1 lawful.2,
  )

  pub decided : (fields others truths : List ℕ) → fields ≡ part words 2 (amounts words) → others ≡ part words (2 + amounts words) (flags words)
      → truths ≡ part words (values words + amounts words) (flags words) → (answer : Bool)
      → Decides answer (IsStrictlyIncreasing fields × IsStrictlyIncreasing others × NoneAbove 255 fields × NoneAbove 255 others × NoneAbove 1 truths)
      → Decides answer (Lawful words)
  decided fields others truths p q r answer said =
      let parts : Decides answer PartsLawful = rw (← p, ← q, ← r) said in
      ((λ yes. lawful_from (parts.0 yes)), (λ lawful. parts.1 (parts_from lawful)))

-- Which rows of words are declaration records. Assumes nothing.
use Rattle.std.specs.Prelude.{◌≡◌, ℕ, ◌+◌, ◌*◌, ◌<◌, ◌≤◌, List, length, slice_index}

-- the count of amounts, the first word
abbrev pub amounts : List ℕ → ℕ
amounts words = slice_index words 0

-- the count of flags, the second word
abbrev pub flags : List ℕ → ℕ
flags words = slice_index words 1

-- where the values begin: after the two counts and all field numbers
abbrev pub values : List ℕ → ℕ
values words = 2 + (amounts words + flags words)

-- the words from a place on, as many as told, rise: each is below the next
abbrev pub Rising : List ℕ → ℕ → ℕ → Type 0
Rising words from count = (j : ℕ) → j + 1 < count → slice_index words (from + j) < slice_index words (from + (j + 1))

-- none of the words from a place on, as many as told, is above a number
abbrev pub UpTo : List ℕ → ℕ → ℕ → ℕ → Type 0
UpTo words from count most = (j : ℕ) → j < count → slice_index words (from + j) ≤ most

-- the counts are to 256, and the length is exactly that of two counts, the field numbers and the values
abbrev pub Counted : List ℕ → Type 0
Counted words =
    (amounts words ≤ 256) × (flags words ≤ 256) × (length words ≡ 2 + 2 * (amounts words + flags words))

-- field numbers, those of the amounts before those of the flags, are to 255 and rise within each group
abbrev pub Named : List ℕ → Type 0
Named words =
    Rising words 2 (amounts words) × Rising words (2 + amounts words) (flags words) × UpTo words 2 (amounts words + flags words) 255

-- A declaration record: the counts, the field numbers, then the values in the same order, where flags are 0 or 1 and amounts any words
abbrev pub Lawful : List ℕ → Type 0
Lawful words = Counted words × Named words × UpTo words (values words + amounts words) (flags words) 1

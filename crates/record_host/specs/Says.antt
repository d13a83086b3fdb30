-- What the words of a record say of fields, and what they mean to a run. Assumes nothing.
use Rattle.std.specs.Prelude.{◌≡◌, ℕ, ◌+◌, ◌<◌, ◌≤◌, Bool, cond, List, ℤ, pos, ◌-ℤ◌, Some, None, Option, ◌==◌, ◌≢◌, nat_lt, slice_index}
use Rattle.host.specs.Meaning.{Meaning}
use Rattle.record_host.specs.Lawful.{amounts, flags, values}

-- a word as two's complement: from 2,147,483,648 on it stands for 4,294,967,296 less
abbrev pub signed : ℕ → ℤ
signed word = cond (nat_lt word 2147483648) (pos word) (pos word -ℤ pos 4294967296)

-- a word as a truth value: 1 is true
abbrev pub truth : ℕ → Bool
truth word = word == 1

-- A group of a record: where its field numbers begin, how many there are, and where its values begin
pub record Group : Type 0 where
  pub from : ℕ
  pub count : ℕ
  pub at : ℕ

-- the amounts: their numbers come first, and their values
abbrev pub amount_group : List ℕ → Group
amount_group words = record { from = 2; count = amounts words; at = values words }

-- the flags: their numbers and values come after those of the amounts
abbrev pub flag_group : List ℕ → Group
flag_group words = record { from = 2 + amounts words; count = flags words; at = values words + amounts words }

-- the number at j in the group is this field's
abbrev pub Names : List ℕ → Group → ℕ → ℕ → Type 0
Names words group field j = (j < group.count) × (slice_index words (group.from + j) ≡ field)

-- one exactly when the other
abbrev pub Iff : Type 0 → Type 0 → Type 0
Iff P Q = (P → Q) × (Q → P)

-- What a group says of a field: it is v exactly when some number of the group is the field's and the value in the same order reads as v; it is nothing exactly when no number is the field's
abbrev pub Says : {V : Type 0} → List ℕ → Group → (ℕ → V) → ℕ → Option V → Type 0
Says {V} words group reads field said =
    ((v : V) → Iff (said ≡ Some v) ((j : ℕ) × Names words group field j × (reads (slice_index words (group.at + j)) ≡ v)))
    × Iff (said ≡ None) ((j : ℕ) → Names words group field j → ⊥)

-- A host made from a record with so many accounts and lines: amounts and flags are those that the words say, just the accounts from 0 on below that number are open, each at 0, and all lines are left
pub record Made (words : List ℕ) (accounts lines : ℕ) (m : Meaning) : Type 0 where
  pub amount : (field : ℕ) → Says words (amount_group words) signed field (m.amount field)
  pub flag : (field : ℕ) → Says words (flag_group words) truth field (m.flag field)
  pub opened : (account : ℕ) → account < accounts → m.account account ≡ Some (pos 0)
  pub closed : (account : ℕ) → accounts ≤ account → m.account account ≡ None
  pub unposted : m.lines ≡ lines

-- just the accounts below a number are open
abbrev pub Opened : Meaning → ℕ → Type 0
Opened m accounts = (account : ℕ) → Iff (account < accounts) (m.account account ≢ None)

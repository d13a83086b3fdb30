-- What the record host means. Assumes nothing.
use Rattle.std.specs.Prelude.{ℕ, zero, suc, ◌+◌, Bool, cond, List, ℤ, pos, Some, None, Option, ◌==◌, slice_index, slice_index_or}
use Rattle.host.specs.Meaning.{Meaning, opened}
use Rattle.record_host.specs.Says.{Group, amount_group, flag_group, signed, truth}
use Rattle.record_host.specs.Checked.{record_of}
use Rattle.record_host.specs.declared.record.RecordHost.{RecordHost}

-- where among so many words from a place on a field's number stands, if it does
abbrev pub placed : List ℕ → ℕ → ℕ → ℕ → Option ℕ
placed words from zero field = None
placed words from (suc j) field = cond (slice_index words (from + j) == field) (Some j) (placed words from j field)

-- the value of a place, if there is one
abbrev pub valued : {V : Type 0} → List ℕ → ℕ → (ℕ → V) → Option ℕ → Option V
valued words at reads None = None
valued words at reads (Some j) = Some (reads (slice_index words (at + j)))

-- what a group has for a field
abbrev pub looked_up : {V : Type 0} → List ℕ → Group → (ℕ → V) → ℕ → Option V
looked_up words group reads field = valued words group.at reads (placed words group.from group.count field)

-- the amount of a field, if it has one
abbrev pub amount_of : List ℕ → ℕ → Option ℤ
amount_of words field = looked_up words (amount_group words) signed field

-- the flag of a field, if it has one
abbrev pub flag_of : List ℕ → ℕ → Option Bool
flag_of words field = looked_up words (flag_group words) truth field

-- the totals of the accounts that are open
abbrev pub total_of : List ℤ → ℕ → ℕ → Option ℤ
total_of sums accounts = opened accounts (λ account. slice_index_or sums account (pos 0))

-- the meaning of the record host, by its parts
abbrev pub meaning : RecordHost → Meaning
meaning h = record {
  amount = amount_of (record_of h.checked);
  flag = flag_of (record_of h.checked);
  account = total_of h.totals.sums h.checked.accounts;
  lines = h.totals.left;
}

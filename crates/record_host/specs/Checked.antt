-- What checking a record answers. Assumes nothing.
use Rattle.std.specs.Prelude.{◌≡◌, ℕ, ◌≤◌, ◌⊎◌, List, Ok, Err, Result}
use Rattle.language.specs.declared.faults.Fault.{Fault}
use Rattle.language.specs.declared.faults.HostRefusal.TheVariants.{OtherRecord, Limits}
use Rattle.host.specs.Refused.{refused}
use Rattle.bounded_list.specs.Items.{items}
use Rattle.record_host.specs.declared.checked.CheckedRecord.{CheckedRecord}
use Rattle.record_host.specs.Lawful.{Lawful}

-- at most 256 accounts and 65,535 charge lines
abbrev pub Within : ℕ → ℕ → Type 0
Within accounts lines = (accounts ≤ 256) × (lines ≤ 65535)

-- the words of a checked record
abbrev pub record_of : CheckedRecord → List ℕ
record_of checked = items checked.words

-- Checking answers a checked record of just these words and numbers where the words are lawful and the numbers within the limits; other words are refused, whatever the numbers; then other numbers
abbrev pub Checked : List ℕ → ℕ → ℕ → Result CheckedRecord Fault → Type 0
Checked words accounts lines (Ok checked) =
    Lawful words × Within accounts lines × (record_of checked ≡ words) × (checked.accounts ≡ accounts) × (checked.lines ≡ lines)
Checked words accounts lines (Err fault) =
    ((Lawful words → ⊥) × (fault ≡ refused OtherRecord)) ⊎ (Lawful words × (Within accounts lines → ⊥) × (fault ≡ refused Limits))

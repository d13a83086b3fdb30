-- What a worksheet means, and what its calls do. Assumes nothing.
use Rattle.std.specs.Prelude.{◌≡◌, ℕ, ◌+◌, ◌-◌, ◌<◌, ◌≤◌, Bool, cond, ◌⊎◌, List, [], ◌∷◌, ◌++◌, length, ℤ, pos, ◌+ℤ◌, Some, None, Ok, Err, fold, Option, Result, ◌==◌}
use Rattle.language.specs.declared.faults.Fault.{Fault}
use Rattle.language.specs.declared.faults.Stop.{Stop}
use Rattle.language.specs.declared.faults.HostRefusal as refusal
use Rattle.language.specs.declared.faults.HostRefusal.{HostRefusal}
use Rattle.bounded_list.specs.Items.{items}
use Rattle.host.specs.Meaning.{Meaning, opened}
use Rattle.host.specs.Refused.{refused}
use Rattle.worksheet.specs.declared.charges.Charge.{Charge}
use Rattle.worksheet.specs.declared.charges.Charges.{Charges}
use Rattle.worksheet.specs.declared.row.Entry.{Entry}
use Rattle.worksheet.specs.declared.row.Entry.TheVariants.{Amount, Flag}
use Rattle.worksheet.specs.declared.row.Kind.{Kind}
use Rattle.worksheet.specs.declared.row.Kind.TheVariants as kinds
use Rattle.worksheet.specs.declared.row.Row.{Row}
use Rattle.worksheet.specs.declared.rows.Rows.{Rows}
use Rattle.worksheet.specs.declared.sheet.Worksheet.{Worksheet}
use Rattle.worksheet.specs.Rows.{amount_of, entry_in, flag_of, kind_of, names}

-- the rows that are filled
abbrev pub filled_rows : Rows → List Row
filled_rows rows = items rows.filled

-- how many rows are filled
abbrev pub filled_in : Worksheet → ℕ
filled_in sheet = length (filled_rows sheet.rows)

-- the charge lines that are taken, in order
abbrev pub taken_lines : Charges → List Charge
taken_lines charges = items charges.taken

-- the charge lines of a worksheet, in order
abbrev pub charges_of : Worksheet → List Charge
charges_of sheet = taken_lines sheet.charges

-- what a charge line adds to an account: its value to its own, nothing to others
abbrev pub share : ℕ → Charge → ℤ
share account charge = cond (charge.account == account) charge.value (pos 0)

-- the total of an account: its charge lines added up
abbrev pub total_of : ℕ → List Charge → ℤ
total_of account lines = fold (λ sum charge. sum +ℤ share account charge) (pos 0) lines

-- the totals of the accounts that are open
abbrev pub open_total : ℕ → List Charge → ℕ → Option ℤ
open_total accounts lines = opened accounts (λ account. total_of account lines)

-- the meaning of a worksheet, by its parts
abbrev pub meaning : Worksheet → Meaning
meaning sheet = record {
  amount = λ field. amount_of (entry_in field kinds.Amount (filled_rows sheet.rows));
  flag = λ field. flag_of (entry_in field kinds.Flag (filled_rows sheet.rows));
  account = open_total sheet.accounts (charges_of sheet);
  lines = sheet.charges.most - length (charges_of sheet);
}

-- the rows filled after one was set: one more where there was none of its field and kind
abbrev pub grown : {A : Type 0} → Option A → ℕ → ℕ
grown None filled = filled + 1
grown (Some a) filled = filled

-- setting a row: it is what its field and kind says from then on, and all others say what they did; it is refused just when it would be new and 64 rows are filled
abbrev pub Put : Rows → Row → Result (Unit {0}) HostRefusal → Rows → Type 0
Put before row (Ok u) after =
    ((field : ℕ) (kind : Kind) → entry_in field kind (filled_rows after) ≡ cond (names field kind row) (Some row.entry) (entry_in field kind (filled_rows before)))
    × (length (filled_rows after) ≡ grown (entry_in row.field (kind_of row.entry) (filled_rows before)) (length (filled_rows before)))
Put before row (Err why) after =
    (why ≡ refusal.TheVariants.Row) × (after ≡ before) × (length (filled_rows before) ≡ 64) × (entry_in row.field (kind_of row.entry) (filled_rows before) ≡ None)

-- a meaning with this amount for this field, and all else as it was
abbrev pub with_amount : Meaning → ℕ → ℤ → Meaning
with_amount m field value = record {
  amount = λ f. cond (f == field) (Some value) (m.amount f);
  flag = m.flag;
  account = m.account;
  lines = m.lines;
}

-- a meaning with this flag for this field, and all else as it was
abbrev pub with_flag : Meaning → ℕ → Bool → Meaning
with_flag m field value = record {
  amount = m.amount;
  flag = λ f. cond (f == field) (Some value) (m.flag f);
  account = m.account;
  lines = m.lines;
}

-- a meaning with this entry for this field, and all else as it was
abbrev pub with_entry : Meaning → ℕ → Entry → Meaning
with_entry m field (Amount value) = with_amount m field value
with_entry m field (Flag value) = with_flag m field value

-- Setting a row of a field that had this or nothing: the worksheet then has the changed meaning, one row more is filled if there was none, and the charge lines are as they were. It is refused just for a field above 255, or for a new row when 64 are filled, and then changes nothing
abbrev pub RowSet : {V : Type 0} → Option V → Meaning → ℕ → Worksheet → Result (Unit {0}) Fault → Worksheet → Type 0
RowSet had changed field before (Ok u) after =
    (field ≤ 255) × (meaning after ≡ changed) × (filled_in after ≡ grown had (filled_in before)) × (filled_in after ≤ 64) × (charges_of after ≡ charges_of before)
RowSet had changed field before (Err fault) after =
    (fault ≡ refused refusal.TheVariants.Row) × (after ≡ before) × ((255 < field) ⊎ ((had ≡ None) × (filled_in before ≡ 64)))

-- A worksheet made with so many accounts and lines: it says nothing of any field, just the accounts from 0 on below that number are open, each at 0, all lines are left, and no row is filled and no line taken
pub record Blank (accounts lines : ℕ) (sheet : Worksheet) : Type 0 where
  pub amounts : (field : ℕ) → (meaning sheet).amount field ≡ None
  pub flags : (field : ℕ) → (meaning sheet).flag field ≡ None
  pub opened : (account : ℕ) → account < accounts → (meaning sheet).account account ≡ Some (pos 0)
  pub closed : (account : ℕ) → accounts ≤ account → (meaning sheet).account account ≡ None
  pub unposted : (meaning sheet).lines ≡ lines
  pub unfilled : filled_in sheet ≡ 0
  pub uncharged : charges_of sheet ≡ []

-- at most 256 accounts and 128 charge lines
abbrev pub Within : ℕ → ℕ → Type 0
Within accounts lines = (accounts ≤ 256) × (lines ≤ 128)

-- making a worksheet is refused just for numbers beyond the limits
abbrev pub Made : ℕ → ℕ → Result Worksheet Fault → Type 0
Made accounts lines (Ok sheet) = Within accounts lines × Blank accounts lines sheet
Made accounts lines (Err fault) = (Within accounts lines → ⊥) × (fault ≡ refused refusal.TheVariants.Limits)

-- the charge lines after a posting: one more, at the end, unless it was refused
abbrev pub listed : Result (Unit {0}) Stop → List Charge → ℕ → ℤ → List Charge
listed (Ok u) lines account value = lines ++ (record { account = account; value = value } ∷ [])
listed (Err stop) lines account value = lines

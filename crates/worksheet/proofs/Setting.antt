-- A row that is set for one field and kind, as amounts and flags see it.
use Rattle.std.proofs.Common.{◌≡◌, ℕ, Bool, true, false, cond, eqb, List, [], ◌∷◌, Some, None, Ok, Err, Option, Result, sym, refl, ◌∙◌, inl, inr, ◌&&◌}
use Rattle.language.specs.declared.faults.Fault.{Fault}
use Rattle.host.specs.Meaning.{Meaning}
use Rattle.worksheet.specs.declared.row.Entry.{Entry}
use Rattle.worksheet.specs.declared.row.Entry.TheVariants.{Amount, Flag}
use Rattle.worksheet.specs.declared.row.Kind.TheVariants as kinds
use Rattle.worksheet.specs.declared.row.Row.{Row}
use Rattle.worksheet.specs.declared.sheet.Worksheet.{Worksheet}
use Rattle.worksheet.specs.Rows.{amount_of, entry_in, flag_of, kind_of, same_kind}
use Rattle.worksheet.specs.Sheet.{RowSet, filled_in, grown}

-- a row that names an amount has one
amount-row : (fits : Bool) (entry : Entry) (rest : Option Entry) (n : ℕ) → grown (amount_of rest) n ≡ grown rest n
    → grown (amount_of (cond (fits && same_kind (kind_of entry) kinds.Amount) (Some entry) rest)) n ≡ grown (cond (fits && same_kind (kind_of entry) kinds.Amount) (Some entry) rest) n
amount-row true (Amount z) rest n e = refl
amount-row true (Flag b) rest n e = e
amount-row false entry rest n e = e

pub amount-grown : (rows : List Row) (field n : ℕ) → grown (amount_of (entry_in field kinds.Amount rows)) n ≡ grown (entry_in field kinds.Amount rows) n
amount-grown [] field n = refl
amount-grown (row ∷ rows) field n = amount-row (eqb row.field field) row.entry (entry_in field kinds.Amount rows) n (amount-grown rows field n)

-- a row that names a flag has one
flag-row : (fits : Bool) (entry : Entry) (rest : Option Entry) (n : ℕ) → grown (flag_of rest) n ≡ grown rest n
    → grown (flag_of (cond (fits && same_kind (kind_of entry) kinds.Flag) (Some entry) rest)) n ≡ grown (cond (fits && same_kind (kind_of entry) kinds.Flag) (Some entry) rest) n
flag-row true (Flag b) rest n e = refl
flag-row true (Amount z) rest n e = e
flag-row false entry rest n e = e

pub flag-grown : (rows : List Row) (field n : ℕ) → grown (flag_of (entry_in field kinds.Flag rows)) n ≡ grown (entry_in field kinds.Flag rows) n
flag-grown [] field n = refl
flag-grown (row ∷ rows) field n = flag-row (eqb row.field field) row.entry (entry_in field kinds.Flag rows) n (flag-grown rows field n)

-- what is said of setting an entry is said of what the entry holds
pub row_set : {V : Type 0} (entry : Option Entry) (had : Option V) (changed : Meaning) (field : ℕ) (before : Worksheet) (answer : Result (Unit {0}) Fault) (after : Worksheet)
    → grown had (filled_in before) ≡ grown entry (filled_in before) → (entry ≡ None → had ≡ None)
    → RowSet entry changed field before answer after → RowSet had changed field before answer after
row_set entry had changed field before (Ok u) after same none set = (set.0, set.1, set.2 ∙ sym same, set.3, set.4)
row_set entry had changed field before (Err fault) after same none set = (set.0, set.1, elim set.2 [ inl above ↦ inl above | inr full ↦ inr (none full.0, full.1) ])

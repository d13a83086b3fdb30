-- Rows by field and kind. Assumes nothing.
use Rattle.std.specs.Prelude.{◌≡◌, ℕ, Bool, true, false, cond, List, [], ◌∷◌, ℤ, pos, Some, None, Option, ◌==◌, ◌&&◌}
use Rattle.std.specs.List.{AllPairs}
use Rattle.worksheet.specs.declared.row.Entry.{Entry}
use Rattle.worksheet.specs.declared.row.Entry.TheVariants.{Amount, Flag}
use Rattle.worksheet.specs.declared.row.Kind.{Kind}
use Rattle.worksheet.specs.declared.row.Kind.TheVariants as kinds
use Rattle.worksheet.specs.declared.row.Row.{Row}

-- whether an entry is an amount or a flag
abbrev pub kind_of : Entry → Kind
kind_of (Amount z) = kinds.Amount
kind_of (Flag b) = kinds.Flag

-- whether two kinds are one
abbrev pub same_kind : Kind → Kind → Bool
same_kind kinds.Amount kinds.Amount = true
same_kind kinds.Amount kinds.Flag = false
same_kind kinds.Flag kinds.Amount = false
same_kind kinds.Flag kinds.Flag = true

-- whether a row says something of this kind of this field
abbrev pub names : ℕ → Kind → Row → Bool
names field kind row = (row.field == field) && same_kind (kind_of row.entry) kind

-- what a place holds that was never filled
abbrev pub blank : Row
blank = record { field = 0; entry = Amount (pos 0) }

-- no two rows name the same field and kind
abbrev pub Apart : List Row → Type 0
Apart rows = AllPairs (λ one other. names other.field (kind_of other.entry) one ≡ false) rows

-- what the rows say of this kind of a field
abbrev pub entry_in : ℕ → Kind → List Row → Option Entry
entry_in field kind [] = None
entry_in field kind (row ∷ rows) = cond (names field kind row) (Some row.entry) (entry_in field kind rows)

-- an entry as an amount
abbrev pub amount_of : Option Entry → Option ℤ
amount_of None = None
amount_of (Some (Amount z)) = Some z
amount_of (Some (Flag b)) = None

-- an entry as a flag
abbrev pub flag_of : Option Entry → Option Bool
flag_of None = None
flag_of (Some (Amount z)) = None
flag_of (Some (Flag b)) = Some b

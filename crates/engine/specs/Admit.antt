-- What admit makes of a work area. Assumes nothing.
use Rattle.std.specs.Prelude.{◌≡◌, ℕ, ◌<◌, ◌≤◌, List, ◌∷◌, ◌++◌, map, length, drop, Ok, Err, Result, slice_index}
use Rattle.language.specs.declared.faults.Fault.{Fault}
use Rattle.language.specs.declared.values.ValueType.{ValueType}
use Rattle.language.specs.Numbers.{type_number}
use Rattle.image.specs.declared.instruction.Accepted.{Accepted}
use Rattle.machine.specs.declared.cells.Cell.{Cell}
use Rattle.rules.specs.Resolved.{Rules}
use Rattle.rules.specs.Translate.{image}
use Rattle.table.specs.declared.nodes.Node.{Node}
use Rattle.table.specs.Layout.{WithinLimits, layout}
use Rattle.table.specs.Tree.{Program}
use Rattle.table.specs.Answers.{Sized}
use Rattle.typing.specs.Limits.{WithinNames}
use Rattle.typing.specs.Rules.{IsTyped}
use Rattle.walk.specs.declared.codes.Instr.{Instr}
use Rattle.admission.specs.Judged.{Verdict, Judged}
use Rattle.engine.specs.declared.record.Stage.{Stage}
use Rattle.engine.specs.Calls.{Area, LeftArea, and_then, told, written}

-- the image of code that ends with this type: the number of codes, the number of the type, all codes, then all operands
abbrev pub image_of : ValueType → List Instr → List ℕ
image_of t code = length code ∷ type_number t ∷ (map (λ i. i.code) code ++ map (λ i. i.operand) code)

-- what is known of that image: code 0 is the program's entry, and its operand the number of the program's slots
abbrev pub known_of : ValueType → List Instr → Accepted
known_of t code = record { header = record { count = length code; result = t }; others = slice_index (map (λ i. i.operand) code) 0 }

-- admit a table with this verdict: one that is not refused has its image written at the buffer's start
abbrev pub admitting : Verdict → Area → Result Area Fault
admitting v a = and_then v (λ p. written (image_of p.0 p.1) a (known_of p.0 p.1))

-- how many words the image has
abbrev pub words_of : Verdict → ℕ
words_of (Ok p) = length (image_of p.0 p.1)
words_of (Err f) = 0

-- How admit answers, and leaves buffer, cells and record: by the verdict on its table
abbrev pub AdmitGave : List Node → Area → Result ℕ Fault → List ℕ → List Cell → Stage → Type 0
AdmitGave table old answer words cells stage =
    (v : Verdict) × Judged table v × (answer ≡ told (words_of v) (admitting v old)) × LeftArea (admitting v old) old words cells stage

-- a rule set that the typing rules give a type, within the limits, laid out by a table
pub record Typed (table : List Node) : Type 0 where
  pub program : Program
  pub result : ValueType
  pub rules : Rules
  pub sized : Sized table
  pub lays : layout program ≡ table
  pub limited : WithinLimits program
  pub named : WithinNames program
  pub typed : IsTyped program result rules

-- A table is admitted just when it lays out such a rule set and the buffer has room for its image; the answer is then the number of its words, which stand at the buffer's start
abbrev pub AdmitsJustTyped : List Node → List ℕ → Result ℕ Fault → List ℕ → Type 0
AdmitsJustTyped table before (Ok n) after =
    (r : Typed table) × (n ≡ length (image r.rules)) × (n ≤ length before) × (after ≡ image r.rules ++ drop n before)
AdmitsJustTyped table before (Err f) after = (r : Typed table) → length before < length (image r.rules)

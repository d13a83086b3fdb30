-- Why a run stops: for each cause its condition, on the instruction, the stack and the host where the run stopped. Assumes nothing.
use Rattle.std.specs.Prelude.{◌≡◌, ℕ, ◌+◌, ◌<◌, true, ◌⊎◌, List, ◌∷◌, length, ℤ, pos, ◌+ℤ◌, ◌-ℤ◌, ◌*ℤ◌, None, Ok, Err, int_div, int_lt}
use Rattle.language.specs.declared.faults.Halt.TheVariants.{Stopped}
use Rattle.language.specs.declared.faults.Stop.{Stop}
use Rattle.language.specs.declared.faults.Stop.TheVariants.{DivisorZero, OutOfRange, NoRoom, NoSuchNumber, NothingThere, PostingRefused}
use Rattle.language.specs.declared.values.Operator.{Operator}
use Rattle.language.specs.declared.values.Operator.TheVariants.{Multiply, Divide, Add, Subtract}
use Rattle.language.specs.Operators.{least, greatest}
use Rattle.host.specs.Meaning.{Meaning}
use Rattle.host.specs.Serves.{by_meaning, numbered}
use Rattle.image.specs.declared.instruction.Header.{Header}
use Rattle.image.specs.declared.instruction.Slot.{Slot}
use Rattle.image.specs.declared.instruction.Entry.{Entry}
use Rattle.image.specs.declared.instruction.Local.TheVariants.{PushNumber, PushTruth, Load, Operate, Open, Call}
use Rattle.image.specs.declared.instruction.Instruction.{Instruction}
use Rattle.image.specs.declared.instruction.Instruction.TheVariants.{Local, Amount, Flag, Post}
use Rattle.image.specs.Fetch.{fetched}
use Rattle.machine.specs.declared.cells.Cell.{Cell}
use Rattle.machine.specs.declared.cells.Cell.TheVariants.{Number}
use Rattle.stack.specs.Stack.{Stack, step}

-- the exact result of an operator that can leave the range of numbers
pub data Exact : Operator → ℤ → ℤ → ℤ → Type 0 where
  product : {a b : ℤ} → Exact Multiply a b (a *ℤ b)
  quotient : {a b : ℤ} → Exact Divide a b (int_div a b)
  sum : {a b : ℤ} → Exact Add a b (a +ℤ b)
  difference : {a b : ℤ} → Exact Subtract a b (a -ℤ b)

-- no number of the language
abbrev pub Outside : ℤ → Type 0
Outside z = (int_lt z least ≡ true) ⊎ (int_lt greatest z ≡ true)

-- how many cells more an instruction wants
pub data Wants : Instruction → ℕ → Type 0 where
  number : {z : ℤ} → Wants (Local (PushNumber z)) 1
  truth : {b : _} → Wants (Local (PushTruth b)) 1
  copy : {slot : Slot} → Wants (Local (Load slot)) 1
  links : {hops : ℕ} → Wants (Local (Open hops)) 4
  slots : {entry : Entry} → Wants (Local (Call entry)) entry.others

-- The condition of each cause. The stack has its top first
pub data Holds (m : Meaning) (limit : ℕ) : Instruction → List Cell → Stop → Type 0 where
  divisor_zero : {a : ℤ} {below : List Cell} → Holds m limit (Local (Operate Divide)) (Number (pos 0) ∷ Number a ∷ below) DivisorZero
  out_of_range : {o : Operator} {a b z : ℤ} {below : List Cell} → Exact o a b z → Outside z → Holds m limit (Local (Operate o)) (Number b ∷ Number a ∷ below) OutOfRange
  -- the top would pass the cells
  no_room : {i : Instruction} {n : ℕ} {cells : List Cell} → Wants i n → limit < length cells + n → Holds m limit i cells NoRoom
  -- a field or an account outside 0 to 255
  no_field : {z : ℤ} {below : List Cell} → numbered z ≡ Err (Stopped NoSuchNumber) → Holds m limit Amount (Number z ∷ below) NoSuchNumber
  no_flag_field : {z : ℤ} {below : List Cell} → numbered z ≡ Err (Stopped NoSuchNumber) → Holds m limit Flag (Number z ∷ below) NoSuchNumber
  no_account : {a v : ℤ} {below : List Cell} → numbered a ≡ Err (Stopped NoSuchNumber) → Holds m limit Post (Number v ∷ Number a ∷ below) NoSuchNumber
  -- none there
  no_amount : {field : ℕ} {z : ℤ} {below : List Cell} → numbered z ≡ Ok field → m.amount field ≡ None → Holds m limit Amount (Number z ∷ below) NothingThere
  no_flag : {field : ℕ} {z : ℤ} {below : List Cell} → numbered z ≡ Ok field → m.flag field ≡ None → Holds m limit Flag (Number z ∷ below) NothingThere
  -- the account is closed, or no line is left
  closed : {account : ℕ} {a v : ℤ} {below : List Cell} → numbered a ≡ Ok account → m.account account ≡ None → Holds m limit Post (Number v ∷ Number a ∷ below) PostingRefused
  no_line : {account : ℕ} {a v : ℤ} {below : List Cell} → numbered a ≡ Ok account → m.lines ≡ 0 → Holds m limit Post (Number v ∷ Number a ∷ below) PostingRefused

-- A step that stops stops for a cause whose condition holds, on the instruction, the stack and the host where it stopped
abbrev pub StoppedForACause : Type 0
StoppedForACause =
    (words : List ℕ) (header : Header) (limit : ℕ) (m : Meaning) (t : Stack) (c : Stop)
    → step by_meaning words header limit m t ≡ Err (Stopped c)
    → (i : Instruction) × (fetched words header t.counter ≡ Ok i) × Holds m limit i t.cells c

-- One step of the marked machine, and a run of so many. Assumes nothing.
use Rattle.std.specs.Prelude.{◌≡◌, ℕ, List, Some, None, Ok, Err, Option, Result}
use Rattle.language.specs.declared.faults.Halt.{Halt}
use Rattle.language.specs.declared.values.Value.{Value}
use Rattle.language.specs.declared.values.Value.TheVariants as vals
use Rattle.language.specs.declared.values.ValueType.{ValueType}
use Rattle.language.specs.declared.values.ValueType.TheVariants.{Void, Int, Bool}
use Rattle.host.specs.Meaning.{Meaning, asked, posting}
use Rattle.host.specs.Serves.{from_host, numbered}
use Rattle.image.specs.declared.instruction.Header.{Header}
use Rattle.image.specs.declared.instruction.Local.{Local}
use Rattle.image.specs.declared.instruction.Local.TheVariants.{PushNumber, PushTruth, Load, Store, Operate, Not, Discard, Jump, JumpIfFalse, Open, Call, Return, ReturnValue}
use Rattle.image.specs.declared.instruction.Instruction.{Instruction}
use Rattle.image.specs.declared.instruction.Instruction.TheVariants as instructions
use Rattle.image.specs.Fetch.{fetched}
use Rattle.machine.specs.declared.cells.Cell.{Cell}
use Rattle.machine.specs.declared.cells.Cell.TheVariants.{Number, Truth}
use Rattle.machine.specs.declared.frames.Frame.{Frame}
use Rattle.machine.specs.declared.registers.Machine.{Machine}
use Rattle.machine.specs.declared.registers.Flow.{Flow}
use Rattle.machine.specs.declared.registers.Flow.TheVariants.{Next, Ended}
use Rattle.machine.specs.Cells.{bind, value, number, numbers, wrong_mark}
use Rattle.machine.specs.Frames.{at, frame}
use Rattle.machine.specs.State.{State, Left, holds, under, pushed, loaded, stored, dropped, replaced, operated, turned, discarded, jumped, branched, opened, called, returned, returned_value}

-- an instruction that touches the machine and its cells alone
abbrev pub local : Local → Frame → State → Result State Halt
local (PushNumber z) f s = pushed (Number z) s
local (PushTruth b) f s = pushed (Truth b) s
local (Load slot) f s = loaded slot f s
local (Store slot) f s = stored slot f s
local (Operate o) f s = operated o f s
local Not f s = turned f s
local Discard f s = discarded f s
local (Jump target) f s = jumped target s
local (JumpIfFalse target) f s = branched target f s
local (Open hops) f s = opened hops f s
local (Call entry) f s = called entry f s
local Return f s = returned f s
local ReturnValue f s = returned_value f s

-- the field number on top
abbrev pub field_on_top : Frame → State → Result ℕ Halt
field_on_top f s = bind (holds f 1 s) (λ _. bind (number (under s 1)) (λ z. numbered z))

-- take a field number, push what is answered to it
abbrev pub asked_for : (ℕ → Result Value Halt) → Frame → State → Result State Halt
asked_for gives f s = bind (field_on_top f s) (λ field. bind (gives field) (λ v. Ok (replaced 1 v s)))

-- take a field number, push the amount
abbrev pub amount_asked : Meaning → Frame → State → Result State Halt
amount_asked m f s =
    bind (field_on_top f s) (λ field. bind (from_host (asked (m.amount field))) (λ z. Ok (replaced 1 (vals.Number z) s)))

-- take a field number, push the flag
abbrev pub flag_asked : Meaning → Frame → State → Result State Halt
flag_asked m f s =
    bind (field_on_top f s) (λ field. bind (from_host (asked (m.flag field))) (λ b. Ok (replaced 1 (vals.Truth b) s)))

-- take a value, then an account, and post
abbrev pub posted : Meaning → Frame → State → Result (State × Meaning) Halt
posted m f s =
    bind (holds f 2 s)
    (λ _. bind (numbers (under s 2) (under s 1))
    (λ p. bind (numbered p.0)
    (λ account. bind (from_host (posting m account p.1)) (λ after. Ok (dropped 2 s, after)))))

-- a run may end with nothing where the image's type is void
abbrev pub ends_void : ValueType → Result (Unit {0}) Halt
ends_void Void = Ok tt
ends_void Int = wrong_mark
ends_void Bool = wrong_mark

-- and with a value of the image's type elsewhere
abbrev pub ends_with : ValueType → Value → Result Value Halt
ends_with Void v = wrong_mark
ends_with Int (vals.Number z) = Ok (vals.Number z)
ends_with Int (vals.Truth b) = wrong_mark
ends_with Bool (vals.Number z) = wrong_mark
ends_with Bool (vals.Truth b) = Ok (vals.Truth b)

-- the value that a run ends with
abbrev pub end_value : ValueType → Frame → State → Result Value Halt
end_value t f s = bind (holds f 1 s) (λ _. bind (value (under s 1)) (λ v. ends_with t v))

-- where a step leads: to the next state and host, or to the end of the run
pub data Went : Type 0 where
  next : State → Meaning → Went
  ended : Option Value → Went

-- carry out an instruction, from the own frame
abbrev pub carried : Instruction → ValueType → Frame → Meaning → State → Result Went Halt
carried (instructions.Local l) t f m s = bind (local l f s) (λ s'. Ok (next s' m))
carried instructions.Amount t f m s = bind (amount_asked m f s) (λ s'. Ok (next s' m))
carried instructions.Flag t f m s = bind (flag_asked m f s) (λ s'. Ok (next s' m))
carried instructions.Post t f m s = bind (posted m f s) (λ p. Ok (next p.0 p.1))
carried instructions.End t f m s = bind (ends_void t) (λ _. Ok (ended None))
carried instructions.EndValue t f m s = bind (end_value t f s) (λ v. Ok (ended (Some v)))

-- one step: a lawful instruction, in a frame below the top
abbrev pub stepped : List ℕ → Header → Meaning → State → Result Went Halt
stepped words header m s =
    bind (fetched words header s.counter) (λ i. bind (frame (at s.cells) s.base s.top) (λ f. carried i header.result f m s))

-- How a posting that came out so leaves machine, cells and host
abbrev pub LeftPosted : Result (State × Meaning) Halt → Result Flow Halt → State → Meaning → Machine → List Cell → Meaning → Type 0
LeftPosted (Ok p) r old before m cells after = Left (Ok p.0) r old m cells × (after ≡ p.1)
LeftPosted (Err h) r old before m cells after = Left (Err h) r old m cells × (after ≡ before)

-- the code's machine and cells are those of a state
abbrev pub Stands : State → Machine → List Cell → Type 0
Stands s m cells = (m.counter ≡ s.counter) × (m.base ≡ s.base) × (m.top ≡ s.top) × (cells ≡ s.cells)

-- How a step that came out so leaves machine, cells and host: only one that goes on changes anything
abbrev pub LeftStep : Result Went Halt → Result Flow Halt → State → Meaning → Machine → List Cell → Meaning → Type 0
LeftStep (Ok (next s after)) r old before m cells meaning = (r ≡ Ok Next) × Stands s m cells × (meaning ≡ after)
LeftStep (Ok (ended v)) r old before m cells meaning = (r ≡ Ok (Ended v)) × Stands old m cells × (meaning ≡ before)
LeftStep (Err h) r old before m cells meaning = (r ≡ Err h) × Stands old m cells × (meaning ≡ before)

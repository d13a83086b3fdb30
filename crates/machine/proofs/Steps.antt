-- A question to the host and a posting are steps. Assumes nothing.
use Rattle.std.proofs.Common.{◌≡◌, ℕ, List, Ok, Err, Result, refl, sym, subst}
use Rattle.language.specs.declared.faults.Halt.{Halt}
use Rattle.language.specs.declared.values.Value.{Value}
use Rattle.language.specs.declared.values.Value.TheVariants as vals
use Rattle.language.specs.declared.values.ValueType.{ValueType}
use Rattle.host.specs.Meaning.{Meaning, asked}
use Rattle.host.specs.Serves.{from_host}
use Rattle.image.specs.declared.instruction.Instruction.{Instruction}
use Rattle.image.specs.declared.instruction.Instruction.TheVariants.{Amount, Flag}
use Rattle.machine.specs.declared.cells.Cell.{Cell}
use Rattle.machine.specs.declared.frames.Frame.{Frame}
use Rattle.machine.specs.declared.registers.Machine.{Machine}
use Rattle.machine.specs.declared.registers.Flow.{Flow}
use Rattle.machine.specs.Cells.{bind}
use Rattle.machine.specs.State.{State, Left, replaced}
use Rattle.machine.specs.Step.{LeftStep, field_on_top, asked_for, amount_asked, flag_asked, carried, next}

-- what is answered, put into a value, and then used is what is answered and used so
bind-in : {A B C : Type 0} (r : Result A Halt) (g : A → B) (h : B → Result C Halt) → bind (bind r (λ a. Ok (g a))) h ≡ bind r (λ a. h (g a))
bind-in (Ok a) g h = refl
bind-in (Err x) g h = refl

-- a host's answers as values
abbrev pub amounts : Meaning → ℕ → Result Value Halt
amounts m field = bind (from_host (asked (m.amount field))) (λ z. Ok (vals.Number z))

abbrev pub flags : Meaning → ℕ → Result Value Halt
flags m field = bind (from_host (asked (m.flag field))) (λ b. Ok (vals.Truth b))

amount-is : (m : Meaning) (f : Frame) (s : State) → asked_for (amounts m) f s ≡ amount_asked m f s
amount-is m f s =
    λ i. bind (field_on_top f s) (λ field. bind-in (from_host (asked (m.amount field))) vals.Number (λ v. Ok (replaced 1 v s)) i)

flag-is : (m : Meaning) (f : Frame) (s : State) → asked_for (flags m) f s ≡ flag_asked m f s
flag-is m f s =
    λ i. bind (field_on_top f s) (λ field. bind-in (from_host (asked (m.flag field))) vals.Truth (λ v. Ok (replaced 1 v s)) i)

module _ (r : Result Flow Halt) (old : State) (before : Meaning) (m : Machine) (cells : List Cell) where
  left-local : (p : Result State Halt) → Left p r old m cells → LeftStep (bind p (λ s. Ok (next s before))) r old before m cells before
  left-local (Ok s) h = (h.0, (h.1, h.2, h.3, h.4), refl)
  left-local (Err x) h = (h.0, (h.1, h.2, h.3, h.4), refl)

  -- what a question leaves is what the step leaves
  pub amount-step : (i : Instruction) (t : ValueType) (f : Frame) → i ≡ Amount → Left (asked_for (amounts before) f old) r old m cells → LeftStep (carried i t f before old) r old before m cells before
  amount-step i t f e h =
      subst (λ x. LeftStep (carried x t f before old) r old before m cells before) (sym e)
      (left-local (amount_asked before f old) (subst (λ p. Left p r old m cells) (amount-is before f old) h))

  pub flag-step : (i : Instruction) (t : ValueType) (f : Frame) → i ≡ Flag → Left (asked_for (flags before) f old) r old m cells → LeftStep (carried i t f before old) r old before m cells before
  flag-step i t f e h =
      subst (λ x. LeftStep (carried x t f before old) r old before m cells before) (sym e)
      (left-local (flag_asked before f old) (subst (λ p. Left p r old m cells) (flag-is before f old) h))

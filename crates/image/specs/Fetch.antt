-- Which instruction stands at a code's number, where a lawful one does. Assumes nothing.
use Rattle.std.specs.Prelude.{ℕ, ◌+◌, ◌/◌, ◌%◌, true, false, cond, List, pos, Ok, Err, Result, ◌==◌, nat_le, nat_lt, slice_index}
use Rattle.language.specs.declared.faults.Halt.{Halt}
use Rattle.language.specs.declared.faults.Halt.TheVariants.{Troubled}
use Rattle.language.specs.declared.faults.Trouble.TheVariants.{Unlawful}
use Rattle.language.specs.declared.values.Operator.TheVariants.{Multiply, Divide, Add, Subtract, Less, LessOrEqual, Greater, GreaterOrEqual, Equal, And, Or}
use Rattle.image.specs.declared.instruction.Header.{Header}
use Rattle.image.specs.declared.instruction.Slot.{Slot}
use Rattle.image.specs.declared.instruction.Entry.{Entry}
use Rattle.image.specs.declared.instruction.Local.{Local}
use Rattle.image.specs.declared.instruction.Local.TheVariants.{PushNumber, PushTruth, Load, Store, Operate, Not, Discard, Jump, JumpIfFalse, Open, Call, Return, ReturnValue}
use Rattle.image.specs.declared.instruction.Instruction.{Instruction}
use Rattle.image.specs.declared.instruction.Instruction.TheVariants as instructions

-- the code and the operand that have a number: after the header's two words all codes, then all operands
abbrev pub code : List ℕ → ℕ → ℕ
code words at = slice_index words (2 + at)

abbrev pub operand : List ℕ → Header → ℕ → ℕ
operand words header at = slice_index words (2 + header.count + at)

abbrev pub unlawful : {A : Type 0} → Result A Halt
unlawful = Err (Troubled Unlawful)

-- an instruction whose operand must be 0
abbrev pub bare : ℕ → Instruction → Result Instruction Halt
bare x i = cond (x == 0) (Ok i) unlawful

-- an instruction that is one of two, by an operand 0 or 1
abbrev pub either : ℕ → Instruction → Instruction → Result Instruction Halt
either x i j = cond (x == 0) (Ok i) (cond (x == 1) (Ok j) unlawful)

-- a number to 2,147,483,647
abbrev pub literal : ℕ → Result Instruction Halt
literal x = cond (nat_le x 2147483647) (Ok (instructions.Local (PushNumber (pos x)))) unlawful

-- 256 times the hops, plus the slot
abbrev pub slot : ℕ → Slot
slot x = record { hops = x / 256; index = x % 256 }

-- a jump's target is below the number of codes
abbrev pub target : Header → ℕ → Instruction → Result Instruction Halt
target header x i = cond (nat_lt x header.count) (Ok i) unlawful

-- 256 times the parameters, plus the other slots
abbrev pub entry : ℕ → ℕ → Entry
entry at x = record { start = at + 1; parameters = x / 256; others = x % 256 }

-- a call's target is an entry, code 22, below the number of codes
abbrev pub call : List ℕ → Header → ℕ → Result Instruction Halt
call words header x =
    cond (nat_lt x header.count) (cond (code words x == 22) (Ok (instructions.Local (Call (entry x (operand words header x))))) unlawful) unlawful

abbrev pub operation : ℕ → Local → Result Instruction Halt
operation x l = bare x (instructions.Local l)

-- an operator, codes 5 to 15
abbrev pub operator : ℕ → ℕ → Result Instruction Halt
operator c x =
    cond (c == 5) (operation x (Operate Multiply))
    (cond (c == 6) (operation x (Operate Divide))
    (cond (c == 7) (operation x (Operate Add))
    (cond (c == 8) (operation x (Operate Subtract))
    (cond (c == 9) (operation x (Operate Less))
    (cond (c == 10) (operation x (Operate LessOrEqual))
    (cond (c == 11) (operation x (Operate Greater))
    (cond (c == 12) (operation x (Operate GreaterOrEqual))
    (cond (c == 13) (operation x (Operate Equal))
    (cond (c == 14) (operation x (Operate And))
    (cond (c == 15) (operation x (Operate Or))
    unlawful))))))))))

-- code c with operand x; 22 is an entry, which only a call goes past
abbrev pub decoded : List ℕ → Header → ℕ → ℕ → Result Instruction Halt
decoded words header c x =
    cond (c == 1) (literal x)
    (cond (c == 2) (either x (instructions.Local (PushTruth false)) (instructions.Local (PushTruth true)))
    (cond (c == 3) (Ok (instructions.Local (Load (slot x))))
    (cond (c == 4) (Ok (instructions.Local (Store (slot x))))
    (cond (c == 16) (operation x Not)
    (cond (c == 17) (operation x Discard)
    (cond (c == 18) (target header x (instructions.Local (Jump x)))
    (cond (c == 19) (target header x (instructions.Local (JumpIfFalse x)))
    (cond (c == 20) (Ok (instructions.Local (Open x)))
    (cond (c == 21) (call words header x)
    (cond (c == 23) (either x (instructions.Local Return) (instructions.Local ReturnValue))
    (cond (c == 24) (bare x instructions.Amount)
    (cond (c == 25) (bare x instructions.Flag)
    (cond (c == 26) (bare x instructions.Post)
    (cond (c == 27) (either x instructions.End instructions.EndValue)
    (operator c x)))))))))))))))

-- the instruction at a program counter
abbrev pub fetched : List ℕ → Header → ℕ → Result Instruction Halt
fetched words header at =
    cond (nat_lt at header.count) (decoded words header (code words at) (operand words header at)) unlawful

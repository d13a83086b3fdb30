-- The name of each code, for people. Assumes nothing.
use Rattle.std.specs.Prelude.{List, ℕ, codes, Some, None, Option}
use Rattle.language.specs.declared.opcodes.Opcode.{Opcode}
use Rattle.language.specs.declared.opcodes.Opcode.TheVariants.{PushNumber, PushTruth, Load, Store, Operate, Not, Discard, Jump, JumpIfFalse, OpenLinks, Call, Entry, Return, Amount, Flag, Post, End}
use Rattle.language.specs.declared.values.Operator.{Operator}
use Rattle.language.specs.declared.values.Operator.TheVariants.{Multiply, Divide, Add, Subtract, Less, LessOrEqual, Greater, GreaterOrEqual, Equal, And, Or}
use Rattle.language.specs.Numbers.{opcode_at}

-- the name of an operator
abbrev pub operator_name : Operator → List ℕ
operator_name Multiply = codes "multiply"
operator_name Divide = codes "divide"
operator_name Add = codes "add"
operator_name Subtract = codes "subtract"
operator_name Less = codes "less"
operator_name LessOrEqual = codes "less or equal"
operator_name Greater = codes "greater"
operator_name GreaterOrEqual = codes "greater or equal"
operator_name Equal = codes "equal"
operator_name And = codes "and"
operator_name Or = codes "or"

-- the name of a code
abbrev pub name : Opcode → List ℕ
name PushNumber = codes "push number"
name PushTruth = codes "push truth"
name Load = codes "load"
name Store = codes "store"
name (Operate o) = operator_name o
name Not = codes "not"
name Discard = codes "discard"
name Jump = codes "jump"
name JumpIfFalse = codes "jump if false"
name OpenLinks = codes "open links"
name Call = codes "call"
name Entry = codes "entry"
name Return = codes "return"
name Amount = codes "amount"
name Flag = codes "flag"
name Post = codes "post"
name End = codes "end"

-- the name of the code that a number stands for
abbrev pub named : Option Opcode → List ℕ
named (Some o) = name o
named None = codes "no code"

abbrev pub name_of : ℕ → List ℕ
name_of code = named (opcode_at code)

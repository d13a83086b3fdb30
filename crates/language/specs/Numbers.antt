-- The numbers of types, operators and causes, and the layer of every cause. Assumes nothing.
use Rattle.std.specs.Prelude.{ℕ, ◌+◌, cond, Some, None, Option, ◌==◌}
use Rattle.language.specs.declared.values.ValueType.{ValueType}
use Rattle.language.specs.declared.values.ValueType.TheVariants.{Void, Int, Bool}
use Rattle.language.specs.declared.values.Operator.{Operator}
use Rattle.language.specs.declared.values.Operator.TheVariants.{Multiply, Divide, Add, Subtract, Less, LessOrEqual, Greater, GreaterOrEqual, Equal, And, Or}
use Rattle.language.specs.declared.opcodes.Opcode.{Opcode}
use Rattle.language.specs.declared.opcodes.Opcode.TheVariants.{PushNumber, PushTruth, Load, Store, Operate, Not, Discard, Jump, JumpIfFalse, OpenLinks, Call, Entry, Return, Amount, Flag, Post, End}
use Rattle.language.specs.declared.faults.Trouble.{Trouble}
use Rattle.language.specs.declared.faults.Trouble.TheVariants.{Unlawful, Unset, WrongMark, NoFrame}
use Rattle.language.specs.declared.faults.Stop.{Stop}
use Rattle.language.specs.declared.faults.Stop.TheVariants.{DivisorZero, OutOfRange, NoRoom, NoSuchNumber, NothingThere, PostingRefused}
use Rattle.language.specs.declared.faults.Halt.{Halt}
use Rattle.language.specs.declared.faults.Halt.TheVariants.{Troubled, Stopped}
use Rattle.language.specs.declared.faults.WalkRefusal.{WalkRefusal}
use Rattle.language.specs.declared.faults.WalkRefusal.TheVariants.{DeclaredTwice, Undeclared, WrongKind, WrongType, WrongCount, NotSet, TooManyNames, TooDeep}
use Rattle.language.specs.declared.faults.BeginRefusal.{BeginRefusal}
use Rattle.language.specs.declared.faults.BeginRefusal.TheVariants as begins
use Rattle.language.specs.declared.faults.ContinueRefusal.{ContinueRefusal}
use Rattle.language.specs.declared.faults.ContinueRefusal.TheVariants as continues
use Rattle.language.specs.declared.faults.HostRefusal.{HostRefusal}
use Rattle.language.specs.declared.faults.HostRefusal.TheVariants.{OtherRecord, Limits, Row}
use Rattle.language.specs.declared.faults.Cause.{Cause}
use Rattle.language.specs.declared.faults.Cause.TheVariants as causes
use Rattle.language.specs.declared.faults.Layer.{Layer}
use Rattle.language.specs.declared.faults.Layer.TheVariants as layers

-- what no admitted rule set meets
abbrev pub trouble_number : Trouble → ℕ
trouble_number Unlawful = 51
trouble_number Unset = 52
trouble_number WrongMark = 53
trouble_number NoFrame = 54

-- what ends a run for a cause
abbrev pub stop_number : Stop → ℕ
stop_number DivisorZero = 41
stop_number OutOfRange = 42
stop_number NoRoom = 43
stop_number NoSuchNumber = 44
stop_number NothingThere = 45
stop_number PostingRefused = 46

abbrev pub halt_number : Halt → ℕ
halt_number (Troubled t) = trouble_number t
halt_number (Stopped s) = stop_number s

abbrev pub walk_number : WalkRefusal → ℕ
walk_number DeclaredTwice = 12
walk_number Undeclared = 13
walk_number WrongKind = 14
walk_number WrongType = 15
walk_number WrongCount = 16
walk_number NotSet = 17
walk_number TooManyNames = 18
walk_number TooDeep = 19

abbrev pub begin_number : BeginRefusal → ℕ
begin_number begins.Blank = 31
begin_number begins.OtherLengths = 36
begin_number begins.CellCount = 32

abbrev pub continue_number : ContinueRefusal → ℕ
continue_number continues.NotBegun = 34
continue_number continues.OtherLengths = 36
continue_number continues.Allowance = 35

abbrev pub host_number : HostRefusal → ℕ
host_number OtherRecord = 61
host_number Limits = 62
host_number Row = 63

-- the number of every cause
abbrev pub number_of : Cause → ℕ
number_of causes.Table = 11
number_of (causes.Walk r) = walk_number r
number_of causes.Buffer = 20
number_of causes.Bring = 33
number_of (causes.Begin r) = begin_number r
number_of (causes.Continue r) = continue_number r
number_of (causes.Step h) = halt_number h
number_of (causes.Host r) = host_number r

-- the layer that finds it
abbrev pub layer_of : Cause → Layer
layer_of causes.Table = layers.Table
layer_of (causes.Walk r) = layers.Walk
layer_of causes.Buffer = layers.Buffer
layer_of causes.Bring = layers.Bring
layer_of (causes.Begin r) = layers.Begin
layer_of (causes.Continue r) = layers.Continue
layer_of (causes.Step h) = layers.Step
layer_of (causes.Host r) = layers.Host

-- the number that stands for a type in a table or an image
abbrev pub type_number : ValueType → ℕ
type_number Void = 0
type_number Int = 1
type_number Bool = 2

-- the type that a number stands for
abbrev pub type_at : ℕ → Option ValueType
type_at n = cond (n == 0) (Some Void) (cond (n == 1) (Some Int) (cond (n == 2) (Some Bool) None))

-- the number that stands for an operator in a table; its code in an image is four more
abbrev pub operator_number : Operator → ℕ
operator_number Multiply = 1
operator_number Divide = 2
operator_number Add = 3
operator_number Subtract = 4
operator_number Less = 5
operator_number LessOrEqual = 6
operator_number Greater = 7
operator_number GreaterOrEqual = 8
operator_number Equal = 9
operator_number And = 10
operator_number Or = 11

-- the operator that a number stands for
abbrev pub operator_at : ℕ → Option Operator
operator_at n =
    cond (n == 1) (Some Multiply)
    (cond (n == 2) (Some Divide)
    (cond (n == 3) (Some Add)
    (cond (n == 4) (Some Subtract)
    (cond (n == 5) (Some Less)
    (cond (n == 6) (Some LessOrEqual)
    (cond (n == 7) (Some Greater)
    (cond (n == 8) (Some GreaterOrEqual)
    (cond (n == 9) (Some Equal)
    (cond (n == 10) (Some And)
    (cond (n == 11) (Some Or) None))))))))))

-- the number that stands for the code of an instruction in an image
abbrev pub opcode_number : Opcode → ℕ
opcode_number PushNumber = 1
opcode_number PushTruth = 2
opcode_number Load = 3
opcode_number Store = 4
opcode_number (Operate o) = 4 + operator_number o
opcode_number Not = 16
opcode_number Discard = 17
opcode_number Jump = 18
opcode_number JumpIfFalse = 19
opcode_number OpenLinks = 20
opcode_number Call = 21
opcode_number Entry = 22
opcode_number Return = 23
opcode_number Amount = 24
opcode_number Flag = 25
opcode_number Post = 26
opcode_number End = 27

-- the code that a number stands for
abbrev pub opcode_at : ℕ → Option Opcode
opcode_at n =
    cond (n == 1) (Some PushNumber)
    (cond (n == 2) (Some PushTruth)
    (cond (n == 3) (Some Load)
    (cond (n == 4) (Some Store)
    (cond (n == 5) (Some (Operate Multiply))
    (cond (n == 6) (Some (Operate Divide))
    (cond (n == 7) (Some (Operate Add))
    (cond (n == 8) (Some (Operate Subtract))
    (cond (n == 9) (Some (Operate Less))
    (cond (n == 10) (Some (Operate LessOrEqual))
    (cond (n == 11) (Some (Operate Greater))
    (cond (n == 12) (Some (Operate GreaterOrEqual))
    (cond (n == 13) (Some (Operate Equal))
    (cond (n == 14) (Some (Operate And))
    (cond (n == 15) (Some (Operate Or))
    (cond (n == 16) (Some Not)
    (cond (n == 17) (Some Discard)
    (cond (n == 18) (Some Jump)
    (cond (n == 19) (Some JumpIfFalse)
    (cond (n == 20) (Some OpenLinks)
    (cond (n == 21) (Some Call)
    (cond (n == 22) (Some Entry)
    (cond (n == 23) (Some Return)
    (cond (n == 24) (Some Amount)
    (cond (n == 25) (Some Flag)
    (cond (n == 26) (Some Post)
    (cond (n == 27) (Some End) None))))))))))))))))))))))))))

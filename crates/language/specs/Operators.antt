-- What the operators give. Assumes nothing.
use Rattle.std.specs.Prelude.{Bool, true, false, cond, not, ℤ, pos, negsuc, ◌+ℤ◌, ◌-ℤ◌, ◌*ℤ◌, Ok, Err, Result, ◌==◌, int_div, int_le, int_lt}
use Rattle.language.specs.declared.values.Value.{Value}
use Rattle.language.specs.declared.values.Value.TheVariants.{Number, Truth}
use Rattle.language.specs.declared.values.Operator.{Operator}
use Rattle.language.specs.declared.values.Operator.TheVariants.{Multiply, Divide, Add, Subtract, Less, LessOrEqual, Greater, GreaterOrEqual, Equal, And, Or}
use Rattle.language.specs.declared.faults.Trouble.TheVariants.{WrongMark}
use Rattle.language.specs.declared.faults.Stop.{Stop}
use Rattle.language.specs.declared.faults.Stop.TheVariants.{DivisorZero, OutOfRange}
use Rattle.language.specs.declared.faults.Halt.{Halt}
use Rattle.language.specs.declared.faults.Halt.TheVariants.{Troubled, Stopped}

-- the least and the greatest number of the language
abbrev pub least : ℤ
least = negsuc 2_147_483_647

abbrev pub greatest : ℤ
greatest = pos 2_147_483_647

-- a result is refused where it is no number of the language
abbrev pub in_range : ℤ → Result ℤ Stop
in_range z = cond (int_lt z least) (Err OutOfRange) (cond (int_lt greatest z) (Err OutOfRange) (Ok z))

abbrev pub eq_z : ℤ → ℤ → Bool
eq_z (pos a) (pos b) = a == b
eq_z (pos a) (negsuc b) = false
eq_z (negsuc a) (pos b) = false
eq_z (negsuc a) (negsuc b) = a == b

-- a quotient drops its fraction toward zero
abbrev pub quotient : ℤ → ℤ → Result ℤ Stop
quotient a b = cond (eq_z b (pos 0)) (Err DivisorZero) (in_range (int_div a b))

-- a number, or the cause why there is none
abbrev pub number : Result ℤ Stop → Result Value Halt
number (Ok z) = Ok (Number z)
number (Err s) = Err (Stopped s)

-- a truth value
abbrev pub truth : Bool → Result Value Halt
truth b = Ok (Truth b)

-- operands of another type than the operator takes
abbrev pub mismatched : Result Value Halt
mismatched = Err (Troubled WrongMark)

-- an operator on two numbers
abbrev pub on_numbers : Operator → ℤ → ℤ → Result Value Halt
on_numbers Multiply a b = number (in_range (a *ℤ b))
on_numbers Divide a b = number (quotient a b)
on_numbers Add a b = number (in_range (a +ℤ b))
on_numbers Subtract a b = number (in_range (a -ℤ b))
on_numbers Less a b = truth (int_lt a b)
on_numbers LessOrEqual a b = truth (int_le a b)
on_numbers Greater a b = truth (int_lt b a)
on_numbers GreaterOrEqual a b = truth (int_le b a)
on_numbers Equal a b = truth (eq_z a b)
on_numbers And a b = mismatched
on_numbers Or a b = mismatched

-- an operator on two truth values
abbrev pub on_truths : Operator → Bool → Bool → Result Value Halt
on_truths Multiply a b = mismatched
on_truths Divide a b = mismatched
on_truths Add a b = mismatched
on_truths Subtract a b = mismatched
on_truths Less a b = mismatched
on_truths LessOrEqual a b = mismatched
on_truths Greater a b = mismatched
on_truths GreaterOrEqual a b = mismatched
on_truths Equal a b = truth (cond a b (not b))
on_truths And a b = truth (cond a b false)
on_truths Or a b = truth (cond a true b)

-- an operator on two values, the left one first
abbrev pub applied : Operator → Value → Value → Result Value Halt
applied o (Number a) (Number b) = on_numbers o a b
applied o (Number a) (Truth b) = mismatched
applied o (Truth a) (Number b) = mismatched
applied o (Truth a) (Truth b) = on_truths o a b

-- not, of a value
abbrev pub negated : Value → Result Value Halt
negated (Number a) = mismatched
negated (Truth a) = truth (not a)

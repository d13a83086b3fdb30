-- The types that operators, conditions, choices and calls want and have. Assumes nothing.
use Rattle.std.specs.Prelude.{ℕ, Bool, true, false, cond, ◌&&◌, ◌||◌, List, [], ◌∷◌, Ok, Err, Result, ◌==◌}
use Rattle.language.specs.declared.faults.Fault.{Fault}
use Rattle.language.specs.declared.faults.WalkRefusal.TheVariants.{WrongType, WrongCount}
use Rattle.language.specs.declared.values.ValueType.{ValueType}
use Rattle.language.specs.declared.values.ValueType.TheVariants.{Int, Bool as Truths}
use Rattle.language.specs.declared.values.Operator.{Operator}
use Rattle.language.specs.declared.values.Operator.TheVariants.{Multiply, Divide, Add, Subtract, Less, LessOrEqual, Greater, GreaterOrEqual, Equal, And, Or}
use Rattle.language.specs.Numbers.{type_number}
use Rattle.walk.specs.Bind.{refusal}

-- two types are one
abbrev pub same_type : ValueType → ValueType → Bool
same_type a b = type_number a == type_number b

-- an answer, where a type is right
abbrev pub typed : {A : Type 0} → ℕ → Bool → A → Result A Fault
typed p right a = cond right (Ok a) (Err (refusal p WrongType))

-- both operands have a type
abbrev pub twice : ValueType → ValueType → ValueType → Bool
twice t a b = same_type a t && same_type b t

-- whether an operator takes operands of these types
abbrev pub takes : Operator → ValueType → ValueType → Bool
takes Multiply a b = twice Int a b
takes Divide a b = twice Int a b
takes Add a b = twice Int a b
takes Subtract a b = twice Int a b
takes Less a b = twice Int a b
takes LessOrEqual a b = twice Int a b
takes Greater a b = twice Int a b
takes GreaterOrEqual a b = twice Int a b
takes Equal a b = twice Int a b || twice Truths a b
takes And a b = twice Truths a b
takes Or a b = twice Truths a b

-- the type of its result
abbrev pub makes : Operator → ValueType
makes Multiply = Int
makes Divide = Int
makes Add = Int
makes Subtract = Int
makes Less = Truths
makes LessOrEqual = Truths
makes Greater = Truths
makes GreaterOrEqual = Truths
makes Equal = Truths
makes And = Truths
makes Or = Truths

abbrev pub operation_type : ℕ → Operator → ValueType → ValueType → Result ValueType Fault
operation_type p o a b = typed p (takes o a b) (makes o)

-- not takes a truth value and gives one
abbrev pub negation_type : ℕ → ValueType → Result ValueType Fault
negation_type p t = typed p (same_type t Truths) Truths

-- an if with a value: the condition is a truth value, and both value blocks have one type
abbrev pub choice_type : ℕ → ValueType → ValueType → ValueType → Result ValueType Fault
choice_type p c a b = typed p (same_type c Truths && same_type a b) a

-- how the arguments so far went with the parameters: those still to come, whether there was an argument too many, whether all types were right
pub record Tallied : Type 0 where
  pub left : List ValueType
  pub surplus : Bool
  pub matched : Bool

abbrev pub tallied : List ValueType → Bool → Bool → Tallied
tallied qs s m = record { left = qs; surplus = s; matched = m }

-- one more argument, with its type
abbrev pub against : List ValueType → Bool → Bool → ValueType → Tallied
against [] s m t = tallied [] true m
against (q ∷ qs) s m t = tallied qs s (m && same_type q t)

abbrev pub one_more : Tallied → ValueType → Tallied
one_more y t = against y.left y.surplus y.matched t

abbrev pub some_left : List ValueType → Bool
some_left [] = false
some_left (q ∷ qs) = true

-- after the last argument: first their number, then their types
abbrev pub judged : ℕ → Tallied → ValueType → Result ValueType Fault
judged p y t = cond (y.surplus || some_left y.left) (Err (refusal p WrongCount)) (typed p y.matched t)

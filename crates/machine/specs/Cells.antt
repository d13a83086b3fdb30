-- What may be taken from a cell, and what it is in trouble for. Assumes nothing.
use Rattle.std.specs.Prelude.{ℕ, zero, suc, Bool, ℤ, Ok, Err, Result}
use Rattle.language.specs.declared.faults.Halt.{Halt}
use Rattle.language.specs.declared.faults.Halt.TheVariants.{Troubled}
use Rattle.language.specs.declared.faults.Trouble.TheVariants as troubles
use Rattle.language.specs.declared.values.Value.{Value}
use Rattle.language.specs.declared.values.Value.TheVariants as vals
use Rattle.machine.specs.declared.cells.Cell.{Cell}
use Rattle.machine.specs.declared.cells.Cell.TheVariants.{Unset, Number, Truth, Link}

abbrev pub no_frame : {A : Type 0} → Result A Halt
no_frame = Err (Troubled troubles.NoFrame)

abbrev pub unset : {A : Type 0} → Result A Halt
unset = Err (Troubled troubles.Unset)

abbrev pub wrong_mark : {A : Type 0} → Result A Halt
wrong_mark = Err (Troubled troubles.WrongMark)

-- one thing after another: the first that halts is the answer
abbrev pub bind : {A B : Type 0} → Result A Halt → (A → Result B Halt) → Result B Halt
bind (Ok a) f = f a
bind (Err h) f = Err h

-- so many times over, each on from what the one before gave
abbrev pub times : {A : Type 0} → ℕ → (A → Result A Halt) → A → Result A Halt
times zero f a = Ok a
times (suc n) f a = bind (f a) (times n f)

-- the cell that holds a value
abbrev pub cell_of : Value → Cell
cell_of (vals.Number z) = Number z
cell_of (vals.Truth b) = Truth b

-- a link's number, where links are looked for
abbrev pub link : Cell → Result ℕ Halt
link Unset = no_frame
link (Number z) = no_frame
link (Truth b) = no_frame
link (Link n) = Ok n

-- what is taken must be set
abbrev pub present : Cell → Result (Unit {0}) Halt
present Unset = unset
present (Number z) = Ok tt
present (Truth b) = Ok tt
present (Link n) = Ok tt

-- what is taken is a number or a truth value
abbrev pub value : Cell → Result Value Halt
value Unset = unset
value (Number z) = Ok (vals.Number z)
value (Truth b) = Ok (vals.Truth b)
value (Link n) = wrong_mark

-- a number
abbrev pub number : Cell → Result ℤ Halt
number Unset = unset
number (Number z) = Ok z
number (Truth b) = wrong_mark
number (Link n) = wrong_mark

-- a truth value
abbrev pub truth : Cell → Result Bool Halt
truth Unset = unset
truth (Number z) = wrong_mark
truth (Truth b) = Ok b
truth (Link n) = wrong_mark

-- two values taken at once: all that is taken is set, before any mark is looked at
abbrev pub values : Cell → Cell → Result (Value × Value) Halt
values left right = bind (present left) (λ _. bind (present right) (λ _. bind (value left) (λ a. bind (value right) (λ b. Ok (a, b)))))

-- two numbers taken at once
abbrev pub numbers : Cell → Cell → Result (ℤ × ℤ) Halt
numbers left right = bind (present left) (λ _. bind (present right) (λ _. bind (number left) (λ a. bind (number right) (λ b. Ok (a, b)))))

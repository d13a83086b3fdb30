-- Which rows of words are images, and what is known of them. Assumes nothing.
use Rattle.std.specs.Prelude.{ℕ, ◌+◌, ◌*◌, cond, List, length, Some, None, Ok, Err, Option, Result, ◌==◌, nat_le, slice_index}
use Rattle.language.specs.declared.faults.Fault.{Fault}
use Rattle.language.specs.declared.faults.Cause.TheVariants.{Bring}
use Rattle.language.specs.declared.values.ValueType.{ValueType}
use Rattle.language.specs.Numbers.{type_at}
use Rattle.image.specs.declared.instruction.Accepted.{Accepted}

-- no image
abbrev pub foreign : Result Accepted Fault
foreign = Err (record { cause = Bring; place = 0 })

-- code 0 is an entry with no parameters, whose operand is the number of the program's slots
abbrev pub entered : List ℕ → ValueType → Result Accepted Fault
entered words result =
    cond (slice_index words 2 == 22)
    (cond (nat_le (slice_index words (2 + slice_index words 0)) 255)
    (Ok (record { header = record { count = slice_index words 0; result = result }; others = slice_index words (2 + slice_index words 0) }))
    foreign)
    foreign

-- the second word is the number of a type
abbrev pub resulting : List ℕ → Option ValueType → Result Accepted Fault
resulting words None = foreign
resulting words (Some result) = entered words result

-- An image has n codes, 1 to 12,288, and 2 + 2 n words: n, the number of its result type, the codes, the operands
abbrev pub accepted : List ℕ → Result Accepted Fault
accepted words =
    cond (nat_le 1 (slice_index words 0))
    (cond (nat_le (slice_index words 0) 12288)
    (cond (length words == 2 + 2 * slice_index words 0) (resulting words (type_at (slice_index words 1))) foreign)
    foreign)
    foreign

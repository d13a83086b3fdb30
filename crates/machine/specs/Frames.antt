-- Frames on the cells, and the way along their access links. Assumes nothing.
use Rattle.std.specs.Prelude.{ℕ, ◌+◌, cond, List, Ok, Result, nat_le, nat_lt, slice_index_or}
use Rattle.language.specs.declared.faults.Halt.{Halt}
use Rattle.image.specs.declared.instruction.Slot.{Slot}
use Rattle.machine.specs.declared.cells.Cell.{Cell}
use Rattle.machine.specs.declared.cells.Cell.TheVariants.{Unset}
use Rattle.machine.specs.declared.frames.Frame.{Frame}
use Rattle.machine.specs.Cells.{bind, link, no_frame, present, times, value}

-- the cell at a place
abbrev pub at : List Cell → ℕ → Cell
at cells k = slice_index_or cells k Unset

-- a frame's end lies at or below a limit
abbrev pub within : ℕ → ℕ → ℕ → Result Frame Halt
within base end limit = cond (nat_le end limit) (Ok (record { base = base; end = end })) no_frame

-- There is a frame at a base below a limit when the four cells from the base are links, and the slots that the fourth counts end at or below the limit. Cells are read by their places
abbrev pub frame : (ℕ → Cell) → ℕ → ℕ → Result Frame Halt
frame read base limit =
    cond (nat_le (base + 4) limit)
    (bind (link (read base))
    (λ _. bind (link (read (base + 1)))
    (λ _. bind (link (read (base + 2)))
    (λ _. bind (link (read (base + 3))) (λ slots. within base (base + 4 + slots) limit)))))
    no_frame

-- a hop goes to the access base, where a frame must lie wholly below the one that is left
abbrev pub hop : (ℕ → Cell) → Frame → Result Frame Halt
hop read f = bind (link (read f.base)) (λ access. frame read access f.base)

-- the frame that many hops off
abbrev pub outer : ℕ → (ℕ → Cell) → Frame → Result Frame Halt
outer n read f = times n (hop read) f

-- the place of a slot, in a frame that has it
abbrev pub slot_in : Frame → ℕ → Result ℕ Halt
slot_in f index = cond (nat_lt (f.base + 4 + index) f.end) (Ok (f.base + 4 + index)) no_frame

-- the place of the slot that an operand names, from the own frame
abbrev pub place : (ℕ → Cell) → Frame → Slot → Result ℕ Halt
place read f s = bind (outer s.hops read f) (λ g. slot_in g s.index)

-- the caller's frame, wholly below the own one
abbrev pub caller : (ℕ → Cell) → Frame → Result Frame Halt
caller read f = bind (link (read (f.base + 1))) (λ base. frame read base f.base)

-- four links stand from a place on
abbrev pub four_links : (ℕ → Cell) → ℕ → Result ℕ Halt
four_links read k =
    bind (link (read k)) (λ _. bind (link (read (k + 1))) (λ _. bind (link (read (k + 2))) (λ _. link (read (k + 3)))))

-- the cell at a place is set; on to the next
abbrev pub present_at : (ℕ → Cell) → ℕ → Result ℕ Halt
present_at read k = bind (present (read k)) (λ _. Ok (k + 1))

-- the cell at a place holds a value; on to the next
abbrev pub value_at : (ℕ → Cell) → ℕ → Result ℕ Halt
value_at read k = bind (value (read k)) (λ _. Ok (k + 1))

-- arguments are taken where they are: all are set, before any mark is looked at
abbrev pub arguments : (ℕ → Cell) → ℕ → ℕ → Result ℕ Halt
arguments read from n = bind (times n (present_at read) from) (λ _. times n (value_at read) from)

-- How a run begins. Assumes nothing.
use Rattle.std.specs.Prelude.{◌≡◌, ℕ, ◌+◌, cond, List, length, Ok, Err, Result, nat_lt, slice_set}
use Rattle.language.specs.declared.faults.BeginRefusal.{BeginRefusal}
use Rattle.language.specs.declared.faults.BeginRefusal.TheVariants.{CellCount}
use Rattle.machine.specs.declared.cells.Cell.{Cell}
use Rattle.machine.specs.declared.cells.Cell.TheVariants.{Link}
use Rattle.machine.specs.declared.registers.Machine.{Machine}
use Rattle.machine.specs.State.{State, cleared}

-- the program's frame at cell 0: its links are 0 but for the slot count, its slots are unset, and no other cell is touched
abbrev pub program_frame : ℕ → List Cell → List Cell
program_frame others cells = cleared others (slice_set (slice_set (slice_set (slice_set cells 0 (Link 0)) 1 (Link 0)) 2 (Link 0)) 3 (Link others)) 4

-- the state that a run begins in
abbrev pub beginning : ℕ → List Cell → State
beginning others cells = record { counter = 1; base = 0; top = 4 + others; cells = program_frame others cells }

-- there must be cells for the program's frame, and at most 65,536
abbrev pub begun : ℕ → List Cell → Result State BeginRefusal
begun others cells =
    cond (nat_lt (length cells) (4 + others)) (Err CellCount) (cond (nat_lt 65536 (length cells)) (Err CellCount) (Ok (beginning others cells)))

-- a begin that is turned down changes nothing
abbrev pub LeftBegun : Result State BeginRefusal → Result Machine BeginRefusal → List Cell → List Cell → Type 0
LeftBegun (Ok s) r before after = (r ≡ Ok (record { counter = s.counter; base = s.base; top = s.top })) × (after ≡ s.cells)
LeftBegun (Err e) r before after = (r ≡ Err e) × (after ≡ before)

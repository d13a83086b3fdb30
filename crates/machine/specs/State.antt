-- What each instruction makes of the machine and its cells. Assumes nothing.
use Rattle.std.specs.Prelude.{◌≡◌, ℕ, zero, suc, ◌+◌, ◌-◌, ◌^◌, ◌<◌, ◌≤◌, cond, List, length, Ok, Err, Result, nat_le, nat_lt, slice_set}
use Rattle.language.specs.declared.faults.Halt.{Halt}
use Rattle.language.specs.declared.faults.Halt.TheVariants.{Stopped}
use Rattle.language.specs.declared.faults.Stop.TheVariants.{NoRoom}
use Rattle.language.specs.declared.values.Value.{Value}
use Rattle.language.specs.declared.values.Operator.{Operator}
use Rattle.language.specs.Operators.{applied, negated}
use Rattle.image.specs.declared.instruction.Slot.{Slot}
use Rattle.image.specs.declared.instruction.Entry.{Entry}
use Rattle.machine.specs.declared.cells.Cell.{Cell}
use Rattle.machine.specs.declared.cells.Cell.TheVariants.{Unset, Link}
use Rattle.machine.specs.declared.frames.Frame.{Frame}
use Rattle.machine.specs.declared.registers.Machine.{Machine}
use Rattle.machine.specs.declared.registers.Flow.{Flow}
use Rattle.machine.specs.declared.registers.Flow.TheVariants.{Next}
use Rattle.machine.specs.Cells.{bind, cell_of, link, value, truth, values, no_frame}
use Rattle.machine.specs.Frames.{at, arguments, caller, four_links, outer, place}

-- the machine with its cells
pub record State : Type 0 where
  pub counter : ℕ
  pub base : ℕ
  pub top : ℕ
  pub cells : List Cell

abbrev pub state : Machine → List Cell → State
state m cells = record { counter = m.counter; base = m.base; top = m.top; cells = cells }

-- How an instruction that came out so leaves the code's machine and cells: one that halts changes nothing
abbrev pub Left : Result State Halt → Result Flow Halt → State → Machine → List Cell → Type 0
Left (Ok s) r old m cells =
    (r ≡ Ok Next) × (m.counter ≡ s.counter) × (m.base ≡ s.base) × (m.top ≡ s.top) × (cells ≡ s.cells)
Left (Err h) r old m cells =
    (r ≡ Err h) × (m.counter ≡ old.counter) × (m.base ≡ old.base) × (m.top ≡ old.top) × (cells ≡ old.cells)

-- an instruction's contract: what it makes of the state that it finds is what it leaves
abbrev pub Does : (State → Result State Halt) → Machine → List Cell → Result Flow Halt → Machine → List Cell → Type 0
Does f m cells r m' cells' = Left (f (state m cells)) r (state m cells) m' cells'

-- what a step has made sure of when its instruction begins: the own frame lies below the top
pub record Ready (m : Machine) (f : Frame) : Type 0 where
  pub early : m.counter + 1 < 2 ^ 32
  pub own : f.base ≡ m.base
  pub links : f.base + 4 ≤ f.end
  pub slots : f.end ≤ m.top

abbrev pub no_room : {A : Type 0} → Result A Halt
no_room = Err (Stopped NoRoom)

-- there are so many working cells, between the own slots and the top
abbrev pub holds : Frame → ℕ → State → Result (Unit {0}) Halt
holds f n s = cond (nat_le (f.end + n) s.top) (Ok tt) no_frame

-- the cell so far below the top
abbrev pub under : State → ℕ → Cell
under s n = at s.cells (s.top - n)

-- push a cell
abbrev pub pushed : Cell → State → Result State Halt
pushed c s =
    cond (nat_lt s.top (length s.cells))
    (Ok (record { counter = s.counter + 1; base = s.base; top = s.top + 1; cells = slice_set s.cells s.top c }))
    no_room

-- push a copy of a slot
abbrev pub loaded : Slot → Frame → State → Result State Halt
loaded slot f s = bind (place (at s.cells) f slot) (λ k. bind (value (at s.cells k)) (λ v. pushed (cell_of v) s))

-- so many values are taken; their cells keep them
abbrev pub dropped : ℕ → State → State
dropped n s = record { counter = s.counter + 1; base = s.base; top = s.top - n; cells = s.cells }

-- take a value into a slot
abbrev pub stored : Slot → Frame → State → Result State Halt
stored slot f s =
    bind (holds f 1 s)
    (λ _. bind (place (at s.cells) f slot)
    (λ k. bind (value (under s 1))
    (λ v. Ok (record { counter = s.counter + 1; base = s.base; top = s.top - 1; cells = slice_set s.cells k (cell_of v) }))))

-- a value in the place of the n that were taken for it
abbrev pub replaced : ℕ → Value → State → State
replaced n v s =
    record { counter = s.counter + 1; base = s.base; top = s.top - n + 1; cells = slice_set s.cells (s.top - n) (cell_of v) }

-- an operator, its right operand on top
abbrev pub operated : Operator → Frame → State → Result State Halt
operated o f s =
    bind (holds f 2 s)
    (λ _. bind (values (under s 2) (under s 1)) (λ p. bind (applied o p.0 p.1) (λ v. Ok (replaced 2 v s))))

-- not
abbrev pub turned : Frame → State → Result State Halt
turned f s = bind (holds f 1 s) (λ _. bind (value (under s 1)) (λ v. bind (negated v) (λ w. Ok (replaced 1 w s))))

-- take a value and drop it
abbrev pub discarded : Frame → State → Result State Halt
discarded f s = bind (holds f 1 s) (λ _. bind (value (under s 1)) (λ _. Ok (dropped 1 s)))

-- jump
abbrev pub jumped : ℕ → State → Result State Halt
jumped target s = Ok (record { counter = target; base = s.base; top = s.top; cells = s.cells })

-- take a truth value, and jump if it is false
abbrev pub branched : ℕ → Frame → State → Result State Halt
branched target f s =
    bind (holds f 1 s)
    (λ _. bind (truth (under s 1))
    (λ b. Ok (record { counter = cond b (s.counter + 1) target; base = s.base; top = s.top - 1; cells = s.cells })))

-- open the links of a frame: its access base, the own base, and room for the return counter and the slot count
abbrev pub links : ℕ → State → List Cell
links access s =
    slice_set (slice_set (slice_set (slice_set s.cells s.top (Link access)) (s.top + 1) (Link s.base)) (s.top + 2) (Link 0)) (s.top + 3) (Link 0)

abbrev pub opened : ℕ → Frame → State → Result State Halt
opened hops f s =
    bind (outer hops (at s.cells) f)
    (λ g. cond (nat_le (s.top + 4) (length s.cells))
    (Ok (record { counter = s.counter + 1; base = s.base; top = s.top + 4; cells = links g.base s }))
    no_room)

-- so many unset cells from a place on
abbrev pub cleared : ℕ → List Cell → ℕ → List Cell
cleared zero cells from = cells
cleared (suc n) cells from = slice_set (cleared n cells from) (from + n) Unset

-- the cells of a new frame: return counter and slot count are filled in, and the slots past the parameters are unset
abbrev pub laid : Entry → ℕ → State → List Cell
laid e base s =
    cleared e.others (slice_set (slice_set s.cells (base + 2) (Link (s.counter + 1))) (base + 3) (Link (e.parameters + e.others))) s.top

-- go past the entry, in a frame over the arguments
abbrev pub entered : Entry → ℕ → State → Result State Halt
entered e base s =
    cond (nat_le (s.top + e.others) (length s.cells))
    (Ok (record { counter = e.start; base = base; top = s.top + e.others; cells = laid e base s }))
    no_room

-- call an entry: its opened links lie under its arguments, above the own slots
abbrev pub called : Entry → Frame → State → Result State Halt
called e f s =
    bind (holds f (e.parameters + 4) s)
    (λ _. bind (four_links (at s.cells) (s.top - (e.parameters + 4)))
    (λ _. bind (arguments (at s.cells) (s.top - e.parameters) e.parameters) (λ _. entered e (s.top - (e.parameters + 4)) s)))

-- return nothing
abbrev pub returned : Frame → State → Result State Halt
returned f s =
    bind (caller (at s.cells) f)
    (λ g. bind (link (at s.cells (f.base + 2)))
    (λ next. Ok (record { counter = next; base = g.base; top = f.base; cells = s.cells })))

-- return a value
abbrev pub returned_value : Frame → State → Result State Halt
returned_value f s =
    bind (caller (at s.cells) f)
    (λ g. bind (link (at s.cells (f.base + 2)))
    (λ next. bind (holds f 1 s)
    (λ _. bind (value (under s 1))
    (λ v. Ok (record { counter = next; base = g.base; top = f.base + 1; cells = slice_set s.cells f.base (cell_of v) })))))

-- The marked machine on whole cells and the marked machine on a stack are one machine: what lies above the top never decides anything. Assumes nothing.
use Rattle.std.specs.Prelude.{◌≡◌, ℕ, ◌+◌, ◌≤◌, List, [], ◌∷◌, reverse, length, take, drop, Ok, Err, Result}
use Rattle.language.specs.declared.faults.Halt.{Halt}
use Rattle.language.specs.declared.faults.BeginRefusal.{BeginRefusal}
use Rattle.host.specs.Meaning.{Meaning}
use Rattle.host.specs.Serves.{by_meaning}
use Rattle.image.specs.declared.instruction.Header.{Header}
use Rattle.machine.specs.declared.cells.Cell.{Cell}
use Rattle.machine.specs.declared.registers.Outcome.{Outcome}
use Rattle.machine.specs.State.{State}
use Rattle.machine.specs.Step as marked
use Rattle.machine.specs.Run.{Run, ran}
use Rattle.machine.specs.Begin.{begun}
use Rattle.machine.specs.Begin as begins
use Rattle.stack.specs.Stack.{Stack, stack, Went, next, ended, step, run, beginning}
use Rattle.stack.specs.Stack as stacks

-- a stack, its top first, laid under what lies above it: all the cells, the bottom first
abbrev pub over : List Cell → List Cell → List Cell
over [] junk = junk
over (c ∷ rest) junk = over rest (c ∷ junk)

-- the state on whole cells: a stack, and what lies above its top
abbrev pub whole : Stack → List Cell → State
whole t junk = record { counter = t.counter; base = t.base; top = length t.cells; cells = over t.cells junk }

-- a stack laid over the cells that were there: those above its top are as they were
abbrev pub laid_over : List Cell → Stack → State
laid_over cells t = whole t (drop (length t.cells) cells)

-- where a step of the stack leads, on whole cells
abbrev pub spread : List Cell → Result (Went Meaning) Halt → Result marked.Went Halt
spread cells (Ok (next t m)) = Ok (marked.next (laid_over cells t) m)
spread cells (Ok (ended v)) = Ok (marked.ended v)
spread cells (Err h) = Err h

-- One step on whole cells gives the same answer as one on the stack, and the cells afterwards are the new stack laid over the old cells
abbrev pub StepIsTheStacks : Type 0
StepIsTheStacks =
    (words : List ℕ) (header : Header) (m : Meaning) (t : Stack) (junk : List Cell)
    → marked.stepped words header m (whole t junk) ≡ spread (over t.cells junk) (step by_meaning words header (length (over t.cells junk)) m t)

-- a run of the stack with something above its top, as a run on whole cells
abbrev pub whole_run : stacks.Run Meaning → List Cell → Run
whole_run r junk = record { steps = r.steps; outcome = r.outcome; state = whole r.stack junk; meaning = r.host }

-- A run on whole cells is a run of the stack, with something above its top that fills up the same number of cells. It need not be what lay there before: a value that was pushed and taken stays in its cell
abbrev pub Shows : ℕ → stacks.Run Meaning → Run → Type 0
Shows limit r q = (junk : List Cell) × (q ≡ whole_run r junk) × (length (over r.stack.cells junk) ≡ limit)

-- A run on whole cells has the steps, the outcome, the host and the stack of the run of the stack
abbrev pub RunIsTheStacks : Type 0
RunIsTheStacks =
    (words : List ℕ) (header : Header) (n : ℕ) (m : Meaning) (t : Stack) (junk : List Cell)
    → Shows (length (over t.cells junk)) (run by_meaning words header (length (over t.cells junk)) n m t) (ran words header n m (whole t junk))

-- the stack of a state: the cells below its top, the topmost first
abbrev pub stack_of : State → Stack
stack_of s = stack s.counter s.base (reverse (take s.top s.cells))

-- Every state whose top lies within its cells is its stack, and what lies above it
abbrev pub StatesAreWhole : Type 0
StatesAreWhole = (s : State) → s.top ≤ length s.cells → s ≡ whole (stack_of s) (drop s.top s.cells)

-- So the law of one step speaks of every such state
abbrev pub StepOfAnyState : Type 0
StepOfAnyState =
    (words : List ℕ) (header : Header) (m : Meaning) (s : State)
    → s.top ≤ length s.cells
    → marked.stepped words header m s ≡ spread s.cells (step by_meaning words header (length s.cells) m (stack_of s))

-- and so does the law of a run
abbrev pub RunOfAnyState : Type 0
RunOfAnyState =
    (words : List ℕ) (header : Header) (n : ℕ) (m : Meaning) (s : State)
    → s.top ≤ length s.cells
    → Shows (length s.cells) (run by_meaning words header (length s.cells) n m (stack_of s)) (ran words header n m s)

-- A run begins with the program's frame as its stack, and the cells above it untouched
abbrev pub BeginningIsTheStacks : Type 0
BeginningIsTheStacks =
    (others : ℕ) (cells : List Cell)
    → 4 + others ≤ length cells
    → begins.beginning others cells ≡ whole (beginning others) (drop (4 + others) cells)

-- what a run tells: its steps, its outcome, and what the host then means
pub record Told : Type 0 where
  pub steps : ℕ
  pub outcome : Outcome
  pub meaning : Meaning

-- what this run tells
abbrev pub told : Run → Told
told r = record { steps = r.steps; outcome = r.outcome; meaning = r.meaning }

-- What lies above the top does not matter to a run: with as many other cells there it tells the same
abbrev pub AboveDoesNotMatter : Type 0
AboveDoesNotMatter =
    (words : List ℕ) (header : Header) (n : ℕ) (m : Meaning) (t : Stack) (junk junk' : List Cell)
    → length junk ≡ length junk'
    → told (ran words header n m (whole t junk)) ≡ told (ran words header n m (whole t junk'))

-- what a run tells that begins on these cells, where it may begin
abbrev pub from_begin : List ℕ → Header → ℕ → Meaning → Result State BeginRefusal → Result Told BeginRefusal
from_begin words header n m (Ok s) = Ok (told (ran words header n m s))
from_begin words header n m (Err e) = Err e

-- What the cells held before does not matter: on as many other cells the same image, host and allowance begin alike, and tell the same
abbrev pub LeftoversDoNotMatter : Type 0
LeftoversDoNotMatter =
    (words : List ℕ) (header : Header) (n : ℕ) (m : Meaning) (others : ℕ) (cells cells' : List Cell)
    → length cells ≡ length cells'
    → from_begin words header n m (begun others cells) ≡ from_begin words header n m (begun others cells')

-- What each call makes of a work area: of its buffer's words, its cells and its record's stage, and of the host. A call that is turned down changes nothing. Assumes nothing.
use Rattle.std.specs.Prelude.{◌≡◌, ℕ, Bool, false, cond, List, ◌++◌, length, drop, Ok, Err, Result, ◌==◌, nat_le}
use Rattle.language.specs.declared.faults.Fault.{Fault}
use Rattle.language.specs.declared.faults.Cause.{Cause}
use Rattle.language.specs.declared.faults.Cause.TheVariants.{Buffer, Begin, Continue}
use Rattle.language.specs.declared.faults.BeginRefusal.{BeginRefusal}
use Rattle.language.specs.declared.faults.BeginRefusal.TheVariants as begins
use Rattle.language.specs.declared.faults.ContinueRefusal.TheVariants as continues
use Rattle.host.specs.Meaning.{Meaning}
use Rattle.image.specs.declared.instruction.Accepted.{Accepted}
use Rattle.image.specs.Accept.{accepted}
use Rattle.machine.specs.declared.cells.Cell.{Cell}
use Rattle.machine.specs.declared.registers.Machine.{Machine}
use Rattle.machine.specs.declared.registers.Outcome.{Outcome}
use Rattle.machine.specs.declared.registers.Outcome.TheVariants.{Paused, Finished, Halted}
use Rattle.machine.specs.declared.registers.Ran.{Ran}
use Rattle.machine.specs.Begin.{begun}
use Rattle.machine.specs.State.{State, state}
use Rattle.machine.specs.Run.{Run, ran}
use Rattle.engine.specs.declared.record.Loaded.{Loaded}
use Rattle.engine.specs.declared.record.Stage.{Stage}
use Rattle.engine.specs.declared.record.Stage.TheVariants.{Blank, Ready, Running, Ended}

-- a work area: the words of its buffer, its cells, and how its record stands
pub record Area : Type 0 where
  pub words : List ℕ
  pub cells : List Cell
  pub stage : Stage

-- turned down, with place 0
abbrev pub refused : {A : Type 0} → Cause → Result A Fault
refused cause = Err (record { cause = cause; place = 0 })

-- one thing after another: the first that is turned down is the answer
abbrev pub and_then : {A B : Type 0} → Result A Fault → (A → Result B Fault) → Result B Fault
and_then (Ok a) f = f a
and_then (Err e) f = Err e

-- what the record remembers of an image: what is known of it, and the lengths of buffer and cells
abbrev pub known_lengths : Accepted → ℕ → ℕ → Loaded
known_lengths image buffer cells = record { image = image; buffer = buffer; cells = cells }

-- an image at the buffer's start, and no more touched; the record remembers the lengths
abbrev pub holding : List ℕ → Accepted → Area → Area
holding words image a = record {
  words = words ++ drop (length words) a.words;
  cells = a.cells;
  stage = Ready (known_lengths image (length a.words) (length a.cells));
}

-- the buffer must have room for all words
abbrev pub written : List ℕ → Area → Accepted → Result Area Fault
written words a image = cond (nat_le (length words) (length a.words)) (Ok (holding words image a)) (refused Buffer)

-- bring a foreign image: first it must be one
abbrev pub bringing : List ℕ → Area → Result Area Fault
bringing words a = and_then (accepted words) (written words a)

-- buffer and cells have the lengths that they had when the image was written
abbrev pub same_lengths : Loaded → ℕ → ℕ → Bool
same_lengths l buffer cells = cond (l.buffer == buffer) (l.cells == cells) false

-- what begin finds: anything but a blank record
abbrev pub loaded : Stage → Result Loaded Fault
loaded Blank = refused (Begin begins.Blank)
loaded (Ready l) = Ok l
loaded (Running l m) = Ok l
loaded (Ended l o) = Ok l

-- registers of a state
abbrev pub machine_of : State → Machine
machine_of s = record { counter = s.counter; base = s.base; top = s.top }

-- the program's frame laid, the record runs
abbrev pub started : Loaded → Area → Result State BeginRefusal → Result Area Fault
started l a (Ok s) = Ok (record { words = a.words; cells = s.cells; stage = Running l (machine_of s) })
started l a (Err e) = refused (Begin e)

-- begin, with the lengths tested before the number of cells
abbrev pub beginning : Area → Result Area Fault
beginning a =
    and_then (loaded a.stage)
    (λ l. cond (same_lengths l (length a.words) (length a.cells)) (started l a (begun l.image.others a.cells)) (refused (Begin begins.OtherLengths)))

-- what continue gives: its answer, the area and the host then
pub record Resumed : Type 0 where
  pub answer : Ran
  pub area : Area
  pub meaning : Meaning

-- a run that has not paused has ended
abbrev pub standing : Loaded → Outcome → Machine → Stage
standing l Paused m = Running l m
standing l (Finished v) m = Ended l (Finished v)
standing l (Halted h p) m = Ended l (Halted h p)

-- a run went on
abbrev pub went_on : Loaded → Area → Run → Resumed
went_on l a r = record {
  answer = record { steps = r.steps; outcome = r.outcome };
  area = record { words = a.words; cells = r.state.cells; stage = standing l r.outcome (machine_of r.state) };
  meaning = r.meaning;
}

-- the lengths, then the allowance
abbrev pub allowed : Loaded → ℕ → ℕ → ℕ → Result (Unit {0}) Fault
allowed l buffer cells allowance =
    cond (same_lengths l buffer cells) (cond (nat_le allowance 1000000) (Ok tt) (refused (Continue continues.Allowance))) (refused (Continue continues.OtherLengths))

-- continue: a running record goes on, an ended one answers 0 steps and the same ending
abbrev pub resumed_from : Stage → ℕ → Meaning → Area → Result Resumed Fault
resumed_from Blank allowance m a = refused (Continue continues.NotBegun)
resumed_from (Ready l) allowance m a = refused (Continue continues.NotBegun)
resumed_from (Running l machine) allowance m a =
    and_then (allowed l (length a.words) (length a.cells) allowance)
    (λ _. Ok (went_on l a (ran a.words l.image.header allowance m (state machine a.cells))))
resumed_from (Ended l o) allowance m a =
    and_then (allowed l (length a.words) (length a.cells) allowance)
    (λ _. Ok (record { answer = record { steps = 0; outcome = o }; area = a; meaning = m }))

abbrev pub resuming : ℕ → Meaning → Area → Result Resumed Fault
resuming allowance m a = resumed_from a.stage allowance m a

-- clear only makes the record blank
abbrev pub clearing : Area → Area
clearing a = record { words = a.words; cells = a.cells; stage = Blank }

-- How a call that came out so leaves the area
abbrev pub LeftArea : Result Area Fault → Area → List ℕ → List Cell → Stage → Type 0
LeftArea (Ok a) old words cells stage = (words ≡ a.words) × (cells ≡ a.cells) × (stage ≡ a.stage)
LeftArea (Err e) old words cells stage = (words ≡ old.words) × (cells ≡ old.cells) × (stage ≡ old.stage)

-- the fault of a call that was turned down, or what it answers
abbrev pub told : {A B : Type 0} → B → Result A Fault → Result B Fault
told b (Ok a) = Ok b
told b (Err e) = Err e

-- How a continue that came out so answers, and leaves buffer, cells, record and host
abbrev pub LeftResumed : Result Resumed Fault → Result Ran Fault → Area → Meaning → List ℕ → List Cell → Stage → Meaning → Type 0
LeftResumed (Ok r) answer old before words cells stage meaning =
    (answer ≡ Ok r.answer) × (words ≡ r.area.words) × (cells ≡ r.area.cells) × (stage ≡ r.area.stage) × (meaning ≡ r.meaning)
LeftResumed (Err e) answer old before words cells stage meaning =
    (answer ≡ Err e) × (words ≡ old.words) × (cells ≡ old.cells) × (stage ≡ old.stage) × (meaning ≡ before)

abbrev pub area : List ℕ → List Cell → Stage → Area
area words cells stage = record { words = words; cells = cells; stage = stage }

-- Lists of calls with their answers, and the runs in them. Assumes nothing.
use Rattle.std.specs.Prelude.{◌≡◌, ℕ, ◌+◌, Bool, true, false, cond, List, [], ◌∷◌, ◌++◌, length, Some, None, Ok, Err, Option}
use Rattle.table.specs.declared.nodes.Node.{Node}
use Rattle.host.specs.Meaning.{Meaning}
use Rattle.machine.specs.declared.registers.Outcome.{Outcome}
use Rattle.machine.specs.declared.registers.Outcome.TheVariants.{Paused, Finished, Halted}
use Rattle.machine.specs.declared.registers.Ran.{Ran}
use Rattle.replay.specs.Script.{Piece}
use Rattle.engine.specs.declared.record.Stage.TheVariants.{Blank}
use Rattle.engine.specs.Calls.{Area}
use Rattle.calls.specs.declared.call.Call.{Call}
use Rattle.calls.specs.declared.call.Call.TheVariants.{Admit, Bring, Begin, Continue, Clear}
use Rattle.calls.specs.declared.call.Answer.TheVariants.{Admitted, Brought, Begun, Continued, Cleared}
use Rattle.calls.specs.Called.{Answered, world, Called}

-- one call of a list: what was called, what the host then meant, what was answered, what the host means after it
pub record Entry : Type 0 where
  pub call : Call
  pub found : Meaning
  pub answer : Answered
  pub left : Meaning

-- a list of calls on one area, each finding the area as the one before left it. The host may be another, or may have been changed, from one call to the next
abbrev pub History : Area → List Entry → Area → Type 0
History area [] after = after ≡ area
History area (e ∷ es) after =
    (next : Area) × Called e.call (world area e.found) e.answer (world next e.left) × History next es after

-- a new area: its record is blank, and its buffer and cells hold anything
abbrev pub New : Area → Type 0
New area = area.stage ≡ Blank

-- a call is accepted that is not turned down
abbrev pub taken : Answered → Bool
taken (Ok a) = true
taken (Err f) = false

-- calls that, if accepted, put an image into the buffer
abbrev pub puts_image : Call → Bool
puts_image (Admit table) = true
puts_image (Bring words) = true
puts_image Begin = false
puts_image (Continue n) = false
puts_image Clear = false

-- calls that, if accepted, end a run that is there: all but continue
abbrev pub ends_run : Call → Bool
ends_run (Admit table) = true
ends_run (Bring words) = true
ends_run Begin = true
ends_run (Continue n) = false
ends_run Clear = true

-- an accepted call of some kind
abbrev pub accepted : (Call → Bool) → Entry → Bool
accepted kind e = cond (taken e.answer) (kind e.call) false

-- none of the list is an accepted call of that kind
abbrev pub None-of : (Call → Bool) → List Entry → Type 0
None-of kind [] = Unit {0}
None-of kind (e ∷ es) = (accepted kind e ≡ false) × None-of kind es

-- the table that a call admits
abbrev pub table_of : Call → Option (List Node)
table_of (Admit table) = Some table.now
table_of (Bring words) = None
table_of Begin = None
table_of (Continue n) = None
table_of Clear = None

-- A run of an admitted rule set in a list: `begun` is the accepted begin that it lasts from, and `since` are calls after it, none of which ends it. Its rule set is the table that was last admitted before, with no bring accepted since. Where `since` stops short of the run's end, this is the run after each of its calls
pub record Within (entries : List Entry) (table : List Node) (begun : Entry) (since : List Entry) : Type 0 where
  pub earlier : List Entry
  pub admitted : Entry
  pub between : List Entry
  pub rest : List Entry
  pub these : entries ≡ earlier ++ admitted ∷ (between ++ begun ∷ (since ++ rest))
  pub admits : table_of admitted.call ≡ Some table
  pub admits-taken : taken admitted.answer ≡ true
  pub stays : None-of puts_image between
  pub begins : begun.call ≡ Begin
  pub begins-taken : taken begun.answer ≡ true
  pub lasts : None-of ends_run since

-- the allowance of an accepted continue; other calls have none
abbrev pub allowance_of : Call → ℕ
allowance_of (Admit table) = 0
allowance_of (Bring words) = 0
allowance_of Begin = 0
allowance_of (Continue n) = n
allowance_of Clear = 0

-- the accepted allowances of a run, added up
abbrev pub allowances : List Entry → ℕ
allowances [] = 0
allowances (e ∷ es) = cond (taken e.answer) (allowance_of e.call) 0 + allowances es

-- what an accepted continue ran; other calls run nothing
abbrev pub ran_of : Answered → Option Ran
ran_of (Ok (Admitted n)) = None
ran_of (Ok (Brought n)) = None
ran_of (Ok Begun) = None
ran_of (Ok (Continued r)) = Some r
ran_of (Ok Cleared) = None
ran_of (Err f) = None

-- how many steps a call tells
abbrev pub steps_of : Option Ran → ℕ
steps_of None = 0
steps_of (Some r) = r.steps

-- the steps of a run: the counts of its continues, added up
abbrev pub steps : List Entry → ℕ
steps [] = 0
steps (e ∷ es) = steps_of (ran_of e.answer) + steps es

-- the outcome that an accepted continue gives; after any other call it is as before
abbrev pub outcome_of : Outcome → Option Ran → Outcome
outcome_of before None = before
outcome_of before (Some r) = r.outcome

abbrev pub outcome_from : Outcome → List Entry → Outcome
outcome_from before [] = before
outcome_from before (e ∷ es) = outcome_from (outcome_of before (ran_of e.answer)) es

-- the outcome of a run is that of its last accepted continue; a run just begun counts as paused
abbrev pub outcome : List Entry → Outcome
outcome since = outcome_from Paused since

-- the accepted continues of a run, each with its allowance and the host that it found
abbrev pub piece : Bool → Entry → List Piece → List Piece
piece true e further = record { host = e.found; allowance = allowance_of e.call } ∷ further
piece false e further = further

abbrev pub pieces : List Entry → List Piece
pieces [] = []
pieces (e ∷ es) = piece (taken e.answer) e (pieces es)

-- what the host means where the run stands: as the continue left it in which the run ended, or else the last one
abbrev pub onward : Outcome → Meaning → (Meaning → Meaning) → Meaning
onward Paused left further = further left
onward (Finished v) left further = left
onward (Halted h k) left further = left

abbrev pub past : Option Ran → Meaning → Meaning → (Meaning → Meaning) → Meaning
past None before left further = further before
past (Some r) before left further = onward r.outcome left further

abbrev pub host_where : Meaning → List Entry → Meaning
host_where before [] = before
host_where before (e ∷ es) = past (ran_of e.answer) before e.left (λ m. host_where m es)

-- one host serves the run, from one meaning to another, and nothing else touches it: each accepted continue finds the meaning that the one before left
abbrev pub Finds : Bool → Meaning → Entry → (Meaning → Type 0) → Type 0
Finds true m e further = (e.found ≡ m) × further e.left
Finds false m e further = further m

abbrev pub OneHost : Meaning → List Entry → Meaning → Type 0
OneHost m [] last = last ≡ m
OneHost m (e ∷ es) last = Finds (taken e.answer) m e (λ k. OneHost k es last)

-- a run of an admitted rule set: some list of calls, on one area that was new at first and has so many cells, has it
pub record RunOf (table : List Node) (cells : ℕ) (begun : Entry) (since : List Entry) : Type 0 where
  pub area : Area
  pub after : Area
  pub entries : List Entry
  pub new : New area
  pub number : length area.cells ≡ cells
  pub history : History area entries after
  pub within : Within entries table begun since

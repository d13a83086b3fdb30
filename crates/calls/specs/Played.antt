-- A list of calls played on one area with one host. Assumes nothing.
use Rattle.std.specs.Prelude.{◌≡◌, ℕ, List, [], ◌∷◌, ◌++◌, map, take, drop}
use Rattle.host.specs.Meaning.{Meaning}
use Rattle.machine.specs.declared.cells.Cell.{Cell}
use Rattle.engine.specs.declared.record.Stage.{Stage}
use Rattle.engine.specs.Calls.{Area, area}
use Rattle.calls.specs.declared.call.Call.{Call}
use Rattle.calls.specs.Called.{World, Answered, world}
use Rattle.calls.specs.History.{Entry, History}

-- one host serves all calls, from one meaning to another, and nothing else touches it
abbrev pub Served : Meaning → List Entry → Meaning → Type 0
Served m [] last = last ≡ m
Served m (e ∷ es) last = (e.found ≡ m) × Served e.left es last

-- the calls of a list, and its answers
abbrev pub calls_of : List Entry → List Call
calls_of es = map (λ e. e.call) es

abbrev pub answers_of : List Entry → List Answered
answers_of es = map (λ e. e.answer) es

-- These calls, with these answers, lead from one area and host to another, each finding them as the one before left them
pub record Played (calls : List Call) (answers : List Answered) (before after : World) : Type 0 where
  pub entries : List Entry
  pub these : calls_of entries ≡ calls
  pub told : answers_of entries ≡ answers
  pub leads : History before.area entries after.area
  pub served : Served before.meaning entries after.meaning

-- The first k calls of a list have been played; their answers are written at the start, and the rest of the answers is as it was
pub record Wrote (calls : List Call) (k : ℕ) (before after : World) (old answers : List Answered) : Type 0 where
  pub so_far : List Answered
  pub played : Played (take k calls) so_far before after
  pub written : answers ≡ so_far ++ drop k old

-- Calls that were played carry on every list of calls that led to where they began. So whoever plays one call at a time has the law for all the calls
abbrev pub CarriesOn : Type 0
CarriesOn =
    (calls : List Call) (answers : List Answered) (before after : World) → (p : Played calls answers before after)
    → (start : Area) (earlier : List Entry) → History start earlier before.area → History start (earlier ++ p.entries) after.area

-- the code's buffer, cells and record, and what its host means
abbrev pub world_of : List ℕ → List Cell → Stage → Meaning → World
world_of words cells stage meaning = world (area words cells stage) meaning

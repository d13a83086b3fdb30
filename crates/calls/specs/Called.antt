-- What each call answers, and what area and host it leaves. Assumes nothing.
use Rattle.std.specs.Prelude.{◌≡◌, length, Ok, Err, Result}
use Rattle.language.specs.declared.faults.Fault.{Fault}
use Rattle.host.specs.Meaning.{Meaning}
use Rattle.engine.specs.Calls.{Area, Resumed, bringing, beginning, resuming, clearing}
use Rattle.engine.specs.Admit.{admitting, words_of}
use Rattle.calls.specs.declared.call.Call.{Call}
use Rattle.calls.specs.declared.call.Call.TheVariants.{Admit, Bring, Begin, Continue, Clear}
use Rattle.calls.specs.declared.call.Answer.{Answer}
use Rattle.calls.specs.declared.call.Answer.TheVariants.{Admitted, Brought, Begun, Continued, Cleared}
use Rattle.admission.specs.Judged.{Verdict, Judged}

-- a work area and what the host means
pub record World : Type 0 where
  pub area : Area
  pub meaning : Meaning

abbrev pub world : Area → Meaning → World
world area meaning = record { area = area; meaning = meaning }

-- what a call answers, or the fault with which it is turned down
abbrev pub Answered : Type 0
Answered = Result Answer Fault

-- the answer to a call, and the world after it
pub record Reply : Type 0 where
  pub answer : Answered
  pub after : World

-- a call that only touches the area: one that is turned down leaves it as it was
abbrev pub replied : Answer → Result Area Fault → World → Reply
replied answer (Ok a) w = record { answer = Ok answer; after = world a w.meaning }
replied answer (Err e) w = record { answer = Err e; after = w }

abbrev pub resumed : Result Resumed Fault → World → Reply
resumed (Ok r) w = record { answer = Ok (Continued r.answer); after = world r.area r.meaning }
resumed (Err e) w = record { answer = Err e; after = w }

-- this answer and this world are those of a reply
abbrev pub Gives : Reply → Answered → World → Type 0
Gives r answer after = (answer ≡ r.answer) × (after ≡ r.after)

-- each call's own rule: from one world, with an answer, to another. What admit does is settled by the verdict on its table
abbrev pub Called : Call → World → Answered → World → Type 0
Called (Admit table) w answer after = (v : Verdict) × Judged table.now v × Gives (replied (Admitted (words_of v)) (admitting v w.area) w) answer after
Called (Bring words) w answer after = Gives (replied (Brought (length words.now)) (bringing words.now w.area) w) answer after
Called Begin w answer after = Gives (replied Begun (beginning w.area) w) answer after
Called (Continue allowance) w answer after = Gives (resumed (resuming allowance w.meaning w.area) w) answer after
Called Clear w answer after = Gives (record { answer = Ok Cleared; after = world (clearing w.area) w.meaning }) answer after

-- Calls one after another, computed: each answer and each world from the one before. Assumes nothing.
use Rattle.std.proofs.Common.{◌≡◌, List, [], ◌∷◌, length, Ok, refl, ap}
use Rattle.engine.specs.Calls.{bringing, beginning, resuming, clearing}
use Rattle.engine.specs.Admit.{admitting, words_of}
use Rattle.admission.specs.Judged.{Verdict, Judged}
use Rattle.calls.specs.declared.call.Call.{Call}
use Rattle.calls.specs.declared.call.Call.TheVariants.{Admit, Bring, Begin, Continue, Clear}
use Rattle.calls.specs.declared.call.Answer.TheVariants.{Admitted, Brought, Begun, Cleared}
use Rattle.calls.specs.Called.{World, Answered, world, Reply, replied, resumed, Called}
use Rattle.calls.specs.History.{Entry, History}
use Rattle.calls.specs.Played.{Played, Served, calls_of, answers_of}

-- what a call comes to, where this is the verdict on its table
abbrev reply : Verdict → Call → World → Reply
reply v (Admit table) w = replied (Admitted (words_of v)) (admitting v w.area) w
reply v (Bring words) w = replied (Brought (length words.now)) (bringing words.now w.area) w
reply v Begin w = replied Begun (beginning w.area) w
reply v (Continue n) w = resumed (resuming n w.meaning w.area) w
reply v Clear w = record { answer = Ok Cleared; after = world (clearing w.area) w.meaning }

-- the verdict is that on the call's table
abbrev pub Right : Verdict → Call → Type 0
Right v (Admit table) = Judged table.now v
Right v (Bring words) = Unit {0}
Right v Begin = Unit {0}
Right v (Continue n) = Unit {0}
Right v Clear = Unit {0}

abbrev pub AllRight : Verdict → List Call → Type 0
AllRight v [] = Unit {0}
AllRight v (c ∷ cs) = Right v c × AllRight v cs

reply-called : (v : Verdict) (c : Call) (w : World) → Right v c → Called c w (reply v c w).answer (reply v c w).after
reply-called v (Admit table) w r = (v, r, (refl, refl))
reply-called v (Bring words) w r = (refl, refl)
reply-called v Begin w r = (refl, refl)
reply-called v (Continue n) w r = (refl, refl)
reply-called v Clear w r = (refl, refl)

abbrev pub entries : Verdict → List Call → World → List Entry
entries v [] w = []
entries v (c ∷ cs) w =
    record { call = c; found = w.meaning; answer = (reply v c w).answer; left = (reply v c w).after.meaning } ∷ entries v cs (reply v c w).after

abbrev pub after : Verdict → List Call → World → World
after v [] w = w
after v (c ∷ cs) w = after v cs (reply v c w).after

same-calls : (v : Verdict) (cs : List Call) (w : World) → calls_of (entries v cs w) ≡ cs
same-calls v [] w = refl
same-calls v (c ∷ cs) w = ap (λ r. c ∷ r) (same-calls v cs (reply v c w).after)

leads : (v : Verdict) (cs : List Call) (w : World) → AllRight v cs → History w.area (entries v cs w) (after v cs w).area
leads v [] w r = refl
leads v (c ∷ cs) w r = ((reply v c w).after.area, reply-called v c w r.0, leads v cs (reply v c w).after r.1)

served : (v : Verdict) (cs : List Call) (w : World) → Served w.meaning (entries v cs w) (after v cs w).meaning
served v [] w = refl
served v (c ∷ cs) w = (refl, served v cs (reply v c w).after)

-- these calls have the answers that they compute to
pub plays : (v : Verdict) (cs : List Call) (answers : List Answered) (w : World) → AllRight v cs → answers_of (entries v cs w) ≡ answers → Played cs answers w (after v cs w)
plays v cs answers w r e =
    record { entries = entries v cs w; these = same-calls v cs w; told = e; leads = leads v cs w r; served = served v cs w }

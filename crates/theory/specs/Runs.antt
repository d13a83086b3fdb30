-- The run of a rule set's image, beside the rule set's evaluation. Assumes nothing.
use Rattle.std.specs.Prelude.{◌≡◌, ℕ, suc, ◌+◌, ◌*◌, ◌≤◌, ◌⊎◌, List, map, length, Option, ◌≢◌, slice_index}
use Rattle.language.specs.declared.faults.Halt.TheVariants.{Stopped}
use Rattle.language.specs.declared.faults.Stop.{Stop}
use Rattle.language.specs.declared.faults.Stop.TheVariants.{NoRoom}
use Rattle.language.specs.declared.values.Value.{Value}
use Rattle.language.specs.declared.values.ValueType.{ValueType}
use Rattle.host.specs.Meaning.{Meaning}
use Rattle.host.specs.Serves.{Serves, by_meaning}
use Rattle.image.specs.declared.instruction.Header.{Header}
use Rattle.machine.specs.declared.registers.Outcome.{Outcome}
use Rattle.machine.specs.declared.registers.Outcome.TheVariants.{Paused, Finished, Halted}
use Rattle.stack.specs.Stack.{Run, run, beginning}
use Rattle.rules.specs.Resolved.{Rules}
use Rattle.rules.specs.Translate.{Laid, translated, image}
use Rattle.rules.specs.Evaluate.{Env, Eval, done, stopped, trouble, too_deep, evaluated}
use Rattle.theory.specs.Lawful.{Lawful}

-- the header of an image
abbrev pub header_for : List Laid → ValueType → Header
header_for code result = record { count = length code; result = result }

-- the place of the node for which the code at a number stands
abbrev pub place_at : List Laid → ℕ → ℕ
place_at code k = slice_index (map (λ i. i.place) code) k

-- the run of a rule set's image from its beginning, with so many cells and so large an allowance
abbrev pub run_of : {S : Type 0} → Serves S → Rules → (cells allowance : ℕ) → S → Run S
run_of ops r cells allowance s = run ops (image r) (header_for (translated r) r.result) cells allowance s (beginning r.others)

-- a run has ended: its allowance was not used up
abbrev pub Ended : Outcome → Type 0
Ended o = o ≡ Paused → ⊥

-- it stopped since a push or a call had no room
abbrev pub OutOfRoom : Outcome → Type 0
OutOfRoom o = (k : ℕ) × (o ≡ Halted (Stopped NoRoom) k)

-- How a run ended, with which host, is how evaluation came out: with that result; or at a stop with that cause, at a code that was laid for that place. Nothing is said of an evaluation in trouble, and no run ends too deep
abbrev pub EndsAs : {S : Type 0} → Rules → Eval S (Option Value) → Outcome → S → Type 0
EndsAs r (done v env s') o s = (o ≡ Finished v) × (s ≡ s')
EndsAs r (stopped c q s') o s = ((k : ℕ) × (o ≡ Halted (Stopped c) k) × (place_at (translated r) k ≡ q)) × (s ≡ s')
EndsAs r trouble o s = Unit {0}
EndsAs r too_deep o s = ⊥

-- Some allowance brings the run to what evaluation comes to, or to the end of its cells
abbrev pub Reaches : {S : Type 0} → Serves S → Rules → ℕ → Eval S (Option Value) → S → Type 0
Reaches ops r cells e s =
    (n : ℕ) × (OutOfRoom (run_of ops r cells n s).outcome ⊎ EndsAs r e (run_of ops r cells n s).outcome (run_of ops r cells n s).host)

-- Deeper calls change no outcome of evaluation but 'too deep'
abbrev pub DeeperSame : Type 0
DeeperSame =
    (r : Rules) (depth : ℕ) (m : Meaning)
    → (evaluated by_meaning r depth m ≡ too_deep) ⊎ (evaluated by_meaning r (suc depth) m ≡ evaluated by_meaning r depth m)

-- If evaluation ends with a result, some allowance brings the run to it, with the same host, or out of room
abbrev pub FinishesAsEvaluated : Type 0
FinishesAsEvaluated =
    (r : Rules) → Lawful r → (cells depth : ℕ) (m m' : Meaning) (v : Option Value) (env : Env)
    → evaluated by_meaning r depth m ≡ done v env m'
    → Reaches by_meaning r cells (done v env m') m

-- If evaluation stops, some allowance brings the run to the same stop, at a code laid for that place, with the same host, or out of room
abbrev pub StopsAsEvaluated : Type 0
StopsAsEvaluated =
    (r : Rules) → Lawful r → (cells depth : ℕ) (m m' : Meaning) (c : Stop) (q : ℕ)
    → evaluated by_meaning r depth m ≡ stopped c q m'
    → Reaches by_meaning r cells (stopped c q m') m

-- If calls nest too deep at a bound for which the cells cannot hold the frames, four cells each, some allowance brings the run out of room
abbrev pub TooDeepRunsOut : Type 0
TooDeepRunsOut =
    (r : Rules) → Lawful r → (cells depth : ℕ) (m : Meaning) → cells ≤ 4 * depth
    → evaluated by_meaning r depth m ≡ too_deep
    → (n : ℕ) × OutOfRoom (run_of by_meaning r cells n m).outcome

-- A run that has ended stays as it is, whatever allowance is added
abbrev pub EndedStays : Type 0
EndedStays =
    (r : Rules) (cells n more : ℕ) (m : Meaning)
    → Ended (run_of by_meaning r cells n m).outcome
    → run_of by_meaning r cells (n + more) m ≡ run_of by_meaning r cells n m

-- Where evaluation, as deep as the cells could hold, is not in trouble: some allowance ends the run
abbrev pub SomeAllowanceEnds : Type 0
SomeAllowanceEnds =
    (r : Rules) → Lawful r → (cells depth : ℕ) (m : Meaning) → cells ≤ 4 * depth
    → (evaluated by_meaning r depth m ≢ trouble)
    → (n : ℕ) × Ended (run_of by_meaning r cells n m).outcome

-- and a run that has ended ended as evaluation does, or out of room
abbrev pub EndedAsEvaluated : Type 0
EndedAsEvaluated =
    (r : Rules) → Lawful r → (cells depth n : ℕ) (m : Meaning) → cells ≤ 4 * depth
    → (evaluated by_meaning r depth m ≢ trouble)
    → Ended (run_of by_meaning r cells n m).outcome
    → OutOfRoom (run_of by_meaning r cells n m).outcome ⊎ EndsAs r (evaluated by_meaning r depth m) (run_of by_meaning r cells n m).outcome (run_of by_meaning r cells n m).host

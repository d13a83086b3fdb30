-- What holds of every run of the image of a program that the typing rules admit, in whatever pieces and with whatever hosts it is run. Assumes nothing.
use Rattle.std.specs.Prelude.{◌≡◌, ℕ, ◌*◌, ◌≤◌, ◌⊎◌, List, [], ◌∷◌, Ok, Option, ◌≢◌}
use Rattle.language.specs.declared.faults.Halt.TheVariants.{Troubled, Stopped}
use Rattle.language.specs.declared.faults.Trouble.{Trouble}
use Rattle.language.specs.declared.faults.Stop.{Stop}
use Rattle.language.specs.declared.values.Value.{Value}
use Rattle.language.specs.declared.values.ValueType.{ValueType}
use Rattle.host.specs.Meaning.{Meaning}
use Rattle.host.specs.Serves.{by_meaning}
use Rattle.image.specs.declared.instruction.Header.{Header}
use Rattle.image.specs.declared.instruction.Instruction.{Instruction}
use Rattle.image.specs.Fetch.{fetched}
use Rattle.machine.specs.declared.registers.Outcome.{Outcome}
use Rattle.machine.specs.declared.registers.Outcome.TheVariants.{Paused, Finished, Halted}
use Rattle.stack.specs.Stack.{Stack, Run, beginning, run}
use Rattle.causes.specs.Causes.{Holds}
use Rattle.replay.specs.Script.{Piece, Standing, in_pieces, allowances}
use Rattle.table.specs.Tree.{Program}
use Rattle.table.specs.Layout.{WithinLimits}
use Rattle.rules.specs.Resolved.{Rules}
use Rattle.rules.specs.Translate.{image, translated}
use Rattle.rules.specs.Evaluate.{Env, done, stopped, evaluated}
use Rattle.typing.specs.Rules.{IsTyped}
use Rattle.typing.specs.Limits.{WithinNames}
use Rattle.safety.specs.Safety.{Is}
use Rattle.theory.specs.Runs.{header_for, run_of, Ended, OutOfRoom, EndsAs, Reaches}

-- a program that has a type, within the limits on records, names and nesting; and what it resolves to
pub record Admitted (t : ValueType) (r : Rules) : Type 0 where
  pub program : Program
  pub typed : IsTyped program t r
  pub limited : WithinLimits program
  pub named : WithinNames program

-- a run in pieces of a rule set's image, on so many cells
abbrev pub piecewise : Rules → ℕ → List Piece → Standing
piecewise r cells pieces = in_pieces (image r) (header_for (translated r) r.result) cells pieces (beginning r.others)

-- No run is in trouble, for any number of cells, and whatever host and allowance each of its pieces has
abbrev pub NeverInTrouble : Type 0
NeverInTrouble =
    (t : ValueType) (r : Rules) → Admitted t r → (cells : ℕ) (pieces : List Piece) (x : Trouble) (k : ℕ)
    → (piecewise r cells pieces).outcome ≢ Halted (Troubled x) k

-- where a run stopped, its cause has its condition
abbrev pub CauseHeld : Rules → ℕ → Stop → Meaning → Stack → Type 0
CauseHeld r cells c m at =
    (i : Instruction) × (fetched (image r) (header_for (translated r) r.result) at.counter ≡ Ok i) × Holds m cells i at.cells c

-- the host of the piece in which a run in pieces stands, after the steps of that piece
abbrev pub onward_host : Run Meaning → (Stack → Meaning) → Outcome → Meaning
onward_host q further Paused = further q.stack
onward_host q further (Finished v) = q.host
onward_host q further (Halted h k) = q.host

abbrev pub last_host : List ℕ → Header → ℕ → Meaning → List Piece → Stack → Meaning
last_host words header limit m [] t = m
last_host words header limit m (p ∷ ps) t =
    onward_host (run by_meaning words header limit p.allowance p.host t)
    (last_host words header limit (run by_meaning words header limit p.allowance p.host t).host ps)
    (run by_meaning words header limit p.allowance p.host t).outcome

-- how a run stands: it has used up all its allowances; or it has ended with what its type promises; or it has stopped for a cause whose condition holds in the machine and the host where it stopped
abbrev pub Stands : ValueType → Rules → ℕ → ℕ → Standing → Meaning → Outcome → Type 0
Stands t r cells allowed q m Paused = q.steps ≡ allowed
Stands t r cells allowed q m (Finished v) = Is t v
Stands t r cells allowed q m (Halted (Stopped c) k) = (k ≡ q.stack.counter) × CauseHeld r cells c m q.stack
Stands t r cells allowed q m (Halted (Troubled x) k) = ⊥

-- Every run stands so after its pieces, whatever host and allowance each piece has. (Before its first piece it has a host that no step has seen)
abbrev pub NamedEndings : Type 0
NamedEndings =
    (t : ValueType) (r : Rules) → Admitted t r → (cells : ℕ) (pieces : List Piece) (unseen : Meaning)
    → Stands t r cells (allowances pieces) (piecewise r cells pieces)
    (last_host (image r) (header_for (translated r) r.result) cells unseen pieces (beginning r.others))
    (piecewise r cells pieces).outcome

-- If evaluation ends, some allowance brings the run to that ending, with the same host, or out of room
abbrev pub ReachesEvaluation : Type 0
ReachesEvaluation =
    (t : ValueType) (r : Rules) → Admitted t r → (cells depth : ℕ) (m : Meaning) →
    ((m' : Meaning) (v : Option Value) (env : Env) → evaluated by_meaning r depth m ≡ done v env m' → Reaches by_meaning r cells (done v env m') m)
    × ((m' : Meaning) (c : Stop) (q : ℕ) → evaluated by_meaning r depth m ≡ stopped c q m' → Reaches by_meaning r cells (stopped c q m') m)

-- A run that has ended, ended as evaluation does, or out of room; evaluation may go as deep as the cells could hold frames
abbrev pub EndsAsEvaluated : Type 0
EndsAsEvaluated =
    (t : ValueType) (r : Rules) → Admitted t r → (cells depth n : ℕ) (m : Meaning) → cells ≤ 4 * depth
    → Ended (run_of by_meaning r cells n m).outcome
    → OutOfRoom (run_of by_meaning r cells n m).outcome ⊎ EndsAs r (evaluated by_meaning r depth m) (run_of by_meaning r cells n m).outcome (run_of by_meaning r cells n m).host

-- Some allowance ends every run
abbrev pub SomeAllowanceEndsIt : Type 0
SomeAllowanceEndsIt =
    (t : ValueType) (r : Rules) → Admitted t r → (cells : ℕ) (m : Meaning) → (n : ℕ) × Ended (run_of by_meaning r cells n m).outcome

-- The law of every list of calls, turned-down ones among them, on one area that was new at first, whatever implements its hosts. Assumes nothing.
use Rattle.std.specs.Prelude.{◌≡◌, ℕ, ◌*◌, ◌<◌, ◌≤◌, true, ◌⊎◌, List, [], ◌∷◌, ◌++◌, length, Ok, Option, ◌≢◌}
use Rattle.language.specs.declared.faults.Halt.TheVariants.{Troubled}
use Rattle.language.specs.declared.faults.Stop.{Stop}
use Rattle.language.specs.declared.faults.Trouble.{Trouble}
use Rattle.language.specs.declared.values.Value.{Value}
use Rattle.language.specs.declared.values.ValueType.{ValueType}
use Rattle.host.specs.Meaning.{Meaning}
use Rattle.host.specs.Serves.{by_meaning}
use Rattle.machine.specs.declared.cells.Cell.{Cell}
use Rattle.machine.specs.declared.registers.Outcome.TheVariants.{Halted}
use Rattle.machine.specs.Begin as machine
use Rattle.stack.specs.Stack.{beginning}
use Rattle.stack.specs.Law.{Told, from_begin}
use Rattle.replay.specs.Script.{Standing}
use Rattle.table.specs.declared.nodes.Node.{Node}
use Rattle.table.specs.Layout.{layout}
use Rattle.rules.specs.Resolved.{Rules}
use Rattle.rules.specs.Translate.{image, translated}
use Rattle.rules.specs.Evaluate.{Env, Eval, done, stopped, evaluated}
use Rattle.theory.specs.Runs.{header_for, Ended, OutOfRoom, EndsAs}
use Rattle.promises.specs.Promises.{Admitted, Stands, piecewise, last_host}
use Rattle.calls.specs.declared.call.Call.{Call}
use Rattle.calls.specs.declared.call.Call.TheVariants.{Continue}
use Rattle.admission.specs.Judged.{Verdict, Judged}
use Rattle.calls.specs.Called.{World, Answered, Called}
use Rattle.calls.specs.Played.{Played}
use Rattle.calls.specs.History.{Entry, RunOf, taken, OneHost, allowances, steps, outcome, pieces, host_where}

-- the rule set of a table: the type of the program that lays the table out, and what it resolves to
pub record RuleSet (table : List Node) (t : ValueType) (r : Rules) : Type 0 where
  pub admitted : Admitted t r
  pub lays : layout admitted.program ≡ table

-- A table that was admitted has a rule set
abbrev pub AdmittedHasRules : Type 0
AdmittedHasRules =
    (table : List Node) (cells : ℕ) (begun : Entry) (since : List Entry) → RunOf table cells begun since
    → (t : ValueType) × (r : Rules) × RuleSet table t r

-- what the marked machine does on a rule set's image in a run's accepted continues, each with its allowance and the host that it found, is what they told, and where it stands the host means what it was left with
pub record TakesSteps (r : Rules) (cells : ℕ) (begun : Entry) (since : List Entry) : Type 0 where
  pub outcomes : outcome since ≡ (piecewise r cells (pieces since)).outcome
  pub counts : steps since ≡ (piecewise r cells (pieces since)).steps
  pub hosts : host_where begun.found since ≡ last_host (image r) (header_for (translated r) r.result) cells begun.found (pieces since) (beginning r.others)

-- Every run takes the marked machine's steps on the image of its table
abbrev pub RunsItsImage : Type 0
RunsItsImage =
    (table : List Node) (t : ValueType) (r : Rules) → RuleSet table t r
    → (cells : ℕ) (begun : Entry) (since : List Entry) → RunOf table cells begun since
    → TakesSteps r cells begun since

-- No run is ever in trouble, even where the host is another, or has been changed, from one continue to the next
abbrev pub NeverInTrouble : Type 0
NeverInTrouble =
    (table : List Node) (cells : ℕ) (begun : Entry) (since : List Entry) → RunOf table cells begun since
    → (x : Trouble) (k : ℕ) → outcome since ≢ Halted (Troubled x) k

-- how a run stands by what its calls told, with the stack to which the machine's steps led
abbrev pub stands_since : Rules → ℕ → List Entry → Standing
stands_since r cells since = record { steps = steps since; outcome = outcome since; stack = (piecewise r cells (pieces since)).stack }

-- After each call a run has ended with what its type promises, or stopped for a cause whose condition holds in machine and host where it stopped, or paused with every accepted allowance used up; here too the hosts may change
abbrev pub NamedEndings : Type 0
NamedEndings =
    (table : List Node) (t : ValueType) (r : Rules) → RuleSet table t r
    → (cells : ℕ) (begun : Entry) (since : List Entry) → RunOf table cells begun since
    → Stands t r cells (allowances since) (stands_since r cells since) (host_where begun.found since) (outcome since)

-- what a run has told so far, and what its host then means
abbrev pub told_since : List Entry → Meaning → Told
told_since since left = record { steps = steps since; outcome = outcome since; meaning = left }

-- With one host that nothing else touches, a run tells what the marked machine tells of one run with the sum of the accepted allowances, begun with the same host on any row of as many cells
abbrev pub RunsAsOne : Type 0
RunsAsOne =
    (table : List Node) (t : ValueType) (r : Rules) → RuleSet table t r
    → (cells : ℕ) (begun : Entry) (since : List Entry) → RunOf table cells begun since
    → (left : Meaning) → OneHost begun.found since left
    → (row : List Cell) → length row ≡ cells
    → from_begin (image r) (header_for (translated r) r.result) (allowances since) begun.found (machine.begun r.others row) ≡ Ok (told_since since left)

-- two hosts are equal in meaning: in the amount and the flag of each field from 0 to 255, in each account from 0 to 255, and in the lines left
pub record SameMeaning (m k : Meaning) : Type 0 where
  pub amounts : (field : ℕ) → field < 256 → m.amount field ≡ k.amount field
  pub flags : (field : ℕ) → field < 256 → m.flag field ≡ k.flag field
  pub accounts : (account : ℕ) → account < 256 → m.account account ≡ k.account account
  pub lines : m.lines ≡ k.lines

-- Two runs of one table, in two lists of calls on two areas, each with one host that nothing else touches: if the numbers of cells, the hosts' meanings at begin and the sums of the accepted allowances are equal, so are outcome, steps, and the meanings left, which is every account and the lines left
abbrev pub SameRuns : Type 0
SameRuns =
    (table : List Node) (cells : ℕ) (begun begun' : Entry) (since since' : List Entry)
    → RunOf table cells begun since → RunOf table cells begun' since'
    → (left left' : Meaning) → OneHost begun.found since left → OneHost begun'.found since' left'
    → SameMeaning begun.found begun'.found → allowances since ≡ allowances since'
    → (outcome since ≡ outcome since') × (steps since ≡ steps since') × SameMeaning left left'

-- A run can always be carried on: after its calls so far a continue with any host and any allowance up to 1,000,000 is accepted, and the run has it too
abbrev pub CanGoOn : Type 0
CanGoOn =
    (table : List Node) (cells : ℕ) (begun : Entry) (since : List Entry) → RunOf table cells begun since
    → (m : Meaning) (n : ℕ) → n ≤ 1_000_000
    → (next : Entry) × (next.call ≡ Continue n) × (next.found ≡ m) × (taken next.answer ≡ true) × RunOf table cells begun (since ++ next ∷ [])

-- and with one host that nothing else touches to any sum of allowances
abbrev pub CanGoFar : Type 0
CanGoFar =
    (table : List Node) (cells : ℕ) (begun : Entry) (since : List Entry) (left : Meaning) → RunOf table cells begun since → OneHost begun.found since left
    → (n : ℕ) → (more : List Entry) × (last : Meaning) × RunOf table cells begun (since ++ more) × OneHost begun.found (since ++ more) last × (n ≤ allowances (since ++ more))

-- by some sum of allowances, every run on so many cells whose one host means this at begin comes to that
abbrev pub ComesTo : List Node → ℕ → Meaning → (List Entry → Meaning → Type 0) → Type 0
ComesTo table cells m P =
    (n : ℕ) × ((begun : Entry) (since : List Entry) (left : Meaning) → RunOf table cells begun since → begun.found ≡ m → OneHost m since left → n ≤ allowances since → P since left)

-- a run came to what evaluation comes to, or it stopped since there was no room
abbrev pub AsEvaluated : Rules → Eval Meaning (Option Value) → List Entry → Meaning → Type 0
AsEvaluated r e since left = OutOfRoom (outcome since) ⊎ EndsAs r e (outcome since) left

-- If evaluation ends, some sum of allowances brings the run to that ending, or out of room
abbrev pub ReachesEvaluation : Type 0
ReachesEvaluation =
    (table : List Node) (t : ValueType) (r : Rules) → RuleSet table t r → (cells depth : ℕ) (m : Meaning) →
    ((m' : Meaning) (v : Option Value) (env : Env) → evaluated by_meaning r depth m ≡ done v env m' → ComesTo table cells m (AsEvaluated r (done v env m')))
    × ((m' : Meaning) (c : Stop) (q : ℕ) → evaluated by_meaning r depth m ≡ stopped c q m' → ComesTo table cells m (AsEvaluated r (stopped c q m')))

-- A run that has ended has evaluation's value, charges and stop, or is out of room; evaluation may go as deep as the cells could hold frames
abbrev pub EndsAsEvaluated : Type 0
EndsAsEvaluated =
    (table : List Node) (t : ValueType) (r : Rules) → RuleSet table t r
    → (cells depth : ℕ) (begun : Entry) (since : List Entry) → RunOf table cells begun since
    → (left : Meaning) → OneHost begun.found since left → cells ≤ 4 * depth
    → Ended (outcome since)
    → AsEvaluated r (evaluated by_meaning r depth begun.found) since left

-- Some sum of allowances ends every run
abbrev pub SomeAllowanceEndsIt : Type 0
SomeAllowanceEndsIt =
    (table : List Node) (t : ValueType) (r : Rules) → RuleSet table t r → (cells : ℕ) (m : Meaning)
    → ComesTo table cells m (λ since left. Ended (outcome since))

-- One table has one verdict
abbrev pub OneVerdict : Type 0
OneVerdict = (table : List Node) (v u : Verdict) → Judged table v → Judged table u → v ≡ u

-- And so each call has one answer, and leaves one world
abbrev pub OneReply : Type 0
OneReply =
    (c : Call) (w : World) (a b : Answered) (after after' : World)
    → Called c w a after → Called c w b after' → (a ≡ b) × (after ≡ after')

-- A list of calls that are played on a world with one host has one list of answers, and leaves one world
abbrev pub OnePlay : Type 0
OnePlay =
    (calls : List Call) (w : World) (a b : List Answered) (after after' : World)
    → Played calls a w after → Played calls b w after' → (a ≡ b) × (after ≡ after')

-- A list of calls on a new area whose memory holds old numbers, worked out by hand. Assumes nothing.
use Rattle.std.specs.Prelude.{◌≡◌, ℕ, cond, List, [], ◌∷◌, ◌++◌, replicate, pos, Some, None, Ok, Err, ◌==◌, nat_lt}
use Rattle.language.specs.declared.faults.Cause.{Cause}
use Rattle.language.specs.declared.faults.Cause.TheVariants as causes
use Rattle.language.specs.declared.faults.BeginRefusal.TheVariants as begins
use Rattle.language.specs.declared.faults.ContinueRefusal.TheVariants as continues
use Rattle.language.specs.declared.values.Value.TheVariants.{Number}
use Rattle.host.specs.Meaning.{Meaning}
use Rattle.machine.specs.declared.cells.Cell.TheVariants as cells
use Rattle.machine.specs.declared.registers.Outcome.{Outcome}
use Rattle.machine.specs.declared.registers.Outcome.TheVariants.{Paused, Finished}
use Rattle.table.specs.declared.nodes.Node.{Node}
use Rattle.table.specs.Samples.{sum_table}
use Rattle.engine.specs.declared.record.Stage.TheVariants.{Blank}
use Rattle.engine.specs.Calls.{Area, area}
use Rattle.calls.specs.declared.call.Call.{Call}
use Rattle.calls.specs.declared.call.Call.TheVariants.{Admit, Bring, Begin, Continue, Clear}
use Rattle.calls.specs.declared.call.Answer.TheVariants.{Admitted, Begun, Continued, Cleared}
use Rattle.calls.specs.Called.{Answered}
use Rattle.calls.specs.History.{Entry, History, RunOf, OneHost, allowances, steps, outcome}

-- a host with two accounts and an amount in field 0
abbrev pub declaration : Meaning
declaration = record {
  amount = λ field. cond (field == 0) (Some (pos 12000)) None;
  flag = λ field. None;
  account = λ a. cond (nat_lt a 2) (Some (pos 0)) None;
  lines = 10;
}

abbrev pub admit : List Node → Call
admit table = Admit (record { ref_ptr = (0, 0); now = table })

abbrev pub bring : List ℕ → Call
bring words = Bring (record { ref_ptr = (0, 0); now = words })

-- a new area of so many words and so many cells, all holding an old number
abbrev pub untouched : ℕ → ℕ → ℕ → Area
untouched words room old = area (replicate words old) (replicate room (cells.Number (pos old))) Blank

-- one of 20 words and 12 cells
abbrev pub fresh : Area
fresh = untouched 20 12 99

-- a call and its answer; the host is the same before and after, as nothing is posted
abbrev pub made : Call → Answered → Entry
made c a = record { call = c; found = declaration; answer = a; left = declaration }

abbrev pub turned_down : Cause → Answered
turned_down cause = Err (record { cause = cause; place = 0 })

abbrev pub went : ℕ → Outcome → Answered
went count out = Ok (Continued (record { steps = count; outcome = out }))

abbrev pub seven : Outcome
seven = Finished (Some (Number (pos 7)))

-- before the admit: begin on a blank record, and what is no image
abbrev pub earlier : List Entry
earlier = made Begin (turned_down (causes.Begin begins.Blank)) ∷ made (bring (1 ∷ 2 ∷ 3 ∷ [])) (turned_down causes.Bring) ∷ []

-- the rule set is 1 + 2 * 3
abbrev pub admitted : Entry
admitted = made (admit sum_table) (Ok (Admitted 16))

-- a continue before the begin
abbrev pub between : List Entry
between = made (Continue 5) (turned_down (causes.Continue continues.NotBegun)) ∷ []

abbrev pub begun : Entry
begun = made Begin (Ok Begun)

-- the run: in pieces, with an allowance that is too large and a table that is none between them, and on after its end
abbrev pub since : List Entry
since =
    made (Continue 2) (went 2 Paused) ∷
    made (Continue 1000001) (turned_down (causes.Continue continues.Allowance)) ∷
    made (admit []) (turned_down causes.Table) ∷
    made (Continue 10) (went 4 seven) ∷
    made (Continue 5) (went 0 seven) ∷
    []

abbrev pub rest : List Entry
rest = made Clear (Ok Cleared) ∷ []

abbrev pub sample : List Entry
sample = earlier ++ admitted ∷ (between ++ begun ∷ (since ++ rest))

-- the calls have these answers, one after another, on that area; and the law's premises hold of the run
abbrev pub Worked : Type 0
Worked =
    ((after : Area) × History fresh sample after)
    × RunOf sum_table 12 begun since
    × OneHost declaration since declaration
    × (outcome since ≡ seven)
    × (steps since ≡ 6)
    × (allowances since ≡ 17)

-- Rule sets worked out by hand, from node table to ending: each table is admitted, or refused with its number and place; what is admitted is begun, and runs to its ending. Assumes nothing.
use Rattle.std.specs.Prelude.{ℕ, false, List, [], ◌∷◌, pos, negsuc, Some, None, Ok, Err}
use Rattle.language.specs.declared.faults.Cause.TheVariants as causes
use Rattle.language.specs.declared.faults.Halt.TheVariants.{Stopped}
use Rattle.language.specs.declared.faults.Stop.{Stop}
use Rattle.language.specs.declared.faults.Stop.TheVariants as stops
use Rattle.language.specs.declared.faults.WalkRefusal.TheVariants.{NotSet}
use Rattle.language.specs.declared.values.Value.{Value}
use Rattle.language.specs.declared.values.Value.TheVariants.{Number, Truth}
use Rattle.host.specs.Meaning.{Meaning}
use Rattle.machine.specs.declared.registers.Outcome.TheVariants.{Finished, Halted}
use Rattle.table.specs.declared.nodes.Node.{Node}
use Rattle.table.specs.Samples.{sum_table, recursion_table, one_branch_table, two_branches_table, unset_argument_table, set_in_body_table, quotient_table, least_quotient_table, by_zero_table, grouped_table, both_sides_table}
use Rattle.calls.specs.declared.call.Call.TheVariants.{Begin, Continue}
use Rattle.calls.specs.declared.call.Answer.TheVariants.{Admitted, Begun}
use Rattle.calls.specs.Called.{World, Answered, world}
use Rattle.calls.specs.Played.{Played}
use Rattle.calls_worked.specs.Sample.{untouched, admit, went}

-- a host that has nothing
abbrev pub nothing_there : Meaning
nothing_there = record { amount = λ field. None; flag = λ field. None; account = λ a. None; lines = 0 }

-- a new area of 64 words and so many cells, all holding an old number
abbrev pub fresh : ℕ → World
fresh room = world (untouched 64 room 99) nothing_there

-- a table is admitted, its image having so many words, and its run comes to this
abbrev pub RunsTo : ℕ → List Node → ℕ → Answered → Type 0
RunsTo room table words answer =
    (after : World) × Played (admit table ∷ Begin ∷ Continue 1000 ∷ []) (Ok (Admitted words) ∷ Ok Begun ∷ answer ∷ []) (fresh room) after

-- a table reads a variable that is not set, at a place; the area stays as it was
abbrev pub ReadsUnset : List Node → ℕ → Type 0
ReadsUnset table place =
    Played (admit table ∷ []) (Err (record { cause = causes.Walk NotSet; place = place }) ∷ []) (fresh 100) (fresh 100)

abbrev pub ends : ℕ → Value → Answered
ends steps v = went steps (Finished (Some v))

abbrev pub halts : ℕ → Stop → ℕ → Answered
halts steps why place = went steps (Halted (Stopped why) place)

-- the eleven tables, the first with 6 cells too
pub record Worked : Type 0 where
  -- 1 + 2 * 3 is 7, in 6 steps; with 6 cells there is no room for the third number
  pub sum : RunsTo 100 sum_table 16 (ends 6 (Number (pos 7)))
  pub sum-in-six-cells : RunsTo 6 sum_table 16 (halts 2 stops.NoRoom 3)
  -- int s(int n) { if (n == 0) { 0 } else { n + s(n - 1) } } s(4) is 10
  pub recursion : RunsTo 100 recursion_table 44 (ends 60 (Number (pos 10)))
  -- int a; if (true) { a = 1; } a
  pub one-branch : ReadsUnset one_branch_table 28
  -- int a; if (true) { a = 1; } else { a = 2; } a is 1
  pub two-branches : RunsTo 100 two_branches_table 22 (ends 7 (Number (pos 1)))
  -- int a; void f(int n) { } f(a)
  pub unset-argument : ReadsUnset unset_argument_table 27
  -- int a; int f() { a = 3; a } f() + a
  pub set-in-a-body : ReadsUnset set_in_body_table 34
  -- (0 - 7) / 2 is -3
  pub quotient : RunsTo 100 quotient_table 16 (ends 6 (Number (negsuc 2)))
  -- (0 - 2147483647 - 1) / (0 - 1) is out of range
  pub least-quotient : RunsTo 100 least_quotient_table 24 (halts 8 stops.OutOfRange 9)
  -- 7 / 0
  pub by_zero : RunsTo 100 by_zero_table 12 (halts 2 stops.DivisorZero 3)
  -- true || false && false is false: one level, grouped from the left
  pub grouped : RunsTo 100 grouped_table 16 (ends 6 (Truth false))
  -- true || 1 / 0 == 1 stops at the division: both operands are worked out
  pub both-sides : RunsTo 100 both_sides_table 20 (halts 3 stops.DivisorZero 4)

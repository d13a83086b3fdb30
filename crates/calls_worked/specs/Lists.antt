-- Lists of calls worked out by hand, each on a new area whose memory holds old numbers. Assumes nothing.
use Rattle.std.specs.Prelude.{◌≡◌, ℕ, true, cond, List, [], ◌∷◌, pos, Some, None, Ok, ◌==◌, nat_lt}
use Rattle.language.specs.declared.faults.Cause.TheVariants as causes
use Rattle.language.specs.declared.faults.BeginRefusal.TheVariants as begins
use Rattle.language.specs.declared.faults.ContinueRefusal.TheVariants as continues
use Rattle.language.specs.declared.values.Value.TheVariants.{Number}
use Rattle.host.specs.Meaning.{Meaning}
use Rattle.machine.specs.declared.registers.Outcome.{Outcome}
use Rattle.machine.specs.declared.registers.Outcome.TheVariants.{Paused, Finished}
use Rattle.calls.specs.declared.call.Call.{Call}
use Rattle.calls.specs.declared.call.Call.TheVariants.{Begin, Continue, Clear}
use Rattle.calls.specs.declared.call.Answer.TheVariants.{Brought, Begun, Cleared}
use Rattle.calls.specs.Called.{World, Answered, world}
use Rattle.calls.specs.Played.{Played}
use Rattle.calls_worked.specs.Sample.{untouched, bring, turned_down, went}

-- two accounts, ten charge lines, an amount in field 0 and a flag in field 1
abbrev pub preferred : Meaning
preferred = record {
  amount = λ field. cond (field == 0) (Some (pos 12000)) None;
  flag = λ field. cond (field == 1) (Some true) None;
  account = λ a. cond (nat_lt a 2) (Some (pos 0)) None;
  lines = 10;
}

-- int rate; int duty; if (flag(1)) { rate = 5; } else { rate = 12; } duty = amount(0) * rate / 100; post(0, duty); duty
abbrev pub duty : List ℕ
duty =
    21 ∷ 1 ∷ 22 ∷ 1 ∷ 25 ∷ 19 ∷ 1 ∷ 4 ∷ 18 ∷ 1 ∷ 4 ∷ 1 ∷ 24 ∷ 3 ∷ 5 ∷ 1 ∷ 6 ∷ 4 ∷ 1 ∷ 3 ∷ 26 ∷ 3 ∷ 27 ∷ 2 ∷ 1 ∷ 0 ∷ 7 ∷ 5 ∷ 0 ∷ 9 ∷ 12 ∷ 0 ∷ 0 ∷ 0 ∷ 0 ∷ 0 ∷ 100 ∷ 0 ∷ 1 ∷ 0 ∷ 1 ∷ 0 ∷ 1 ∷ 1 ∷ []

-- a new area of 48 words and so many cells, all holding an old number
abbrev pub fresh : ℕ → ℕ → World
fresh room old = world (untouched 48 room old) preferred

abbrev pub ended : Outcome
ended = Finished (Some (Number (pos 600)))

-- calls on a new area that have these answers, and what they leave
abbrev pub Plays : World → List Call → List Answered → World → Type 0
Plays before calls answers after = Played calls answers before after

-- In one piece, in three, and with calls between that are turned down, a run comes to the same: area, cells and host, to the last number
abbrev pub CutAsYouLike : Type 0
CutAsYouLike =
    (after : World)
    × Plays (fresh 40 99) (bring duty ∷ Begin ∷ Continue 100 ∷ []) (Ok (Brought 44) ∷ Ok Begun ∷ went 18 ended ∷ []) after
    × Plays (fresh 40 99) (bring duty ∷ Begin ∷ Continue 5 ∷ Continue 8 ∷ Continue 100 ∷ []) (Ok (Brought 44) ∷ Ok Begun ∷ went 5 Paused ∷ went 8 Paused ∷ went 5 ended ∷ []) after
    × Plays (fresh 40 99)
    (Begin ∷ bring duty ∷ Continue 5 ∷ Begin ∷ Continue 5 ∷ Continue 1000001 ∷ bring (1 ∷ 2 ∷ 3 ∷ []) ∷ Continue 100 ∷ [])
    (turned_down (causes.Begin begins.Blank) ∷ Ok (Brought 44) ∷ turned_down (causes.Continue continues.NotBegun) ∷ Ok Begun ∷ went 5 Paused ∷ turned_down (causes.Continue continues.Allowance) ∷ turned_down causes.Bring ∷ went 13 ended ∷ [])
    after

-- A begin with too few cells is turned down, and leaves all as it was
abbrev pub TooFewCells : Type 0
TooFewCells =
    (after : World)
    × Plays (fresh 5 99) (bring duty ∷ []) (Ok (Brought 44) ∷ []) after
    × Plays (fresh 5 99) (bring duty ∷ Begin ∷ []) (Ok (Brought 44) ∷ turned_down (causes.Begin begins.CellCount) ∷ []) after

-- a second run on what the first left
abbrev pub twice : List Call
twice = bring duty ∷ Begin ∷ Continue 100 ∷ Begin ∷ Continue 7 ∷ Continue 100 ∷ Continue 100 ∷ Clear ∷ []

abbrev pub twice_told : List Answered
twice_told = Ok (Brought 44) ∷ Ok Begun ∷ went 18 ended ∷ Ok Begun ∷ went 7 Paused ∷ went 11 ended ∷ went 0 ended ∷ Ok Cleared ∷ []

-- Neither old numbers nor a first run make a difference to a second; both are charged
abbrev pub LeftoversMakeNoDifference : Type 0
LeftoversMakeNoDifference =
    (after after' : World)
    × Plays (fresh 40 99) twice twice_told after
    × Plays (fresh 40 3) twice twice_told after'
    × (after.meaning.account 0 ≡ Some (pos 1200))
    × (after.meaning.lines ≡ 8)

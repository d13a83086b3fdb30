-- The lists are as worked out. Assumes nothing.
use Rattle.std.proofs.Common.{[], ◌∷◌, Err, refl}
use Rattle.table.specs.Answers.{fault}
use Rattle.admission.specs.Judged.{Verdict}
use Rattle.calls.specs.declared.call.Call.TheVariants.{Begin, Continue}
use Rattle.calls_worked.specs.Sample.{bring}
use Rattle.calls_worked.specs.Lists.{duty, fresh, twice, CutAsYouLike, TooFewCells, LeftoversMakeNoDifference}
use Rattle.calls_worked.proofs.Folded.{after, plays}

-- no table is admitted in these lists
abbrev none : Verdict
none = Err (fault 0)

pub cut-as-you-like : CutAsYouLike
cut-as-you-like = (
  after none (bring duty ∷ Begin ∷ Continue 100 ∷ []) (fresh 40 99),
  plays none _ _ (fresh 40 99) (tt, (tt, (tt, tt))) refl,
  plays none _ _ (fresh 40 99) (tt, (tt, (tt, (tt, (tt, tt))))) refl,
  plays none _ _ (fresh 40 99) (tt, (tt, (tt, (tt, (tt, (tt, (tt, (tt, tt)))))))) refl,
)

pub too-few-cells : TooFewCells
too-few-cells = (
  after none (bring duty ∷ []) (fresh 5 99),
  plays none _ _ (fresh 5 99) (tt, tt) refl,
  plays none _ _ (fresh 5 99) (tt, (tt, tt)) refl,
)

pub leftovers-make-no-difference : LeftoversMakeNoDifference
leftovers-make-no-difference = (
  after none twice (fresh 40 99),
  after none twice (fresh 40 3),
  plays none _ _ (fresh 40 99) (tt, (tt, (tt, (tt, (tt, (tt, (tt, (tt, tt)))))))) refl,
  plays none _ _ (fresh 40 3) (tt, (tt, (tt, (tt, (tt, (tt, (tt, (tt, tt)))))))) refl,
  refl,
  refl,
)

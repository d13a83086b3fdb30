-- Which variables are set: a flag for each entry of the name list, by its index. Assumes nothing.
use Rattle.std.specs.Prelude.{ℕ, Bool, false, cond, ◌&&◌, List, [], ◌∷◌, replicate, Ok, Err, Result, slice_index_or, slice_set}
use Rattle.language.specs.declared.faults.Fault.{Fault}
use Rattle.language.specs.declared.faults.WalkRefusal.TheVariants.{NotSet}
use Rattle.walk.specs.Bind.{refusal}

-- none is set
abbrev pub none_set : List Bool
none_set = replicate 256 false

-- one more is set, or one is not
abbrev pub marked : List Bool → ℕ → Bool → List Bool
marked flags k b = slice_set flags k b

-- those that both have set
unfoldable pub both : List Bool → List Bool → List Bool
both [] bs = []
both (a ∷ as') [] = []
both (a ∷ as') (b ∷ bs) = (a && b) ∷ both as' bs

-- a variable that is read must be set
abbrev pub must_be_set : ℕ → List Bool → ℕ → Result (Unit {0}) Fault
must_be_set p flags k = cond (slice_index_or flags k false) (Ok tt) (Err (refusal p NotSet))

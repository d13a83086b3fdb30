use Rattle.std.proofs.Common.{◌≡◌, ℕ, ◌<◌, false, ◌&&◌, length, get_or}
use Rattle.walk.proofs.flags.Flags.both.Given as goal

-- the flags below this one are those that both have set
abbrev pub invariant-loop-k : goal.invariant-loop-k
invariant-loop-k l =
    (length l.flag-items ≡ 256) × ((j : ℕ) → j < l.k → get_or l.flag-items j false ≡ (get_or l.self.set j false && get_or l.other.set j false))

use Rattle.std.proofs.Common.{◌≡◌, ℕ, zero, suc, get_or, replicate, pos, nat_abs, refl, ap, arith, rules}
use Rattle.record_host.proofs.totals.Totals.none.Goals as goal

-- an array of zeros has zeros, at every place and past its end
zeros : (n a : ℕ) → get_or (replicate n (pos 0)) a (pos 0) ≡ pos 0
zeros zero a = refl
zeros (suc n) zero = refl
zeros (suc n) (suc a) = zeros n a

pub invariant_of-result : goal.invariant_of-result
invariant_of-result c = record {
  whole = refl;
  lines = search rules;
  bound = λ a. omega (arith, ap nat_abs (zeros 256 a));
}

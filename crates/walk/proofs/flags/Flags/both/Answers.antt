use Rattle.std.proofs.Common.{◌≡◌, false, length, sym, ◌∙◌, arith}
use Rattle.std.proofs.lemmas.List.{ext_get_or}
use Rattle.walk.specs.Sets.{both}
use Rattle.walk.proofs.Joined.{both-length, both_at}
use Rattle.walk.proofs.flags.Flags.both.Goals as goal

pub returns : goal.returns
returns c =
    let a = c.args.self.now.set in
    let b = c.args.other.now.set in
    let e : length a ≡ length b = c.args.self.now.whole ∙ sym c.args.other.now.whole in
    let n : length c.loop-k.flag-items ≡ length (both a b) = c.loop-k.invariant.0 ∙ sym (both-length a b e ∙ c.args.self.now.whole) in
    ext_get_or false c.loop-k.flag-items (both a b) n
    (λ k h. c.loop-k.invariant.1 k (omega (arith, c.loop-k.invariant.0)) ∙ sym (both_at a b k e (omega (arith, c.loop-k.invariant.0, c.args.self.now.whole))))

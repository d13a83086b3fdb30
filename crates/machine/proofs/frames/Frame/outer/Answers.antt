use Rattle.std.proofs.Common.{◌<◌, sym, ◌∙◌, arith}
use Rattle.machine.specs.Frames.{at, hop}
use Rattle.machine.proofs.Times.{times_goes}
use Rattle.machine.proofs.frames.Frame.outer.Goals as goal

pub loop-preserved : goal.loop-preserved
loop-preserved c =
    let less : c.loop.counter < c.args.hops = omega arith in
    let inv = c.loop.invariant in
    let bound = c.in_ok-frame.ensures.bound in
    (bound.0, omega (arith, bound.1, inv.0, inv.1), inv.2 ∙ times_goes (hop (at c.args.cells.now)) _ _ _ less _ (sym c.in_ok-frame.ensures.value))

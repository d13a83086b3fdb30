use Rattle.std.proofs.Common.{◌≡◌, ◌+◌, ◌-◌, length, take, drop, length-drop, length-take-le, arith}
use Rattle.machine.proofs.Cleared.{cleared-is}
use Rattle.machine.proofs.calls.clear_cells.Goals as goal

pub returns : goal.returns
returns c =
    let apart : c.args.from + c.args.count - c.args.from ≡ c.args.count = omega arith in
    let long : length (take c.args.count (drop c.args.from c.args.cells.now)) ≡ c.args.count = omega (arith, length-drop c.args.from c.args.cells.now, length-take-le c.args.count (drop c.args.from c.args.cells.now)) in
    let filled = rw (apart, long) at (c.fill.ensures.after (λ y e. e)) in
    rw (apart, filled) (cleared-is c.args.count c.args.cells.now c.args.from c.requires)

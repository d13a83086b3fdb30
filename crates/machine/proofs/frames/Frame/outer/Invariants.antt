use Rattle.std.proofs.Common.{◌≡◌, ◌+◌, ◌-◌, ◌≤◌}
use Rattle.machine.specs.Frames.{at, outer}
use Rattle.machine.proofs.frames.Frame.outer.Given as goal

abbrev pub invariant-loop : goal.invariant-loop
invariant-loop l =
    (l.frame.base + 4 ≤ l.frame.end) × (l.frame.end ≤ l.initial.frame.end) × (outer l.hops (at l.cells) l.initial.frame ≡ outer (l.hops - l.counter) (at l.cells) l.frame)

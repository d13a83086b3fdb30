use Rattle.calls.specs.Played.{Wrote, world_of}
use Rattle.calls.proofs.play.play.Given as goal

abbrev pub invariant-loop-k : goal.invariant-loop-k
invariant-loop-k g l =
    Wrote l.calls l.k (world_of l.initial.buffer l.initial.cells l.initial.work.stage (g.H.Host.means l.initial.host)) (world_of l.buffer l.cells l.work.stage (g.H.Host.means l.host)) l.initial.answers l.answers

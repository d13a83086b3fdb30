use Rattle.std.proofs.Common.{◌≡◌, ◌-◌}
use Rattle.machine.specs.Contexts.{SameCells, state_of}
use Rattle.machine.specs.Run.{plus, ran}
use Rattle.machine.proofs.context.Context.run.Given as goal

abbrev pub invariant-loop-steps : goal.invariant-loop-steps
invariant-loop-steps g l =
    SameCells l.initial.self l.self × (ran l.image.words.now l.image.header l.allowance (g.H.Host.means l.initial.host) (state_of l.initial.self) ≡ plus l.steps (ran l.image.words.now l.image.header (l.allowance - l.steps) (g.H.Host.means l.host) (state_of l.self)))

use Rattle.std.proofs.Common.{rules}
use Rattle.machine.proofs.Steps.{amounts, flags, amount-step, flag-step}
use Rattle.machine.proofs.context.Context.carry_out.Goals as goal

pub returns-in-Amount-clause-state : goal.returns-in-Amount-clause-state
returns-in-Amount-clause-state g c =
    amount-step _ _ _ _ _ _ _ _ c.in-Amount.is (c.ask.ensures.state (amounts (g.H.Host.means c.args.host.now)) (λ field r h. search rules))

pub returns-in-Flag-clause-state : goal.returns-in-Flag-clause-state
returns-in-Flag-clause-state g c =
    flag-step _ _ _ _ _ _ _ _ c.in-Flag.is (c.ask-in-Flag.ensures.state (flags (g.H.Host.means c.args.host.now)) (λ field r h. search rules))

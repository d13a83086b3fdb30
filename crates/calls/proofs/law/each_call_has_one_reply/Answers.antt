use Rattle.calls.proofs.Verdicts.{one-verdict, one-reply, one-play}
use Rattle.calls.proofs.law.each_call_has_one_reply.Goals as goal

pub returns : goal.returns
returns c = record { verdict = one-verdict; reply = one-reply; play = one-play }

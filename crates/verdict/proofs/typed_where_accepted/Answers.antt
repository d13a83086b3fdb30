use Rattle.verdict.proofs.Typed.{typed-accepted}
use Rattle.verdict.proofs.typed_where_accepted.Goals as goal

pub returns : goal.returns
returns c = typed-accepted

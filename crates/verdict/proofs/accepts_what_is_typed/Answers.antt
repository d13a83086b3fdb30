use Rattle.verdict.proofs.Declared.{accepts-typed}
use Rattle.verdict.proofs.accepts_what_is_typed.Goals as goal

pub returns : goal.returns
returns c = accepts-typed

use Rattle.safety.proofs.Lawful.{lawful-where-typed}
use Rattle.safety.proofs.lawful_where_typed.Goals as goal

pub returns : goal.returns
returns c = lawful-where-typed

use Rattle.std.proofs.Common.{rules}
use Rattle.admission.proofs.Restored.{same_scope}
use Rattle.admission.proofs.declaring.Guard.drop.Goals as goal

-- The code writes the scope around as it is. This answer holds besides for a body that builds it anew, with a height that comes to the same; so an edit that leaves another height is refused for that height.
pub returns-clause-restored : goal.returns-clause-restored
returns-clause-restored c = same_scope c.args.self.around _ (search rules) _ _

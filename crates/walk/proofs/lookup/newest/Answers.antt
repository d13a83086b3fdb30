use Rattle.std.proofs.Common.{length, rules}
use Rattle.walk.specs.Known.{name_at}
use Rattle.walk.proofs.Found.{newest_is}
use Rattle.walk.proofs.lookup.newest.Goals as goal

pub returns-clause-answer : goal.returns-clause-answer
returns-clause-answer c =
    newest_is (name_at c.args.names.now) (length c.args.names.now) c.args.name _
    (λ e j h q. search rules)
    (λ k e. (search rules, search rules, λ j a b q. search rules))

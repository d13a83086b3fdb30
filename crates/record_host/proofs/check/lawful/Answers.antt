use Rattle.std.proofs.Common.{rules}
use Rattle.record_host.proofs.Portions.{decided}
use Rattle.record_host.proofs.check.lawful.Goals as goal

pub returns-then-counted : goal.returns-then-counted
returns-then-counted c =
    let parts = c.of.result in
    decided c.args.words.now (c.counted.ensures.0 c.if-counted.true) parts.amounts.fields.now parts.flags.fields.now parts.flags.values.now (search rules) (search rules) (search rules) c.lawful.result c.lawful.ensures

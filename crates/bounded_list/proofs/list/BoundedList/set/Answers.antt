use Rattle.std.proofs.Common.{◌<◌, arith, length-take, rules}
use Rattle.std.proofs.Math.Seq.{take-set-lt}
use Rattle.bounded_list.proofs.list.BoundedList.set.Goals as goal

-- a write before the end of the items is one among them
pub returns : goal.returns
returns g c =
    let list = c.args.self.now in
    let inside : c.args.index < list.count = omega (arith, length-take list.count list.places) in
    search (rules, take-set-lt)

use Rattle.std.proofs.Common.{arith}
use Rattle.std.proofs.lemmas.Bool.Decides.{not_from_Decides}
use Rattle.table.specs.Answers.Refused.{length-is-none, node-is-bad}
use Rattle.table.proofs.Proved.{listed-laid-out}
use Rattle.table.proofs.checking.check.Goals as goal

pub returns-then-is_empty : goal.returns-then-is_empty
returns-then-is_empty c = rw c.into.ensures (length-is-none (λ s. grind (arith, s.0, s.1, c.then-is_empty.branch)))

pub returns-then-not-listed : goal.returns-then-not-listed
returns-then-not-listed c =
    rw c.at.ensures (
    node-is-bad c.loop-i.i (grind arith)
    (record { there = c.loop-i-test.true; bad = not_from_Decides _ c.listed.ensures c.if-not-listed.true; below = c.loop-i.invariant })
    )

pub returns : goal.returns
returns c = (grind arith, listed-laid-out c.args.nodes.now (grind arith) (λ j h. c.loop-i.invariant j (omega arith)))

use Rattle.std.proofs.Common.{ap, arith}
use Rattle.table.proofs.Rows.{no-final}
use Rattle.table.proofs.Placed.{lays-rises-all}
use Rattle.table.specs.Layout.{of_final}
use Rattle.walk.specs.Walked.{env_of}
use Rattle.walk.specs.Lay.{live}
use Rattle.walk.specs.Programs.{walk_final}
use Rattle.admission.proofs.declaring.ending.Goals as goal

pub returns-else-at-stop : goal.returns-else-at-stop
returns-else-at-stop c =
    record {
      answer = λ f l. ap (λ z. walk_final (env_of c.args.context.now) z c.args.flags.now.set (live c.args.code.now)) (no-final c.args.context.now.nodes.now c.args.at c.args.stop f l c.if-at-stop.false);
      room = let h = lays-rises-all (of_final c.requires.tree.0) c.args.context.now.nodes.now c.args.at c.args.stop c.requires.tree.1 in (omega arith, omega arith);
    }

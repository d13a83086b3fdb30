use Rattle.std.proofs.Common.{rules}
use Rattle.std.proofs.lemmas.Result.{err_from_is_err_and}
use Rattle.table.proofs.Proved.{layout-lays, layout-end}
use Rattle.admission.specs.Judged.{refused_table}
use Rattle.admission.proofs.Whole.{judged-walk, judged-bare}
use Rattle.admission.proofs.deciding.decide.Goals as goal

pub returns-in_err-check-clause-verdict : goal.returns-in_err-check-clause-verdict
returns-in_err-check-clause-verdict c =
    let q = err_from_is_err_and c.from_residual.result c.from_residual.ensures.1 in
    rw (q.1, q.2) (refused_table c.in_err-check.field-0.0 c.in_err-check.ensures)

pub program-typed-requires-clause-tree : goal.program-typed-requires-clause-tree
program-typed-requires-clause-tree c =
    let a = c.in_ok-check.ensures in
    (a.1.0, layout-lays a.1.0 c.args.nodes.now a.1.2, layout-end a.1.0 c.args.nodes.now a.1.2)

pub returns-then-is_err-clause-verdict : goal.returns-then-is_err-clause-verdict
returns-then-is_err-clause-verdict c =
    let a = c.in_ok-check.ensures in
    judged-bare c.args.nodes.now c.program-typed.result c.program-typed.new.code c.clear-then-is_err.new.self (search rules) (judged-walk c.args.nodes.now c.program-typed.result c.program-typed.new.code a.0 a.1 c.program-typed.ensures)

pub returns-else-is_err-clause-verdict : goal.returns-else-is_err-clause-verdict
returns-else-is_err-clause-verdict c =
    let a = c.in_ok-check.ensures in
    judged-walk c.args.nodes.now c.program-typed.result c.program-typed.new.code a.0 a.1 c.program-typed.ensures

use Rattle.std.proofs.Common.{◌<◌, sym, ap, ◌∙◌, arith}
use Rattle.std.proofs.lemmas.Result.{err_from_is_err_and}
use Rattle.machine.specs.Cells.{bind, present, value, times}
use Rattle.machine.specs.Frames.{at, value_at}
use Rattle.machine.proofs.Times.{each_goes, each_halts}
use Rattle.machine.proofs.calls.arguments_at.Goals as goal

pub returns-in_err-present : goal.returns-in_err-present
returns-in_err-present c =
    let p = err_from_is_err_and c.from_residual.result c.from_residual.ensures.1 in
    let less : c.loop-cell.cell-index < c.args.count = omega arith in
    let halts = each_halts present c.args.cells.now c.args.from c.args.count _ less _ c.in_err-present.ensures in
    rw (p.1, p.2) (sym (ap (λ r. bind r (λ _. times c.args.count (value_at (at c.args.cells.now)) c.args.from)) (c.loop-cell.invariant ∙ halts)))

pub loop-cell-preserved : goal.loop-cell-preserved
loop-cell-preserved c =
    let less : c.loop-cell.cell-index < c.args.count = omega arith in
    c.loop-cell.invariant ∙ each_goes present c.args.cells.now c.args.from c.args.count _ less _ c.in_ok-present.ensures

pub returns-in_err-value : goal.returns-in_err-value
returns-in_err-value c =
    let p = err_from_is_err_and c.from_residual-in_err-value.result c.from_residual-in_err-value.ensures.1 in
    let less : c.loop-cell-2.cell-index < c.args.count = omega arith in
    let halts = each_halts value c.args.cells.now c.args.from c.args.count _ less _ c.in_err-value.ensures in
    let inv = c.loop-cell-2.invariant in
    rw (p.1, p.2) (sym (ap (λ r. bind r (λ _. times c.args.count (value_at (at c.args.cells.now)) c.args.from)) inv.0 ∙ inv.1 ∙ halts))

pub loop-cell-2-preserved : goal.loop-cell-2-preserved
loop-cell-2-preserved c =
    let less : c.loop-cell-2.cell-index < c.args.count = omega arith in
    let inv = c.loop-cell-2.invariant in
    (inv.0, inv.1 ∙ each_goes value c.args.cells.now c.args.from c.args.count _ less _ c.in_ok-value.ensures)

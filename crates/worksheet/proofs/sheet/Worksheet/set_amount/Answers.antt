use Rattle.std.proofs.Common.{ap, w32}
use Rattle.std.proofs.lemmas.Int.{to_z-of_z}
use Rattle.worksheet.specs.Rows.{amount_of}
use Rattle.worksheet.specs.Sheet.{filled_in, filled_rows}
use Rattle.worksheet.proofs.Setting.{amount-grown, row_set}
use Rattle.worksheet.proofs.sheet.Worksheet.set_amount.Goals as goal

pub returns : goal.returns
returns c =
    let before = c.args.self.now in
    let set = row_set _ _ _ c.args.field before c.set.result c.set.new.self (amount-grown (filled_rows before.rows) c.args.field (filled_in before)) (ap amount_of) c.set.ensures in
    rw (to_z-of_z w32 c.args.value c.ranges.value) at set

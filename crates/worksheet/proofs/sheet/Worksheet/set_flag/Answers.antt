use Rattle.std.proofs.Common.{ap}
use Rattle.worksheet.specs.Rows.{flag_of}
use Rattle.worksheet.specs.Sheet.{filled_in, filled_rows}
use Rattle.worksheet.proofs.Setting.{flag-grown, row_set}
use Rattle.worksheet.proofs.sheet.Worksheet.set_flag.Goals as goal

pub returns : goal.returns
returns c =
    let before = c.args.self.now in
    row_set _ _ _ c.args.field before c.set.result c.set.new.self (flag-grown (filled_rows before.rows) c.args.field (filled_in before)) (ap flag_of) c.set.ensures

use Rattle.std.proofs.Common.{sym, ◌∙◌}
use Rattle.bounded_list.specs.Items.{items}
use Rattle.worksheet.proofs.Entries.{entry_at, entry-none}
use Rattle.worksheet.proofs.rows.Rows.entry.Goals as goal

pub returns-in_err-place : goal.returns-in_err-place
returns-in_err-place c =
    c.from_residual.ensures ∙ sym (entry-none (items c.args.self.now.filled) c.args.field c.args.kind c.in_err-place.ensures)

pub returns : goal.returns
returns c =
    let found = c.in_ok-place.ensures in
    rw c.as_slice.ensures (sym (entry_at (items c.args.self.now.filled) c.args.field c.args.kind c.in_ok-place.place found.0 found.1 found.2))

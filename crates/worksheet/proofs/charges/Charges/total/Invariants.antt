use Rattle.std.proofs.Common.{◌≡◌, ◌*◌, ◌≤◌, take, nat_abs}
use Rattle.bounded_list.specs.Items.{items}
use Rattle.worksheet.specs.Sheet.{total_of}
use Rattle.worksheet.proofs.charges.Charges.total.Given as goal

-- the lines so far are added up, and each adds at most 2,147,483,648
abbrev pub invariant-loop-charge : goal.invariant-loop-charge
invariant-loop-charge l = (l.sum ≡ total_of l.account (take l.charge-index (items l.self.taken))) × (nat_abs l.sum ≤ 2147483648 * l.charge-index)

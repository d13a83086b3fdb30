use Rattle.std.proofs.Common.{◌≡◌, get_or, set, pos, ◌+ℤ◌, sym, ap, arith, rules}
use Rattle.host.specs.Meaning.{left}
use Rattle.record_host.specs.Checked.{record_of}
use Rattle.record_host.specs.Means.{amount_of, flag_of, meaning}
use Rattle.record_host.proofs.Posting.{posted}
use Rattle.record_host.proofs.serve.RecordHostHost.post.Goals as goal

pub returns-clause-after : goal.returns-clause-after
returns-clause-after c =
    let h = c.args.self.now in
    let words = record_of h.checked in
    let sums : c.charge.new.self.sums ≡ set h.totals.sums c.args.account (get_or h.totals.sums c.args.account (pos 0) +ℤ c.args.value) = search rules in
    let taken = posted (amount_of words) (flag_of words) h.totals.sums h.checked.accounts h.totals.left c.charge.new.self.left c.args.account c.args.value (omega arith) (omega arith) (omega arith) (search rules) in
    rw sums (sym (ap (λ p. left p (meaning h)) taken))

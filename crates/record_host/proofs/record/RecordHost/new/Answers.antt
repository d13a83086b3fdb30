use Rattle.std.proofs.Common.{ltb, get_or, pos, Some, None, ap, ◌∙◌, rules}
use Rattle.std.proofs.lemmas.Bool.{cond-true, lt-ltb}
use Rattle.record_host.specs.Checked.{record_of}
use Rattle.record_host.specs.Says.{amount_group, flag_group, signed, truth}
use Rattle.record_host.proofs.Lookup.{said}
use Rattle.record_host.proofs.record.RecordHost.new.Goals as goal

pub returns : goal.returns
returns c =
    let words = record_of c.args.checked in
    record {
      amount = said words (amount_group words) signed c.args.checked.lawful.1.0;
      flag = said words (flag_group words) truth c.args.checked.lawful.1.1;
      opened =
          λ a inside.
          cond-true (ltb a c.args.checked.accounts) (Some (get_or c.none.result.sums a (pos 0))) None (lt-ltb a c.args.checked.accounts inside)
          ∙ ap Some (c.none.ensures.sums a);
      closed = search rules;
      unposted = search rules;
    }

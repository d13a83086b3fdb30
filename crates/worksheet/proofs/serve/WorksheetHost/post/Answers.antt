use Rattle.std.proofs.Common.{◌≡◌, ◌-◌, ◌++◌, ◌∷◌, [], length, sym, ap, arith, rules, length-append}
use Rattle.host.specs.Meaning.{left}
use Rattle.bounded_list.specs.Items.{items}
use Rattle.worksheet.specs.declared.charges.Charge.{Charge}
use Rattle.worksheet.specs.Sheet.{charges_of, meaning}
use Rattle.worksheet.proofs.Listing.{posted}
use Rattle.worksheet.proofs.serve.WorksheetHost.post.Goals as goal

pub returns-clause-after : goal.returns-clause-after
returns-clause-after c =
    let h = c.args.self.now in
    let charge : Charge = record { account = c.args.account; value = c.args.value } in
    let lines : items c.push.new.self ≡ charges_of h ++ (charge ∷ []) = search rules in
    let rest : h.charges.most - length (charges_of h ++ (charge ∷ [])) ≡ h.charges.most - length (charges_of h) - 1 = simp length-append (omega arith) in
    let taken = posted (meaning h).amount (meaning h).flag (charges_of h) h.accounts (h.charges.most - length (charges_of h)) _ c.args.account c.args.value (omega arith) (omega arith) rest in
    rw lines (sym (ap (λ p. left p (meaning h)) taken))

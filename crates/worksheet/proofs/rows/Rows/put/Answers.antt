use Rattle.std.proofs.Common.{◌≡◌, ◌++◌, ◌∷◌, [], length, set, sym, refl, ap, ◌∙◌, rules, length-set}
use Rattle.std.proofs.lemmas.Bool.{eqb-true}
use Rattle.std.proofs.lemmas.List.{length_push}
use Rattle.bounded_list.specs.Items.{items}
use Rattle.worksheet.specs.Rows.{Apart, entry_in, kind_of}
use Rattle.worksheet.specs.Sheet.{grown}
use Rattle.worksheet.proofs.Entries.{apart-added, entry_at, entry-none, entry-replaced, entry-added}
use Rattle.worksheet.proofs.rows.Rows.put.Goals as goal

pub returns-in-None : goal.returns-in-None
returns-in-None c =
    let rows = items c.args.self.now.filled in
    let row = c.args.row in
    let full : length rows ≡ 64 = search (rules, eqb-true) in
    (refl, refl, full, entry-none rows row.field (kind_of row.entry) (rw c.kind.ensures at c.in-None.ensures))

pub invariant_of-self-in-None-2 : goal.invariant_of-self-in-None-2
invariant_of-self-in-None-2 c =
    let rows = items c.args.self.now.filled in
    let apart : Apart (rows ++ (c.args.row ∷ [])) = apart-added rows c.args.row c.args.self.now.apart (rw c.kind.ensures at c.in-None-2.ensures) in
    record { apart = rw c.push.ensures apart }

pub returns-in-Some : goal.returns-in-Some
returns-in-Some c =
    let before = items c.args.self.now.filled in
    let row = c.args.row in
    let place = c.in-Some.place in
    let found = rw c.kind.ensures at c.in-Some.ensures in
    let after : items c.set.new.self ≡ set before place row = search rules in
    let some = entry_at before row.field (kind_of row.entry) place found.0 found.1 found.2 in (
      (λ field kind. ap (entry_in field kind) after ∙ entry-replaced before place row field kind found.0 found.1 found.2),
      ap length after ∙ length-set before place row ∙ sym (ap (λ o. grown o (length before)) some),
    )

pub returns-in-None-2 : goal.returns-in-None-2
returns-in-None-2 c =
    let before = items c.args.self.now.filled in
    let row = c.args.row in
    let none = rw c.kind.ensures at c.in-None-2.ensures in
    let after : items c.push.new.self ≡ before ++ (row ∷ []) = search rules in
    let nothing = entry-none before row.field (kind_of row.entry) none in (
      (λ field kind. ap (entry_in field kind) after ∙ entry-added before row field kind none),
      ap length after ∙ length_push before row ∙ sym (ap (λ o. grown o (length before)) nothing),
    )

use Rattle.std.proofs.Common.{◌≡◌, ◌∙◌, length, arith, rules}
use Rattle.std.proofs.lemmas.List.{take_all}
use Rattle.std.specs.Option.{option_map}
use Rattle.record_host.specs.Lawful.{amounts, values}
use Rattle.record_host.specs.Says.{amount_group, signed}
use Rattle.record_host.proofs.Lookup.{given}
use Rattle.record_host.proofs.Portions.{increasing_from, increasing_take, as_long}
use Rattle.record_host.proofs.read.amount_of.Goals as goal

-- The code looks in the whole group. These answers hold besides for a body that looks in the first of its fields and values, as many as there are amounts, whichever way that number is come by; so an edit that looks in fewer is refused for what it leaves out.
pub value-requires-clause-rising : goal.value-requires-clause-rising
value-requires-clause-rising c =
    let rising = increasing_from c.args.words.now 2 _ (omega arith) c.requires.1.0 in
    grind (arith, increasing_take)

pub returns : goal.returns
returns c =
    let words = c.args.words.now in
    let fields_long : length c.of.result.amounts.fields.now ≡ amounts words = as_long words 2 (amounts words) _ c.of.ensures.amount_fields (omega arith) in
    let values_long : length c.of.result.amounts.values.now ≡ amounts words = as_long words (values words) (amounts words) _ c.of.ensures.amount_values (omega arith) in
    let said = given words (amount_group words) signed c.requires.1.0 c.args.field _ _ c.value.result c.value.ensures (grind (arith, take_all)) (grind (arith, take_all)) (omega arith) in
    let read : c.map.result ≡ option_map signed c.value.result = search rules in
    read ∙ said

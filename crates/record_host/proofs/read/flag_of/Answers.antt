use Rattle.std.proofs.Common.{◌≡◌, ◌+◌, ◌∙◌, length, arith, rules}
use Rattle.std.specs.Option.{option_map}
use Rattle.record_host.specs.Lawful.{amounts, flags, values}
use Rattle.record_host.specs.Says.{flag_group, truth}
use Rattle.record_host.proofs.Lookup.{given}
use Rattle.record_host.proofs.Portions.{as_long}
use Rattle.record_host.proofs.read.flag_of.Goals as goal

-- The code takes the group as it is. This answer holds besides for a body that takes as many words as there are flags from the place of their values on, whichever way that place is come by; so an edit that takes them from another is refused for that place.
pub returns : goal.returns
returns c =
    let words = c.args.words.now in
    let fields_long : length c.of.result.flags.fields.now ≡ flags words = as_long words (2 + amounts words) (flags words) _ c.of.ensures.flag_fields (omega arith) in
    let values_long : length c.of.result.flags.values.now ≡ flags words = as_long words (values words + amounts words) (flags words) _ c.of.ensures.flag_values (omega arith) in
    let said = given words (flag_group words) truth c.requires.1.1 c.args.field _ _ c.value.result c.value.ensures (search rules) (search rules) (omega arith) in
    let read : c.map.result ≡ option_map truth c.value.result = search rules in
    read ∙ said

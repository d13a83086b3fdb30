use Rattle.std.proofs.Common.{ltb, rules}
use Rattle.std.proofs.lemmas.List.Sorted.{answers_always}
use Rattle.record_host.proofs.parts.rises.Goals as goal

pub returns : goal.returns
returns c =
    let cases = c.is_sorted_by.ensures.cases ltb (answers_always _ _ _ (λ f a r g called. search rules)) in
    search rules

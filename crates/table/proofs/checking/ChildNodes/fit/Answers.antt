use Rattle.std.proofs.Common.{arith, rules, tests}
use Rattle.std.proofs.lemmas.Bool.{ne_eqb}
use Rattle.table.proofs.Chains.{folded, folded-short, decides-no}
use Rattle.table.proofs.checking.ChildNodes.fit.Goals as goal

pub returns-then-self : goal.returns-then-self
returns-then-self c =
    folded _ _ (λ p a n v q k. search (rules, tests)) _ _ _ _ _ c.try_fold-left.ensures.ran _ c.is_some_and.ensures (omega (arith, c.if-self.true))

pub returns-else-self : goal.returns-else-self
returns-else-self c =
    decides-no _ (ne_eqb _ _ c.if-self.false) (folded-short _ _ (λ p a n v q k. search (rules, tests)) _ _ _ _ _ c.try_fold-left.ensures.ran c.if-self.false)

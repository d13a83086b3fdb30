use Rattle.verdict.proofs.Lawful.{lawful-translation}
use Rattle.verdict.proofs.lays_lawful_code.Goals as goal

pub returns : goal.returns
returns c = lawful-translation

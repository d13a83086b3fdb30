use Rattle.promises.proofs.Kept.{never-in-trouble, named-endings, reaches-evaluation, ends-as-evaluated, some-allowance-ends-it}
use Rattle.promises.proofs.admitted_runs_keep_their_promises.Goals as goal

pub returns : goal.returns
returns c = record {
  trouble = never-in-trouble;
  endings = named-endings;
  reaches = reaches-evaluation;
  ended = ends-as-evaluated;
  ends = some-allowance-ends-it;
}

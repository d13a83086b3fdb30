use Rattle.std.proofs.Common.{◌<◌, subst, arith, length-take-le}
use Rattle.std.proofs.lemmas.List.{get_or-take}
use Rattle.calls.specs.Called.{Called}
use Rattle.calls.specs.Played.{world_of}
use Rattle.calls.proofs.Plays.{wrote-more, all-wrote, carries-on}
use Rattle.calls.proofs.Found.{can-go-on}
use Rattle.calls.proofs.Onward.{can-go-far}
use Rattle.calls.proofs.Laws.{admitted-has-rules, runs-its-image, never-in-trouble, named-endings, runs-as-one, same_runs, reaches-evaluation, ends-as-evaluated, some-allowance-ends-it}
use Rattle.calls.proofs.play.play.Goals as goal

pub loop-k-preserved : goal.loop-k-preserved
loop-k-preserved g c =
    let size = length-take-le c.min-count.result c.args.calls.now (omega arith) in
    let h : c.loop-k.k < c.min-count.result = omega arith in
    let here = world_of c.loop-k.buffer c.loop-k.cells c.loop-k.work.stage (g.H.Host.means c.loop-k.host) in
    let next = world_of c.one.new.buffer c.one.new.cells c.one.new.work.stage (g.H.Host.means c.one.new.host) in
    wrote-more c.args.calls.now c.loop-k.k _ _ here next _ c.loop-k.answers c.one.result (omega arith) (omega arith) c.loop-k.invariant
    (subst (λ x. Called x here c.one.result next) (get_or-take c.min-count.result c.args.calls.now c.loop-k.k _ h) c.one.ensures)

pub returns : goal.returns
returns g c = let size = length-take-le c.min-count.result c.args.calls.now (omega arith) in record {
  count = c.min-count.ensures;
  wrote = all-wrote _ c.loop-k.k c.min-count.result _ _ _ _ (omega arith) c.loop-k.invariant;
  onward = carries-on;
  rules = admitted-has-rules;
  image = runs-its-image;
  trouble = never-in-trouble;
  endings = named-endings;
  one = runs-as-one;
  same = same_runs;
  further = can-go-on;
  far = can-go-far;
  reaches = reaches-evaluation;
  ended = ends-as-evaluated;
  ends = some-allowance-ends-it;
}

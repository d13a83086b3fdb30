use Rattle.std.proofs.Common.{sym, ap, ◌∙◌, arith}
use Rattle.script.specs.Words.{words}
use Rattle.script.proofs.Cuts.{cut, none, skipped, some_byte}
use Rattle.script.proofs.words.first.Goals as goal

pub returns-then-is_empty : goal.returns-then-is_empty
returns-then-is_empty c = record {
  cuts =
      skipped c.front.result c.args.text.now c.front.ensures.within c.front.ensures.all
      ∙ ap words (sym c.split_at.ensures.back)
      ∙ none c.split_at.result.1.now c.if-is_empty.ensures;
  shorter = tt;
}

pub returns : goal.returns
returns c = record {
  cuts =
      skipped c.front.result c.args.text.now c.front.ensures.within c.front.ensures.all
      ∙ cut c.front.result c.front-2.result c.args.text.now _ _ _ c.split_at.ensures.back c.if-is_empty.ensures c.front.ensures.stops c.front-2.ensures.within c.front-2.ensures.all c.front-2.ensures.stops c.split_at-2.ensures.front c.split_at-2.ensures.back;
  shorter =
      let long = some_byte c.front.result c.front-2.result c.args.text.now _ c.split_at.ensures.back c.if-is_empty.ensures c.front.ensures.stops c.front-2.ensures.stops in
      omega (arith, c.split_at.ensures.back_len, c.split_at-2.ensures.back_len, c.front.ensures.within);
}

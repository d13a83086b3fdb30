-- The list is as worked out. Assumes nothing.
use Rattle.std.proofs.Common.{[], Ok, Err, Result, refl, arith, lit≤}
use Rattle.language.specs.declared.faults.Fault.{Fault}
use Rattle.table.specs.Samples.{sum_table, sum_tree}
use Rattle.table.specs.Layout.{WithinLimits}
use Rattle.table.specs.Answers.{Sized, length-is-none, fault}
use Rattle.walk.specs.Programs.{walk_program}
use Rattle.engine.specs.Calls.{Area, Resumed, beginning, resuming, clearing}
use Rattle.engine.specs.Admit.{admitting}
use Rattle.admission.specs.Judged.{Judged, refused_table, walked}
use Rattle.calls.specs.History.{History, RunOf}
use Rattle.calls_worked.specs.Sample.{declaration, fresh, earlier, admitted, between, begun, since, rest, sample, Worked}

-- the area that came out, or else the old one
abbrev left : Result Area Fault → Area → Area
left (Ok a) old = a
left (Err f) old = old

abbrev left_resumed : Result Resumed Fault → Area → Area
left_resumed (Ok r) old = r.area
left_resumed (Err f) old = old

-- the areas that the list goes through
abbrev ready : Area
ready = left (admitting (walk_program sum_tree) fresh) fresh

abbrev started : Area
started = left (beginning ready) ready

abbrev paused : Area
paused = left_resumed (resuming 2 declaration started) started

abbrev over : Area
over = left_resumed (resuming 10 declaration paused) paused

sized : Sized sum_table
sized = (lit≤ tt, lit≤ tt)

limited : WithinLimits sum_tree
limited = (refl, ((refl, ((refl, tt), ((refl, ((refl, tt), ((refl, tt), tt))), tt))), tt))

sum-judged : Judged sum_table (walk_program sum_tree)
sum-judged = walked sum_tree limited refl sized

none-judged : Judged [] (Err (fault 0))
none-judged = refused_table (fault 0) (length-is-none (λ s. omega (arith, s.0)))

played : History fresh sample (clearing over)
played = (
  fresh,
  (refl, refl),
  (
    fresh,
    (refl, refl),
    (
      ready,
      (walk_program sum_tree, sum-judged, (refl, refl)),
      (
        ready,
        (refl, refl),
        (
          started,
          (refl, refl),
          (
            paused,
            (refl, refl),
            (
              paused,
              (refl, refl),
              (
                paused,
                (Err (fault 0), none-judged, (refl, refl)),
                (
                  over,
                  (refl, refl),
                  (
                    over,
                    (refl, refl),
                    (clearing over, (refl, refl), refl),
                  ),
                ),
              ),
            ),
          ),
        ),
      ),
    ),
  ),
)

run : RunOf sum_table 12 begun since
run = record {
  area = fresh;
  after = clearing over;
  entries = sample;
  new = refl;
  number = refl;
  history = played;
  within = record {
    earlier = earlier;
    admitted = admitted;
    between = between;
    rest = rest;
    these = refl;
    admits = refl;
    admits-taken = refl;
    stays = (refl, tt);
    begins = refl;
    begins-taken = refl;
    lasts = (refl, (refl, (refl, (refl, (refl, tt)))));
  };
}

pub worked : Worked
worked = ((clearing over, played), run, (refl, (refl, (refl, refl))), refl, refl, refl)

use Rattle.std.proofs.Common.{◌<◌, ◌∙◌, arith}
use Rattle.machine.specs.Contexts.{state_of}
use Rattle.machine.proofs.Runs.{run-goes, run_ends, run-halts}
use Rattle.machine.proofs.context.Context.run.Goals as goal

pub returns-in-Err : goal.returns-in-Err
returns-in-Err g c =
    let less : c.loop-steps.steps < c.args.allowance = omega arith in
    record {
      run = run-halts c.args.image.words.now c.args.image.header c.args.allowance c.loop-steps.steps less
          (g.H.Host.means c.args.host.now) (state_of c.args.self.now)
          (g.H.Host.means c.loop-steps.host) (state_of c.loop-steps.self) c.loop-steps.invariant.1
          c.step.new.self.machine c.step.new.self.cells.now (g.H.Host.means c.step.new.host) c.in-Err.halt c.in-Err.ensures.state;
      same = c.step.ensures.same ∙ c.loop-steps.invariant.0;
      most = omega arith;
    }

pub returns-in-Ok-Ended : goal.returns-in-Ok-Ended
returns-in-Ok-Ended g c =
    let less : c.loop-steps.steps < c.args.allowance = omega arith in
    record {
      run = run_ends c.args.image.words.now c.args.image.header c.args.allowance c.loop-steps.steps less
          (g.H.Host.means c.args.host.now) (state_of c.args.self.now)
          (g.H.Host.means c.loop-steps.host) (state_of c.loop-steps.self) c.loop-steps.invariant.1
          c.step.new.self.machine c.step.new.self.cells.now (g.H.Host.means c.step.new.host) _ c.in-Ok-Ended.value c.in-Ok-Ended.field-0-is c.in-Ok-Ended.ensures.state;
      same = c.step.ensures.same ∙ c.loop-steps.invariant.0;
      most = omega arith;
    }

pub loop-steps-preserved : goal.loop-steps-preserved
loop-steps-preserved g c =
    let less : c.loop-steps.steps < c.args.allowance = omega arith in (
      c.step.ensures.same ∙ c.loop-steps.invariant.0,
      run-goes c.args.image.words.now c.args.image.header c.args.allowance c.loop-steps.steps less
          (g.H.Host.means c.args.host.now) (state_of c.args.self.now)
          (g.H.Host.means c.loop-steps.host) (state_of c.loop-steps.self) c.loop-steps.invariant.1
          c.step.new.self.machine c.step.new.self.cells.now (g.H.Host.means c.step.new.host) _ c.in-Ok-Next.field-0-is c.in-Ok-Next.ensures.state,
    )

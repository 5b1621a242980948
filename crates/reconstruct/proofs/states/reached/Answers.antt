use Rattle.reconstruct.proofs.Reaching.{leads_next, runs_next}
use Rattle.reconstruct.proofs.states.reached.Goals as goal

pub step_on-requires-clause-leads : goal.step_on-requires-clause-leads
step_on-requires-clause-leads g c =
    leads_next (g.S.Space.view c.args.space.now).system c.args.operators.now c.operators.op-index
    c.operators-test.true c.operators.state c.requires.0 c.requires.1 c.operators.invariant.runs

pub operators-preserved : goal.operators-preserved
operators-preserved g c =
    let t = c.in_ok-state-2.state in
    record {
      runs = runs_next (g.S.Space.view c.args.space.now).system c.args.operators.now c.operators.op-index
          c.operators-test.true c.operators.state c.requires.0 c.requires.1 c.operators.invariant.runs t
          c.in_ok-state-2.ensures.1;
      state = c.in_ok-state-2.ensures.0;
    }

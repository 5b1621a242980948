use Rattle.space_api.proofs.ReachedStates.{state_reached}
use Rattle.space_api.proofs.states.has_state.Goals as goal

pub has-requires-clause-state : goal.has-requires-clause-state
has-requires-clause-state g c = state_reached (g.S.Space.view c.args.space.now) c.task-task.result.now
    c.parts.ensures.fits (g.met.S.Space.of_task c.args.space.now) c.task-task.ensures
    c.args.state.now c.requires.state

use Rattle.space_api.proofs.ReachedStates.{reached_state}
use Rattle.space_api.proofs.states.values_of.Goals as goal

pub closed_by-requires-clause-state : goal.closed_by-requires-clause-state
closed_by-requires-clause-state g c = reached_state (g.S.Space.view c.args.space.now) c.task-task.result.now
    c.parts.ensures.fits (g.met.S.Space.of_task c.args.space.now) c.task-task.ensures c.args.state.now c.requires

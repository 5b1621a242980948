use Rattle.std.proofs.Common.{◌≡◌, true, false, refl}
use Rattle.space_api.proofs.ReachedStates.{reached_state, op_in, goes_none, goes_some}
use Rattle.space_api.proofs.states.next_state.Goals as goal

pub applies_in-requires-clause-operator : goal.applies_in-requires-clause-operator
applies_in-requires-clause-operator g c = op_in (g.S.Space.view c.args.space.now) c.task-task.result.now
    c.parts.ensures.fits (g.met.S.Space.of_task c.args.space.now) c.task-task.ensures c.args.op c.requires.op

pub returns-then-not-applies_in : goal.returns-then-not-applies_in
returns-then-not-applies_in g c = goes_none (g.S.Space.view c.args.space.now) c.task-task.result.now
    c.parts.ensures.fits (g.met.S.Space.of_task c.args.space.now) c.task-task.ensures c.args.op c.args.state.now
    c.requires.state (λ a. falsum (c.if-not-applies_in.ensures.1 a))
  where
    falsum : false ≡ true → ⊥
    falsum e = cc

pub successor_in-requires-clause-state : goal.successor_in-requires-clause-state
successor_in-requires-clause-state g c = reached_state (g.S.Space.view c.args.space.now) c.task-task.result.now
    c.parts.ensures.fits (g.met.S.Space.of_task c.args.space.now) c.task-task.ensures
    c.args.state.now c.requires.state

pub returns : goal.returns
returns g c = goes_some (g.S.Space.view c.args.space.now) c.task-task.result.now c.parts.ensures.fits
    (g.met.S.Space.of_task c.args.space.now) c.task-task.ensures c.args.op c.args.state.now
    c.in_ok-successor_in.field-0 c.requires.state (c.if-not-applies_in.ensures.0 refl)
    c.in_ok-successor_in.ensures.after c.in_ok-successor_in.ensures.state

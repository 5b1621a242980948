use Rattle.std.proofs.Common.{IsTrue, IfOk, All, ap, subst}
use Rattle.std.proofs.lemmas.Result.{IfOk-weaker}
use Rattle.symk_task.specs.declared.parts.TaskParts.{TaskParts}
use Rattle.symk_task.specs.Steps.{Holds}
use Rattle.symk_task.specs.Fits.{Fits}
use Rattle.space_api.specs.View.{GoalIn}
use Rattle.explicit_space.specs.Members.{has_explicit_state, AreStates, HasThoseStates}
use Rattle.explicit_space.specs.Explicit.{Explicit}
use Rattle.explicit_space.specs.Seen.{explicit_view}
use Rattle.explicit_space.proofs.Meaning.{states_as, goal_means, goal_states}
use Rattle.explicit_space.proofs.explicit.ExplicitSpace.goal_members.Goals as goal

pub returns-clause-ok : goal.returns-clause-ok
returns-clause-ok c =
    let e = c.args.self.now in
    let is = ap (λ (x : Explicit). x.task) c.self.view_is in
    let fits = subst Fits is c.self.invariant.fits in
    let said = subst (λ (t : TaskParts). IfOk c.goal_states.result
    (λ set. HasThoseStates set (λ s. IsTrue (has_explicit_state c.members.result.now s)
    × All (Holds t s) t.goal))) is c.goal_states.ensures in
    IfOk-weaker c.goal_states.result (λ set. HasThoseStates set
    (λ s. IsTrue (has_explicit_state c.members.result.now s) × All (Holds e.task s) e.task.goal))
    (λ set. HasThoseStates set (GoalIn (explicit_view e) c.args.a))
    (λ set. goal_means e fits c.args.a c.members.result.now c.members.ensures.set c.members.ensures.states set) said

pub returns-clause-states : goal.returns-clause-states
returns-clause-states c =
    let e = c.args.self.now in
    let is = ap (λ (x : Explicit). x.task) c.self.view_is in
    let fits = subst Fits is c.self.invariant.fits in
    let said = subst (λ (t : TaskParts). IfOk c.goal_states.result
    (λ set. HasThoseStates set (λ s. IsTrue (has_explicit_state c.members.result.now s)
    × All (Holds t s) t.goal))) is c.goal_states.ensures in
    IfOk-weaker c.goal_states.result (λ set. HasThoseStates set
    (λ s. IsTrue (has_explicit_state c.members.result.now s) × All (Holds e.task s) e.task.goal))
    (λ set. AreStates e.task set)
    (λ set h. states_as e.task set (GoalIn (explicit_view e) c.args.a)
    (goal_states e fits c.args.a c.members.result.now c.members.ensures.set c.members.ensures.states)
    (goal_means e fits c.args.a c.members.result.now c.members.ensures.set c.members.ensures.states set h)) said

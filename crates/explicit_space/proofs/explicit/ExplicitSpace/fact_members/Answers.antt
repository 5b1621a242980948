use Rattle.std.proofs.Common.{IsTrue, IfOk, ap, subst}
use Rattle.std.proofs.lemmas.Result.{IfOk-weaker}
use Rattle.symk_task.specs.declared.parts.TaskParts.{TaskParts}
use Rattle.symk_task.specs.Steps.{Holds}
use Rattle.symk_task.specs.Fits.{Fits}
use Rattle.space_api.specs.View.{FactIn}
use Rattle.explicit_space.specs.Members.{has_explicit_state, AreStates, HasThoseStates}
use Rattle.explicit_space.specs.Explicit.{Explicit}
use Rattle.explicit_space.specs.Seen.{explicit_view}
use Rattle.explicit_space.proofs.HavingFact.{fact_means, fact_are}
use Rattle.explicit_space.proofs.explicit.ExplicitSpace.fact_members.Goals as goal

pub returns-clause-ok : goal.returns-clause-ok
returns-clause-ok c =
    let e = c.args.self.now in
    let is = ap (λ (x : Explicit). x.task) c.self.view_is in
    let fits = subst Fits is c.self.invariant.fits in
    let said = subst (λ (t : TaskParts). IfOk c.fact_states.result
    (λ set. HasThoseStates set (λ s. IsTrue (has_explicit_state c.members.result.now s)
    × Holds t s c.args.fact))) is c.fact_states.ensures in
    IfOk-weaker c.fact_states.result (λ set. HasThoseStates set
    (λ s. IsTrue (has_explicit_state c.members.result.now s) × Holds e.task s c.args.fact))
    (λ set. HasThoseStates set (FactIn (explicit_view e) c.args.fact c.args.a))
    (λ set. fact_means e fits c.args.fact c.args.a c.members.result.now c.members.ensures.set c.members.ensures.states set) said

pub returns-clause-states : goal.returns-clause-states
returns-clause-states c =
    let e = c.args.self.now in
    let is = ap (λ (x : Explicit). x.task) c.self.view_is in
    let fits = subst Fits is c.self.invariant.fits in
    let said = subst (λ (t : TaskParts). IfOk c.fact_states.result
    (λ set. HasThoseStates set (λ s. IsTrue (has_explicit_state c.members.result.now s)
    × Holds t s c.args.fact))) is c.fact_states.ensures in
    IfOk-weaker c.fact_states.result (λ set. HasThoseStates set
    (λ s. IsTrue (has_explicit_state c.members.result.now s) × Holds e.task s c.args.fact))
    (λ set. AreStates e.task set) (λ set. fact_are e fits c.args.fact c.args.a c.members.result.now c.members.ensures.set c.members.ensures.states set) said

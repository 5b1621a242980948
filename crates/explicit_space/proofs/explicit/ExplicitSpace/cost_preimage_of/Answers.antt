use Rattle.std.proofs.Common.{IsTrue, IfOk, length, ap, subst}
use Rattle.std.proofs.lemmas.Result.{IfOk-weaker}
use Rattle.symk_task.specs.declared.parts.TaskParts.{TaskParts}
use Rattle.symk_task.specs.Fits.{Fits}
use Rattle.space_api.specs.View.{CostPreimage}
use Rattle.explicit_space.specs.Members.{has_explicit_state, AreStates, HasThoseStates}
use Rattle.explicit_space.specs.Steps.{StepIntoAtCost}
use Rattle.explicit_space.specs.Explicit.{Explicit}
use Rattle.explicit_space.specs.Seen.{explicit_view}
use Rattle.explicit_space.proofs.Meaning.{states_as, cost_preimage_means, cost_preimage_states}
use Rattle.explicit_space.proofs.explicit.ExplicitSpace.cost_preimage_of.Goals as goal

pub returns-clause-ok : goal.returns-clause-ok
returns-clause-ok c =
    let e = c.args.self.now in
    let is = ap (λ (x : Explicit). x.task) c.self.view_is in
    let fits = subst Fits is c.self.invariant.fits in
    let said = subst (λ (t : TaskParts). IfOk c.cost_preimage.result
    (λ set. HasThoseStates set (λ s. IsTrue (has_explicit_state c.members-2.result.now s)
    × StepIntoAtCost t (length t.operators) c.args.cost c.members.result.now s))) is c.cost_preimage.ensures in
    IfOk-weaker c.cost_preimage.result (λ set. HasThoseStates set
    (λ s. IsTrue (has_explicit_state c.members-2.result.now s)
    × StepIntoAtCost e.task (length e.task.operators) c.args.cost c.members.result.now s))
    (λ set. HasThoseStates set (CostPreimage (explicit_view e) c.args.cost c.args.a c.args.within))
    (λ set. cost_preimage_means e fits c.args.a c.args.within c.members.result.now c.members-2.result.now c.members.ensures.set c.members-2.ensures.set c.members.ensures.states c.members-2.ensures.states c.args.cost set) said

pub returns-clause-states : goal.returns-clause-states
returns-clause-states c =
    let e = c.args.self.now in
    let is = ap (λ (x : Explicit). x.task) c.self.view_is in
    let fits = subst Fits is c.self.invariant.fits in
    let said = subst (λ (t : TaskParts). IfOk c.cost_preimage.result
    (λ set. HasThoseStates set (λ s. IsTrue (has_explicit_state c.members-2.result.now s)
    × StepIntoAtCost t (length t.operators) c.args.cost c.members.result.now s))) is c.cost_preimage.ensures in
    IfOk-weaker c.cost_preimage.result (λ set. HasThoseStates set
    (λ s. IsTrue (has_explicit_state c.members-2.result.now s)
    × StepIntoAtCost e.task (length e.task.operators) c.args.cost c.members.result.now s))
    (λ set. AreStates e.task set)
    (λ set h. states_as e.task set (CostPreimage (explicit_view e) c.args.cost c.args.a c.args.within)
    (cost_preimage_states e fits c.args.a c.args.within c.members.result.now c.members-2.result.now c.members.ensures.set c.members-2.ensures.set c.members.ensures.states c.members-2.ensures.states c.args.cost) (cost_preimage_means e fits c.args.a c.args.within c.members.result.now c.members-2.result.now c.members.ensures.set c.members-2.ensures.set c.members.ensures.states c.members-2.ensures.states c.args.cost set h)) said

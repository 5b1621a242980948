use Rattle.std.proofs.Common.{IfOk, length, ap, subst}
use Rattle.std.proofs.lemmas.Result.{IfOk-weaker}
use Rattle.symk_task.specs.declared.parts.TaskParts.{TaskParts}
use Rattle.symk_task.specs.Fits.{Fits}
use Rattle.space_api.specs.View.{CostImage}
use Rattle.explicit_space.specs.Members.{AreStates, HasThoseStates, FromMember}
use Rattle.explicit_space.specs.Steps.{StepAtCost}
use Rattle.explicit_space.specs.Explicit.{Explicit}
use Rattle.explicit_space.specs.Seen.{explicit_view}
use Rattle.explicit_space.proofs.Meaning.{states_as, cost_image_means, cost_image_states}
use Rattle.explicit_space.proofs.explicit.ExplicitSpace.cost_image_of.Goals as goal

pub returns-clause-ok : goal.returns-clause-ok
returns-clause-ok c =
    let e = c.args.self.now in
    let is = ap (λ (x : Explicit). x.task) c.self.view_is in
    let fits = subst Fits is c.self.invariant.fits in
    let said = subst (λ (t : TaskParts). IfOk c.cost_image.result
    (λ set. HasThoseStates set (FromMember c.members.result.now
    (StepAtCost t (length t.operators) c.args.cost)))) is c.cost_image.ensures in
    IfOk-weaker c.cost_image.result (λ set. HasThoseStates set
    (FromMember c.members.result.now (StepAtCost e.task (length e.task.operators) c.args.cost)))
    (λ set. HasThoseStates set (CostImage (explicit_view e) c.args.cost c.args.a))
    (λ set. cost_image_means e fits c.args.a c.members.result.now c.members.ensures.set c.members.ensures.states c.args.cost set) said

pub returns-clause-states : goal.returns-clause-states
returns-clause-states c =
    let e = c.args.self.now in
    let is = ap (λ (x : Explicit). x.task) c.self.view_is in
    let fits = subst Fits is c.self.invariant.fits in
    let said = subst (λ (t : TaskParts). IfOk c.cost_image.result
    (λ set. HasThoseStates set (FromMember c.members.result.now
    (StepAtCost t (length t.operators) c.args.cost)))) is c.cost_image.ensures in
    IfOk-weaker c.cost_image.result (λ set. HasThoseStates set
    (FromMember c.members.result.now (StepAtCost e.task (length e.task.operators) c.args.cost)))
    (λ set. AreStates e.task set)
    (λ set h. states_as e.task set (CostImage (explicit_view e) c.args.cost c.args.a)
    (cost_image_states e fits c.args.a c.members.result.now c.members.ensures.set c.members.ensures.states c.args.cost) (cost_image_means e fits c.args.a c.members.result.now c.members.ensures.set c.members.ensures.states c.args.cost set h)) said

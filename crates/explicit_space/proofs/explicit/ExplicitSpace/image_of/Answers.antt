use Rattle.std.proofs.Common.{IfOk, ap, subst}
use Rattle.std.proofs.lemmas.Result.{IfOk-weaker}
use Rattle.symk_task.specs.declared.parts.TaskParts.{TaskParts}
use Rattle.symk_task.specs.Steps.{Step}
use Rattle.symk_task.specs.Fits.{Fits}
use Rattle.space_api.specs.View.{Image}
use Rattle.explicit_space.specs.Members.{AreStates, HasThoseStates, FromMember}
use Rattle.explicit_space.specs.Explicit.{Explicit}
use Rattle.explicit_space.specs.Seen.{explicit_view}
use Rattle.explicit_space.proofs.Meaning.{states_as, image_means, image_states}
use Rattle.explicit_space.proofs.explicit.ExplicitSpace.image_of.Goals as goal

pub returns-clause-ok : goal.returns-clause-ok
returns-clause-ok c =
    let e = c.args.self.now in
    let is = ap (λ (x : Explicit). x.task) c.self.view_is in
    let fits = subst Fits is c.self.invariant.fits in
    let said = subst (λ (t : TaskParts). IfOk c.image.result
    (λ set. HasThoseStates set (FromMember c.members.result.now (λ x. Step t x c.args.op)))) is c.image.ensures in
    IfOk-weaker c.image.result (λ set. HasThoseStates set
    (FromMember c.members.result.now (λ x. Step e.task x c.args.op)))
    (λ set. HasThoseStates set (Image (explicit_view e) c.args.op c.args.a))
    (λ set. image_means e fits c.args.a c.members.result.now c.members.ensures.set c.members.ensures.states c.args.op set) said

pub returns-clause-states : goal.returns-clause-states
returns-clause-states c =
    let e = c.args.self.now in
    let is = ap (λ (x : Explicit). x.task) c.self.view_is in
    let fits = subst Fits is c.self.invariant.fits in
    let said = subst (λ (t : TaskParts). IfOk c.image.result
    (λ set. HasThoseStates set (FromMember c.members.result.now (λ x. Step t x c.args.op)))) is c.image.ensures in
    IfOk-weaker c.image.result (λ set. HasThoseStates set (FromMember c.members.result.now (λ x. Step e.task x c.args.op))) (λ set. AreStates e.task set)
    (λ set h. states_as e.task set (Image (explicit_view e) c.args.op c.args.a)
    (image_states e fits c.args.a c.members.result.now c.members.ensures.set c.members.ensures.states c.args.op)
    (image_means e fits c.args.a c.members.result.now c.members.ensures.set c.members.ensures.states c.args.op set h)) said

use Rattle.std.proofs.Common.{IsTrue, IfOk, ap, subst}
use Rattle.std.proofs.lemmas.Result.{IfOk-weaker}
use Rattle.symk_task.specs.declared.parts.TaskParts.{TaskParts}
use Rattle.symk_task.specs.Fits.{Fits}
use Rattle.space_api.specs.View.{Preimage}
use Rattle.explicit_space.specs.Members.{has_explicit_state, AreStates, HasThoseStates}
use Rattle.explicit_space.specs.Steps.{StepInto}
use Rattle.explicit_space.specs.Explicit.{Explicit}
use Rattle.explicit_space.specs.Seen.{explicit_view}
use Rattle.explicit_space.proofs.Meaning.{states_as, preimage_means, preimage_states}
use Rattle.explicit_space.proofs.explicit.ExplicitSpace.preimage_of.Goals as goal

pub returns-clause-ok : goal.returns-clause-ok
returns-clause-ok c =
    let e = c.args.self.now in
    let is = ap (λ (x : Explicit). x.task) c.self.view_is in
    let fits = subst Fits is c.self.invariant.fits in
    let said = subst (λ (t : TaskParts). IfOk c.preimage.result
    (λ set. HasThoseStates set (λ s. IsTrue (has_explicit_state c.members-2.result.now s)
    × StepInto t c.args.op c.members.result.now s))) is c.preimage.ensures in
    IfOk-weaker c.preimage.result (λ set. HasThoseStates set
    (λ s. IsTrue (has_explicit_state c.members-2.result.now s)
    × StepInto e.task c.args.op c.members.result.now s))
    (λ set. HasThoseStates set (Preimage (explicit_view e) c.args.op c.args.a c.args.within))
    (λ set. preimage_means e fits c.args.a c.args.within c.members.result.now c.members-2.result.now c.members.ensures.set c.members-2.ensures.set c.members.ensures.states c.members-2.ensures.states c.args.op set) said

pub returns-clause-states : goal.returns-clause-states
returns-clause-states c =
    let e = c.args.self.now in
    let is = ap (λ (x : Explicit). x.task) c.self.view_is in
    let fits = subst Fits is c.self.invariant.fits in
    let said = subst (λ (t : TaskParts). IfOk c.preimage.result
    (λ set. HasThoseStates set (λ s. IsTrue (has_explicit_state c.members-2.result.now s)
    × StepInto t c.args.op c.members.result.now s))) is c.preimage.ensures in
    IfOk-weaker c.preimage.result (λ set. HasThoseStates set
    (λ s. IsTrue (has_explicit_state c.members-2.result.now s)
    × StepInto e.task c.args.op c.members.result.now s)) (λ set. AreStates e.task set)
    (λ set h. states_as e.task set (Preimage (explicit_view e) c.args.op c.args.a c.args.within)
    (preimage_states e fits c.args.a c.args.within c.members.result.now c.members-2.result.now c.members.ensures.set c.members-2.ensures.set c.members.ensures.states c.members-2.ensures.states c.args.op) (preimage_means e fits c.args.a c.args.within c.members.result.now c.members-2.result.now c.members.ensures.set c.members-2.ensures.set c.members.ensures.states c.members-2.ensures.states c.args.op set h)) said

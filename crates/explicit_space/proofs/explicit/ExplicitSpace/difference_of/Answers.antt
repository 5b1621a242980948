use Rattle.std.proofs.Common.{IsTrue, IsFalse, ap, subst}
use Rattle.std.proofs.lemmas.Result.{IfOk-weaker}
use Rattle.symk_task.specs.Fits.{Fits}
use Rattle.space_api.specs.View.{Lacks}
use Rattle.explicit_space.specs.Members.{has_explicit_state, AreStates, HasThoseStates}
use Rattle.explicit_space.specs.Explicit.{Explicit}
use Rattle.explicit_space.specs.Seen.{explicit_view}
use Rattle.explicit_space.proofs.Meaning.{states_as, lacks_means, lacks_states}
use Rattle.explicit_space.proofs.explicit.ExplicitSpace.difference_of.Goals as goal

pub returns-clause-ok : goal.returns-clause-ok
returns-clause-ok c =
    let e = c.args.self.now in
    let is = ap (λ (x : Explicit). x.task) c.self.view_is in
    let fits = subst Fits is c.self.invariant.fits in
    let said = c.difference.ensures in
    IfOk-weaker c.difference.result (λ set. HasThoseStates set
    (λ s. IsTrue (has_explicit_state c.members.result.now s)
    × IsFalse (has_explicit_state c.members-2.result.now s)))
    (λ set. HasThoseStates set (Lacks (explicit_view e) c.args.a c.args.b))
    (λ set. lacks_means e fits c.args.a c.args.b c.members.result.now c.members-2.result.now c.members.ensures.set c.members-2.ensures.set c.members.ensures.states c.members-2.ensures.states set) said

pub returns-clause-states : goal.returns-clause-states
returns-clause-states c =
    let e = c.args.self.now in
    let is = ap (λ (x : Explicit). x.task) c.self.view_is in
    let fits = subst Fits is c.self.invariant.fits in
    let said = c.difference.ensures in
    IfOk-weaker c.difference.result (λ set. HasThoseStates set
    (λ s. IsTrue (has_explicit_state c.members.result.now s)
    × IsFalse (has_explicit_state c.members-2.result.now s))) (λ set. AreStates e.task set)
    (λ set h. states_as e.task set (Lacks (explicit_view e) c.args.a c.args.b)
    (lacks_states e fits c.args.a c.args.b c.members.result.now c.members-2.result.now c.members.ensures.set c.members-2.ensures.set c.members.ensures.states c.members-2.ensures.states) (lacks_means e fits c.args.a c.args.b c.members.result.now c.members-2.result.now c.members.ensures.set c.members-2.ensures.set c.members.ensures.states c.members-2.ensures.states set h)) said

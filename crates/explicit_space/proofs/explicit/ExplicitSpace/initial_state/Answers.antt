use Rattle.std.proofs.Common.{◌≡◌, IfOk, subst}
use Rattle.std.proofs.lemmas.Result.{IfOk-weaker}
use Rattle.task_system.specs.Computed.{system_of}
use Rattle.explicit_space.specs.Members.{HasThoseStates}
use Rattle.explicit_space.specs.Explicit.{Explicit}
use Rattle.explicit_space.proofs.Meaning.{initial_is}
use Rattle.explicit_space.proofs.explicit.ExplicitSpace.initial_state.Goals as goal

pub returns-clause-ok : goal.returns-clause-ok
returns-clause-ok c =
    let i = c.self.invariant in
    let t = c.self.inside.task.now in
    subst (λ (e : Explicit). IfOk c.single.result (λ set. HasThoseStates set (λ s. s ≡ (system_of e.task).initial))) c.self.view_is
    (IfOk-weaker c.single.result (λ set. HasThoseStates set (λ s. s ≡ c.in_ok-copy.field-0)) (λ set. HasThoseStates set (λ s. s ≡ (system_of t).initial))
    (λ set h. initial_is t set c.self.inside.initial c.in_ok-copy.field-0 i.fits i.initial c.in_ok-copy.ensures h) c.single.ensures)

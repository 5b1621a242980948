use Rattle.std.proofs.Common.{◌≡◌, List, IfOk, ap, subst, ◌∙◌}
use Rattle.std.proofs.lemmas.Result.{IfOk-weaker}
use Rattle.symk_task.specs.declared.parts.Variable.{Variable}
use Rattle.symk_task.specs.declared.parts.TaskParts.{TaskParts}
use Rattle.symk_task.specs.Fits.{Fits}
use Rattle.task_system.specs.System.{Listed}
use Rattle.task_system.specs.Computed.{assignments}
use Rattle.explicit_space.specs.Members.{AreStates, HasThoseStates}
use Rattle.explicit_space.specs.Explicit.{Explicit}
use Rattle.space_api.proofs.Listing.{task_lists}
use Rattle.explicit_space.proofs.Meaning.{all_are}
use Rattle.explicit_space.proofs.explicit.ExplicitSpace.every_state.Goals as goal

pub returns-clause-states : goal.returns-clause-states
returns-clause-states c =
    let task = c.args.self.now.task in
    let same : c.as_slice.result.now ≡ task.variables = c.as_slice.ensures ∙ ap (λ (t : TaskParts). t.variables) c.parts.ensures.value ∙ ap (λ (e : Explicit). e.task.variables) c.self.view_is in
    let said = subst (λ (vs : List Variable). IfOk c.all_states.result (λ set. HasThoseStates set (Listed (assignments vs)))) same c.all_states.ensures in
    IfOk-weaker c.all_states.result (λ set. HasThoseStates set (Listed (assignments task.variables)))
    (λ set. AreStates task set) (λ set h. all_are task set h) said

pub returns-clause-reached : goal.returns-clause-reached
returns-clause-reached c = task_lists c.args.self.now.task (subst Fits (ap (λ (e : Explicit). e.task) c.self.view_is) c.self.invariant.fits)

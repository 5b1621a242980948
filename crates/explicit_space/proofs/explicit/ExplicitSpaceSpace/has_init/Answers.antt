use Rattle.std.proofs.Common.{ap, subst}
use Rattle.symk_task.specs.declared.parts.TaskParts.{TaskParts}
use Rattle.symk_task.specs.Plans.{IsInitial}
use Rattle.symk_task.specs.Fits.{Fits}
use Rattle.explicit_space.specs.Explicit.{Explicit, explicit_set_at}
use Rattle.explicit_space.proofs.Asking.{initial_in}
use Rattle.explicit_space.proofs.explicit.ExplicitSpaceSpace.has_init.Goals as goal

pub returns : goal.returns
returns c =
    let e = c.args.self.now in
    let i = c.self.invariant in
    let is = ap (λ (x : Explicit). x.task) c.self.view_is in
    initial_in e.task c.self.inside.initial (explicit_set_at e.sets c.args.a) c.members.result.now c.contains.result
    (subst Fits is i.fits) (subst (λ (t : TaskParts). IsInitial t c.self.inside.initial) is i.initial) c.members.ensures.set c.contains.ensures

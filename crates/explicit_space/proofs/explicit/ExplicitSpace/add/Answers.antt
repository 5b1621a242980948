use Rattle.std.proofs.Common.{subst, sym}
use Rattle.explicit_space.specs.Members.{AreStates}
use Rattle.explicit_space.specs.Explicit.{Explicit}
use Rattle.explicit_space.proofs.Meaning.{more_states}
use Rattle.explicit_space.proofs.explicit.ExplicitSpace.add.Goals as goal

pub invariant_of-self-2 : goal.invariant_of-self-2
invariant_of-self-2 c =
    let i = c.self.invariant in
    let t = c.self.inside.task.now in
    record {
      fits = i.fits;
      rules = i.rules;
      initial = i.initial;
      costs = i.costs;
      states = rw c.in_ok-push.ensures.items (more_states t c.self.inside.sets.items c.args.members i.states (subst (λ (e : Explicit). AreStates e.task c.args.members) (sym c.self.view_is) c.requires));
    }

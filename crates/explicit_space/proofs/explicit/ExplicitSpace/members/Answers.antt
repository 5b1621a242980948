use Rattle.std.proofs.Common.{IsTrue, sym, subst}
use Rattle.explicit_space.specs.Members.{AreStates}
use Rattle.explicit_space.specs.Explicit.{Explicit, explicit_set_at, is_there}
use Rattle.explicit_space.proofs.Meaning.{read_set, set_states}
use Rattle.explicit_space.proofs.explicit.ExplicitSpace.members.Goals as goal

pub returns-clause-states : goal.returns-clause-states
returns-clause-states c =
    let sets = c.self.inside.sets.items in
    let there = subst (λ (e : Explicit). IsTrue (is_there (explicit_set_at e.sets c.args.a))) (sym c.self.view_is) c.requires in
    subst (λ (e : Explicit). AreStates e.task c.in-Some.members) c.self.view_is
    (set_states c.self.inside.task.now sets c.args.a c.in-Some.members c.self.invariant.states (read_set sets c.args.a c.index.result.now c.in-Some.members there c.index.ensures c.in-Some.is))

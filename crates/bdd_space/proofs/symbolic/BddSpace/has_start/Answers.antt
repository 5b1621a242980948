use Rattle.bdd_space.proofs.Begun.{initial_state}
use Rattle.bdd_space.proofs.Calls.{known_by}
use Rattle.bdd_space.proofs.Asked.{start_by, turns_by}
use Rattle.bdd_space.proofs.symbolic.BddSpace.has_start.Goals as goal

pub has-requires-clause-set : goal.has-requires-clause-set
has-requires-clause-set c = (let k = known_by _ _ _ c.self.invariant c.self.view_is c.args.a c.id-set.result c.id-set.ensures.is in k.known)

pub has-requires-clause-state : goal.has-requires-clause-state
has-requires-clause-state c = initial_state _ _ c.self.invariant.fits c.self.invariant.order c.self.inside.initial c.self.invariant.initial

pub returns : goal.returns
returns c = start_by _ _ _ c.self.invariant c.self.view_is c.args.a c.id-set.result c.id-set.ensures.is c.has.result
    (c.has.ensures.states (turns_by _ _ _ c.self.invariant c.self.view_is c.args.a c.id-set.result c.id-set.ensures.is))

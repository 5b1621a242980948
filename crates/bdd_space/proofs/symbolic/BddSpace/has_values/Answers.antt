use Rattle.bdd_space.proofs.Calls.{known_by}
use Rattle.bdd_space.proofs.Asked.{state_by, bits_by, turns_by}
use Rattle.bdd_space.proofs.symbolic.BddSpace.has_values.Goals as goal

pub has-requires-clause-set : goal.has-requires-clause-set
has-requires-clause-set c = (let k = known_by _ _ _ c.self.invariant c.self.view_is c.args.a c.id-set.result c.id-set.ensures.is in k.known)

pub has-requires-clause-state : goal.has-requires-clause-state
has-requires-clause-state c = bits_by _ _ _ c.self.invariant c.self.view_is c.args.a c.id-set.result c.id-set.ensures.is c.args.state.now c.requires.state

pub returns : goal.returns
returns c = state_by _ _ _ c.self.invariant c.self.view_is c.args.a c.id-set.result c.id-set.ensures.is c.args.state.now c.requires.state c.has.result
    (c.has.ensures.states (turns_by _ _ _ c.self.invariant c.self.view_is c.args.a c.id-set.result c.id-set.ensures.is))

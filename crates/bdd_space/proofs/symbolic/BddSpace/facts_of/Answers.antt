use Rattle.axiom_layers.proofs.RootValues.{keeps_on}
use Rattle.bdd_space.proofs.Having.{kept_alike}
use Rattle.bdd_space.proofs.Keeping.{space_grown}
use Rattle.bdd_space.proofs.Calls.{grows_by, kept_by, known_by, slot_by, fact_by}
use Rattle.bdd_space.proofs.symbolic.BddSpace.facts_of.Goals as goal

pub fact_set-requires : goal.fact_set-requires
fact_set-requires c = slot_by _ _ _ c.self.invariant c.self.view_is c.args.fact c.requires.fact

pub conj-requires-clause-f : goal.conj-requires-clause-f
conj-requires-clause-f c = (let k = known_by _ _ _ c.self.invariant c.self.view_is c.args.a c.id-set.result
    c.id-set.ensures.is in let m = kept_alike _ _ c.id-set.result c.in_ok-facts.ensures.kept k.known in m.known)

pub conj-requires-clause-g : goal.conj-requires-clause-g
conj-requires-clause-g c = c.in_ok-facts.ensures.known

pub invariant_of-self : goal.invariant_of-self
invariant_of-self c = space_grown _ _ _ c.self.invariant c.in_err-facts.ensures.kept c.in_err-facts.ensures.reduced

pub invariant_of-self-2 : goal.invariant_of-self-2
invariant_of-self-2 c = space_grown _ _ _ c.self.invariant (keeps_on _ _ _ c.in_ok-facts.ensures.kept c.conj.ensures.kept) c.conj.ensures.reduced

pub returns-clause-made : goal.returns-clause-made
returns-clause-made c = fact_by _ _ _ c.self.invariant c.self.view_is c.args.a c.id-set.result c.id-set.ensures.is
    c.args.fact c.requires.fact c.fact_set.new.ops c.conj.new.self c.in_ok-facts.facts c.in_ok-facts.ensures.kept
    c.conj.result c.conj.ensures.known c.conj.ensures.meaning c.in_ok-facts.ensures.states

pub returns-clause-grows : goal.returns-clause-grows
returns-clause-grows c = grows_by _ _ _ c.self.invariant c.self.view_is c.conj.new.self (keeps_on _ _ _ c.in_ok-facts.ensures.kept c.conj.ensures.kept)

pub returns-clause-kept : goal.returns-clause-kept
returns-clause-kept c = kept_by _ _ _ c.self.invariant c.self.view_is c.conj.new.self (keeps_on _ _ _ c.in_ok-facts.ensures.kept c.conj.ensures.kept)

pub returns-in_err-facts-clause-grows : goal.returns-in_err-facts-clause-grows
returns-in_err-facts-clause-grows c = grows_by _ _ _ c.self.invariant c.self.view_is c.fact_set.new.ops c.in_err-facts.ensures.kept

pub returns-in_err-facts-clause-kept : goal.returns-in_err-facts-clause-kept
returns-in_err-facts-clause-kept c = kept_by _ _ _ c.self.invariant c.self.view_is c.fact_set.new.ops c.in_err-facts.ensures.kept

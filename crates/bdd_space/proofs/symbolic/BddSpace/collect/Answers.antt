use Rattle.std.proofs.Common.{ℕ, ◌+◌, ◌∙◌, List, length, ap}
use Rattle.bdd_table.specs.declared.node.Node.{Node}
use Rattle.bdd_space.proofs.Tidying.{known_by, relations_by, space_by, stays_by, collected_by}
use Rattle.bdd_space.proofs.symbolic.BddSpace.collect.Goals as goal

pub moved-requires : goal.moved-requires
moved-requires c = known_by _ _ _ c.self.invariant c.self.view_is c.in_ok-roots.roots.items c.in_ok-roots.ensures

pub invariant_of-self-2 : goal.invariant_of-self-2
invariant_of-self-2 c = space_by _ _ _ c.self.invariant c.self.view_is c.in_ok-roots.roots.items c.in_ok-roots.ensures
    c.in_ok-places.places.items c.as_slice-at.result.now c.as_slice-at.ensures.value c.moved.new.ops
    c.in_ok-places.ensures.reduced c.in_ok-places.ensures.as_long c.in_ok-places.ensures.moved c.take_roots.new.self
    c.take_roots-2.new.self.slots.items c.held-self-inside.result _
    (ap (λ (k : ℕ). 3 + k) c.roots-count.ensures) c.take_roots-2.ensures
    (c.take_roots.ensures.moved _ _ _ _ c.self.invariant.relations
    (relations_by _ _ _ c.self.invariant c.self.view_is c.in_ok-roots.roots.items c.in_ok-roots.ensures
    c.in_ok-places.places.items c.as_slice-at.result.now c.as_slice-at.ensures.value c.moved.new.ops
    c.in_ok-places.ensures.reduced c.in_ok-places.ensures.as_long c.in_ok-places.ensures.moved
    c.take_roots.new.self c.take_roots-2.new.self.slots.items c.held-self-inside.result _
    (ap (λ (k : ℕ). 3 + k) c.roots-count.ensures) c.take_roots-2.ensures))

pub returns-clause-stays : goal.returns-clause-stays
returns-clause-stays c = stays_by _ _ _ c.self.invariant c.self.view_is c.in_ok-roots.roots.items
    c.in_ok-roots.ensures c.in_ok-places.places.items c.as_slice-at.result.now c.as_slice-at.ensures.value
    c.moved.new.ops c.in_ok-places.ensures.reduced c.in_ok-places.ensures.as_long c.in_ok-places.ensures.moved
    c.take_roots.new.self c.take_roots-2.new.self.slots.items c.held-self-inside.result _
    (ap (λ (k : ℕ). 3 + k) c.roots-count.ensures) c.take_roots-2.ensures

pub returns-clause-ok : goal.returns-clause-ok
returns-clause-ok c = collected_by _ _ _ c.self.invariant c.self.view_is c.in_ok-roots.roots.items
    c.in_ok-roots.ensures c.in_ok-places.places.items c.as_slice-at.result.now c.as_slice-at.ensures.value
    c.moved.new.ops c.in_ok-places.ensures.reduced c.in_ok-places.ensures.as_long c.in_ok-places.ensures.moved
    c.take_roots.new.self c.take_roots-2.new.self.slots.items c.held-self-inside.result _
    (ap (λ (k : ℕ). 3 + k) c.roots-count.ensures) c.take_roots-2.ensures
    c.take_roots.ensures.taken (c.held-self-inside.ensures.count ∙ ap (λ (nodes : List Node). length nodes) c.table.ensures.same)
    c.in_ok-places.ensures.exact c.in_ok-places.ensures.count

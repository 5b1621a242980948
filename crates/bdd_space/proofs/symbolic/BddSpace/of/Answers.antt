use Rattle.axiom_layers.proofs.Raised.{roots_kept}
use Rattle.bdd_space.proofs.Keeping.{own_grown, no_sets}
use Rattle.bdd_space.proofs.symbolic.BddSpace.of.Goals as goal

pub of-requires-3-clause-roots : goal.of-requires-3-clause-roots
of-requires-3-clause-roots c = roots_kept c.args.task.now c.in_ok-order.order c.compile.new.ops c.own_sets.new.ops
    c.in_ok-derived.derived c.in_ok-own.ensures.kept c.in_ok-derived.ensures.roots

pub invariant_of-result : goal.invariant_of-result
invariant_of-result c = record {
  fits = c.parts.ensures.fits;
  rules = c.in_ok-rules.ensures;
  order = c.in_ok-order.ensures.order;
  reduced = c.in_ok-relations.ensures.reduced;
  own = own_grown c.args.task.now c.in_ok-order.order c.own_sets.new.ops c.of-3.new.ops c.in_ok-own.own c.in_ok-relations.ensures.kept c.in_ok-own.ensures.are;
  relations = c.in_ok-relations.ensures.relations;
  sets = no_sets _ _ c.new-sets.result.slots.items c.new-sets.ensures;
  steps = c.in_ok-steps.ensures;
  initial = c.in_ok-initial.ensures;
}

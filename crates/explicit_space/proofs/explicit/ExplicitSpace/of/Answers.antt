use Rattle.explicit_space.proofs.explicit.ExplicitSpace.of.Goals as goal

pub invariant_of-result : goal.invariant_of-result
invariant_of-result c = record {
  fits = c.parts.ensures.fits;
  rules = c.in_ok-of.ensures;
  initial = c.in_ok-start.ensures;
  costs = c.in_ok-operator_costs.ensures;
  states = rw c.new.ensures.items (λ a s h. absurd (cc));
}

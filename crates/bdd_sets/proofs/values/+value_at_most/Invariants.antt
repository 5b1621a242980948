use Rattle.bdd_sets.proofs.values.+value_at_most.Given as goal

abbrev pub decreases-value_at_most : goal.decreases-value_at_most
decreases-value_at_most l = l.width

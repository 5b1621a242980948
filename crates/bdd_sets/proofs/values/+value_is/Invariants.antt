use Rattle.bdd_sets.proofs.values.+value_is.Given as goal

abbrev pub decreases-value_is : goal.decreases-value_is
decreases-value_is l = l.width

use Rattle.member_plans.proofs.given.Given.outdated.Given as goal

abbrev pub decreases-nodes : goal.decreases-nodes
decreases-nodes l = l.at

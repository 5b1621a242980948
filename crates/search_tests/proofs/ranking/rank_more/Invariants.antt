use Rattle.cost_to_go.specs.Standing.{IsCostToGo}
use Rattle.search_tests.proofs.ranking.rank_more.Given as goal

abbrev pub invariant-steps : goal.invariant-steps
invariant-steps g l = IsCostToGo (g.S.Space.view l.space) l.search

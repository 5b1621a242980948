use Rattle.cost_to_go.specs.Standing.{IsCostToGo}
use Rattle.search_tests.proofs.ranking.go_by.Given as goal

abbrev pub invariant-rows : goal.invariant-rows
invariant-rows g l = IsCostToGo (g.S.Space.view l.space) l.search

use Rattle.space_api.specs.Owned.{Trades}
use Rattle.goal_ranks.specs.Giving.{RankSet}
use Rattle.goal_ranks.proofs.Giving.{Below}
use Rattle.goal_ranks.proofs.release.forget_ranks.Given as goal

abbrev pub invariant-ranks : goal.invariant-ranks
invariant-ranks g l = Trades (g.S.Space.view l.fn.space) (g.S.Space.view l.space) (Below (RankSet l.ranks) l.i) (λ a. ⊥)

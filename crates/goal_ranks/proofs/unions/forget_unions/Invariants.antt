use Rattle.space_api.specs.Owned.{Trades}
use Rattle.goal_ranks.specs.Unions.{UnionSet}
use Rattle.goal_ranks.proofs.Giving.{Below}
use Rattle.goal_ranks.proofs.unions.forget_unions.Given as goal

abbrev pub invariant-unions : goal.invariant-unions
invariant-unions g l = Trades (g.S.Space.view l.fn.space) (g.S.Space.view l.space) (Below (UnionSet l.unions) l.i) (λ a. ⊥)

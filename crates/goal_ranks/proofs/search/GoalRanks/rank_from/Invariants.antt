use Rattle.std.proofs.Common.{ℕ, ◌<◌, ◌≤◌}
use Rattle.goal_ranks.specs.Ranks.{HasRank}
use Rattle.goal_ranks.proofs.search.GoalRanks.rank_from.Given as goal

abbrev pub invariant-ranks : goal.invariant-ranks
invariant-ranks g l = (i x : ℕ) → l.from.number ≤ i → i < l.number → l.from.cost ≤ x → ¬ HasRank (g.S.Space.view l.space) l.self i x l.state

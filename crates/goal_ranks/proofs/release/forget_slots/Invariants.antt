use Rattle.space_api.specs.Owned.{Trades}
use Rattle.goal_ranks.specs.Giving.{SlotSet}
use Rattle.goal_ranks.proofs.Giving.{Below}
use Rattle.goal_ranks.proofs.release.forget_slots.Given as goal

abbrev pub invariant-slots : goal.invariant-slots
invariant-slots g l = Trades (g.S.Space.view l.fn.space) (g.S.Space.view l.space) (Below (SlotSet l.slots) l.i) (λ a. ⊥)

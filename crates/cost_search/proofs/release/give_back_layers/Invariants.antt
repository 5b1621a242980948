use Rattle.std.proofs.Common.{ℕ, ◌<◌}
use Rattle.space_api.specs.Owned.{Trades}
use Rattle.cost_search.specs.Giving.{IsKeptAt}
use Rattle.cost_search.proofs.Coming.{bound_of, left, IsNext}
use Rattle.cost_search.proofs.release.give_back_layers.Given as goal

abbrev pub invariant-costs : goal.invariant-costs
invariant-costs g l =
    let view = g.S.Space.view in
    record {
      next : IsNext l.next;
      given : Trades (view l.fn.space) (view l.space) (λ a. (c : ℕ) × (c < bound_of l.next) × IsKeptAt l.layers c a) (λ a. ⊥);
    }

abbrev pub decreases-costs : goal.decreases-costs
decreases-costs g l = left l.next

use Rattle.std.proofs.Common.{subst, ◌<◌, ℕ}
use Rattle.space_api.specs.Owned.{Trades}
use Rattle.cost_layers.specs.Layers.{union_at}
use Rattle.cost_search.specs.Giving.{IsKeptAt}
use Rattle.cost_search.proofs.Coming.{bound_of, IsNext, is_next}
use Rattle.cost_search.proofs.Given.{next_valid, layers_next}
use Rattle.cost_search.proofs.release.give_back_layers.Goals as goal

pub give_back_layer-requires-clause-valid : goal.give_back_layer-requires-clause-valid
give_back_layer-requires-clause-valid g c =
    let v = g.S.Space.view c.args.space.now in
    let u = g.S.Space.view c.costs.space in
    let l = c.args.layers.now in
    let t = subst (λ (o : _). Trades v u (λ a. (d : ℕ) × (d < bound_of o) × IsKeptAt l d a) (λ a. ⊥)) c.in-Some.is c.costs.invariant.given in
    λ a h. next_valid v l c.requires.held u c.in-Some.cost t a h

pub costs-preserved : goal.costs-preserved
costs-preserved g c =
    let v = g.S.Space.view c.args.space.now in
    let u = g.S.Space.view c.costs.space in
    let l = c.args.layers.now in
    let t = subst (λ (o : _). Trades v u (λ a. (d : ℕ) × (d < bound_of o) × IsKeptAt l d a) (λ a. ⊥)) c.in-Some.is c.costs.invariant.given in
    let lt = subst IsNext c.in-Some.is c.costs.invariant.next in
    record {
      next = is_next (union_at l) c.in-Some.cost c.cost_after-next.result c.cost_after-next.ensures;
      given = layers_next v l c.requires.held c.in-Some.cost c.cost_after-next.result c.cost_after-next.ensures t c.give_back_layer.ensures lt;
    }

-- In which layer of the search ahead a state stands.
use Rattle.std.proofs.Common.{◌≡◌, ℕ, ◌<◌, ◌≤◌, ◌⊎◌, ◌↔◌, inl, inr, Some, None, arith}
use Rattle.task_system.specs.System.{State}
use Rattle.space_api.specs.View.{View, Has}
use Rattle.run_graph.specs.Layering.{InLayer}
use Rattle.run_graph.specs.Reached.{ReachedAt}
use Rattle.cost_layers.specs.Layers.{rings_at, union_at, Stands, Held}
use Rattle.cost_layers.specs.declared.layers.Layers.{Layers}
use Rattle.cost_layers.proofs.Holding.{layer_at}
use Rattle.cost_search.specs.Search.{layers_of}
use Rattle.cost_search.proofs.Meeting.{no_stand}
use Rattle.goal_ranks.specs.Least.{least_search}
use Rattle.goal_ranks.specs.declared.least.LeastCosts.{LeastCosts}
use Rattle.goal_ranks.specs.Ahead.{IsAhead, bound_of}
use Rattle.goal_ranks.proofs.Keys.{stands_below}

module _ {Set : Type 0} (v : View Set) (l : Layers Set) (held : Held v l) (s : State) where
  pub none_in : (c : ℕ) → union_at l c ≡ None → InLayer (Stands v l) c s → ⊥
  none_in c e (i, h) = no_stand v l c i s held e h

  pub whole_has : (c : ℕ) (whole : Set) → union_at l c ≡ Some whole → Has v whole s ↔ InLayer (Stands v l) c s
  whole_has c whole e = (layer_at v (rings_at l c) (union_at l c) whole e (held.each c)).parts s

below_or : (m n : ℕ) → (m < n) ⊎ (n ≤ m)
below_or m n = grind arith

module _ {Set : Type 0} (v : View Set) (f : LeastCosts Set) (z : IsAhead v f) (s : State) where
  -- where no layer below n has the state, runs to it cost n
  pub none_less : (n : ℕ) → n ≤ bound_of f → ((d : ℕ) → d < n → ¬ InLayer (Stands v (layers_of (least_search f))) d s)
      → (a : ℕ) → ReachedAt v.system a s → n ≤ a
  none_less n few none a run = elim (below_or a n) [
    | inr ge ↦ ge
    | inl lt ↦
        let w = stands_below v f z a s run (omega (arith, lt, few)) in
        absurd (none w.0 (omega (arith, w.1, lt)) w.2)
  ]

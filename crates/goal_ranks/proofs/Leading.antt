-- To each settled useful state an arc leads from an earlier ring.
use Rattle.std.proofs.Common.{◌≡◌, ℕ, zero, suc, ◌+◌, ◌<◌, ◌≤◌, inl, inr, List, [], ◌∷◌, refl, sym, arith}
use Rattle.task_system.specs.System.{State}
use Rattle.run_graph.specs.Graph.{Graph, Walk, walk_cost, EndsInZeros, Reached, LiesBetween}
use Rattle.run_graph.specs.Layering.{At, InLayer, Belongs, RightLayer}
use Rattle.run_graph.specs.declared.Kind.TheVariants.{Least}
use Rattle.run_graph.proofs.Walks.{between_before}
use Rattle.goal_ranks.specs.Least.{HasWay}

module _ (g : Graph) (at : At) (known : ℕ) (right : (c : ℕ) → c < known → RightLayer g Least at c) where
  -- before the last arc of a cheapest walk stands a state of the layer that is so much cheaper
  before : (op : ℕ) (p : List ℕ) (c : ℕ) (t s : State) → g.arc op t s → Walk g p t → walk_cost g p + g.cost op ≡ c
      → c < known → LiesBetween g s → ((d : ℕ) → Reached g d s → c ≤ d) → InLayer at (walk_cost g p) t
  before op p c t s arc walk sum lt u least =
      let x = walk_cost g p in
      let belongs : Belongs g Least x t = (
        (p, walk, refl),
        λ d w. let q = least (g.cost op + d) (op ∷ w.0, (t, arc, w.1), omega (arith, w.2)) in omega (arith, q, sum),
      ) in
      ((right x (omega (arith, sum, lt))).exact t (between_before g p op t s walk arc u)).1 belongs

  by_walk : (p : List ℕ) (c i : ℕ) (s : State) → Walk g p s → walk_cost g p ≡ c → EndsInZeros g p i → c < known
      → LiesBetween g s → ((d : ℕ) → Reached g d s → c ≤ d) → HasWay g at c i s
  by_walk [] c i s start cost zs lt u least = inl (sym cost, zs, start)
  by_walk (op ∷ p) c zero s (t, arc, walk) cost dear lt u least =
      let sum : walk_cost g p + g.cost op ≡ c = omega (arith, cost) in
      let m = before op p c t s arc walk sum lt u least in
      inr (record { op = op; state = t; from = walk_cost g p; ring = m.0; member = m.1; arc = arc; between = sum; earlier = inl (omega (arith, sum, dear)) })
  by_walk (op ∷ p) c (suc i) s (t, arc, walk) cost (z, zs) lt u least =
      let sum : walk_cost g p + g.cost op ≡ c = omega (arith, cost) in
      let same : walk_cost g p ≡ c = omega (arith, sum, z) in
      let m = before op p c t s arc walk sum lt u least in
      let first = ((right (walk_cost g p) (omega (arith, same, lt))).ring m.0 t (between_before g p op t s walk arc u) m.1).least i (p, walk, refl, zs) in
      inr (record { op = op; state = t; from = walk_cost g p; ring = m.0; member = m.1; arc = arc; between = sum; earlier = inr (same, omega (arith, first)) })

  pub has_way : (c i : ℕ) (s : State) → c < known → LiesBetween g s → at c i s → HasWay g at c i s
  has_way c i s lt u a =
      let r = right c lt in
      let belongs = (r.exact s u).0 (i, a) in
      let w = (r.ring i s u a).some in
      by_walk w.0 c i s w.1 w.2 w.3 lt u belongs.1

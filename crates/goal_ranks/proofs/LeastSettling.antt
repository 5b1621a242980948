-- Settled layers, where each state is kept once, have each state at its least cost.
use Rattle.std.proofs.Common.{◌≡◌, ℕ, ◌+◌, ◌<◌, ◌≤◌, ◌⊎◌, inl, inr, Bool, List, [], ◌∷◌, sym, subst, arith}
use Rattle.task_system.specs.System.{State, System}
use Rattle.run_graph.specs.Graph.{Graph, seen_from, walk_cost}
use Rattle.run_graph.specs.Layering.{At, InLayer, IsInRingOrBefore, Layered}
use Rattle.run_graph.specs.Settling.{WalkInside, IsSettled}
use Rattle.run_graph.specs.declared.Side.{Side}
use Rattle.run_graph.specs.declared.Kind.TheVariants.{Least}
use Rattle.run_graph.proofs.Walks.{zero_or}
use Rattle.run_graph.proofs.Sides.{reached_side}
use Rattle.run_graph.specs.Inside.{InsideAt}
use Rattle.run_graph.proofs.Inside.{inside_walk}
use Rattle.goal_ranks.specs.Least.{AreLeast}

below_or : (m n : ℕ) → (m < n) ⊎ (n ≤ m)
below_or m n = grind arith

-- a state of a ring or of a cheaper layer
in_layer : (at : At) (c i : ℕ) (s : State) → IsInRingOrBefore Least at c i s → (x : ℕ) × (x ≤ c) × InLayer at x s
in_layer at c i s (inl (j, le, h)) = (c, omega arith, (j, h))
in_layer at c i s (inr (x, lt, h)) = (x, omega (arith, lt), h)

-- where a walk inside P leads is settled at its cost or below it
walk_settled : (g : Graph) (P : State → Type 0) (at : At) (bound : ℕ) → Layered g Least P at bound
    → (p : List ℕ) (s : State) → WalkInside g P p s → walk_cost g p < bound → (x : ℕ)
    × (x ≤ walk_cost g p) × InLayer at x s
walk_settled g P at bound r [] s (start, here) lt = in_layer at 0 0 s (r.begin s lt start here)
walk_settled g P at bound r (op ∷ p) s ((t, arc, walk), here) lt =
    let before = walk_settled g P at bound r p t walk (omega (arith, lt)) in
    let x = before.0 in
    let i = before.2.0 in
    elim (zero_or (g.cost op)) [
      | inl z ↦ (let a = in_layer at x (i + 1) s (r.beside x i op t s before.2.1 arc here z) in (a.0, omega (arith, a.1, before.1), a.2))
      | inr h ↦ (let a = in_layer at (x + g.cost op) 0 s (r.onward x i op t s before.2.1 arc here h
          (omega (arith, before.1, lt))) in (a.0, omega (arith, a.1, before.1), a.2))
    ]

module _ (side : Side) (y : System) (P : State → Type 0) (at : At) (Open : ℕ → Type 0) (b : Bool) (known : ℕ)
    (z : IsSettled (seen_from side y) Least P at Open b known) where
  all : (d : ℕ) (s : State) → InsideAt side y P d s → d < known → (c : ℕ) × (c ≤ d) × InLayer at c s
  all d s h lt =
      let w = inside_walk side y P d s h in
      let a = walk_settled (seen_from side y) P at known z.right w.0 s w.1 (omega (arith, w.2, lt)) in
      (a.0, omega (arith, a.1, w.2), a.2)

  least : (c d i : ℕ) (s : State) → at c i s → InsideAt side y P d s → c ≤ d
  least c d i s a h = elim (below_or d known) [
    | inr ge ↦ (let u = z.under c i s a in omega (arith, u, ge))
    | inl lt ↦ (let m = all d s h lt in let e = z.right.one_layer c m.0 s (i, a) m.2 in omega (arith, e, m.1))
  ]

  once : (c d i j : ℕ) (s : State) → at c i s → at d j s → (c ≡ d) × (i ≡ j)
  once c d i j s a q =
      let e = z.right.one_layer c d s (i, a) (j, q) in
      (e, z.right.one_ring c i j s a (subst (λ (x : ℕ). at x j s) (sym e) q))

  pub are_least : AreLeast side y P at known
  are_least = record {
    members = λ c i s a. let w = z.right.sound c i s a in (reached_side side y c s).0 (w.0, w.1, w.2);
    once = once;
    below = z.under;
    least = least;
    all = all;
  }

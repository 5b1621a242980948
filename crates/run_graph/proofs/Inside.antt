-- A run inside a set is a walk inside it, at the same cost.
use Rattle.std.proofs.Common.{◌≡◌, ℕ, ◌+◌, IsTrue, List, [], ◌∷◌, refl, sym, ◌∙◌, subst, arith}
use Rattle.task_system.specs.System.{State, System, cost_in_system}
use Rattle.run_graph.specs.Graph.{turned, ahead, seen_from, walk_cost}
use Rattle.run_graph.specs.Settling.{WalkInside}
use Rattle.run_graph.specs.Reached.{RunsInside}
use Rattle.run_graph.specs.declared.Side.{Side}
use Rattle.run_graph.specs.declared.Side.TheVariants.{Ahead, Back}
use Rattle.run_graph.specs.Inside.{InsideAt}

none_more : (a b : ℕ) → a ≡ 0 → b ≡ a + b
none_more a b e = omega arith

onto : (y : System) (P : State → Type 0) (q p : List ℕ) (m s : State) → (P m → WalkInside (ahead y) P q m)
    → RunsInside y P m p s → (r : List ℕ) × WalkInside (ahead y) P r s
    × (walk_cost (ahead y) r ≡ cost_in_system y p + walk_cost (ahead y) q)
onto y P q [] m s walk (e, inside) = (
  q,
  subst (λ (x : State). WalkInside (ahead y) P q x) e (walk inside),
  none_more
      (cost_in_system y []) (walk_cost (ahead y) q) refl,
)
onto y P q (op ∷ p) m s walk (inside, (n, leads, rest)) =
    let r = onto y P (op ∷ q) p n s (λ here. ((m, leads, walk inside), here)) rest in
    (r.0, r.1, omega (arith, r.2))

back : (y : System) (P : State → Type 0) (p : List ℕ) (s t : State) → RunsInside y P s p t → IsTrue (y.goal t)
    → WalkInside (turned (ahead y)) P p s × (walk_cost (turned (ahead y)) p ≡ cost_in_system y p)
back y P [] s t (e, inside) goal = ((subst (λ (x : State). IsTrue (y.goal x)) (sym e) goal, inside), refl)
back y P (op ∷ p) s t (inside, (m, leads, rest)) goal =
    let w = back y P p m t rest goal in
    (((m, leads, w.0), inside), omega (arith, w.1))

plain : (a b c d : ℕ) → a ≡ b + d → d ≡ 0 → b ≡ c → a ≡ c
plain a b c d e f h = omega arith

pub inside_walk : (side : Side) (y : System) (P : State → Type 0) (c : ℕ) (s : State) → InsideAt side y P c s
    → (p : List ℕ) × WalkInside (seen_from side y) P p s × (walk_cost (seen_from side y) p ≡ c)
inside_walk Ahead y P c s (p, run, cost) =
    let w = onto y P [] p y.initial s (λ here. (refl, here)) run in
    (w.0, w.1, plain (walk_cost (ahead y) w.0) (cost_in_system y p) c (walk_cost (ahead y) []) w.2 refl cost)
inside_walk Back y P c s (p, t, run, goal, cost) = (let w = back y P p s t run goal in (p, w.0, w.1 ∙ cost))

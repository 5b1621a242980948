-- RunsInSystem that get one operator more at the end.
use Rattle.std.proofs.Common.{◌≡◌, ℕ, ◌+◌, List, [], ◌∷◌, ◌++◌, refl, sym, subst, arith}
use Rattle.task_system.specs.System.{State, System, Leads, RunsInSystem, cost_in_system}
use Rattle.run_graph.specs.Reached.{ReachedAt, ToGoalAt}
use Rattle.space_api.proofs.Runs.{run_more, cost_more}
use Rattle.plan_cuts.specs.Entries.{Ends}

pub fwd_more : (y : System) (c op : ℕ) (t s : State) → ReachedAt y c t → Leads y op t s → ReachedAt y (c + y.cost op) s
fwd_more y c op t s (p, run, cost) h = (p ++ op ∷ [], run_more y y.initial p t op s run h, omega (arith, cost_more y p op, cost))

pub ends_more : (y : System) (p q : List ℕ) (s t : State) → Ends y q s → RunsInSystem y s p t → (r : List ℕ)
    × Ends y r t × (cost_in_system y r ≡ cost_in_system y q + cost_in_system y p)
ends_more y [] q s t h e = (q, subst (λ (x : State). Ends y q x) e h, omega arith)
ends_more y (op ∷ p) q s t h (m, first, rest) =
    let more = ends_more y p (op ∷ q) m t (s, first, h) rest in
    (more.0, more.1, omega (arith, more.2))

pub ends_of_fwd : (y : System) (c : ℕ) (s : State) → ReachedAt y c s → (q : List ℕ) × Ends y q s × (cost_in_system y q ≡ c)
ends_of_fwd y c s (p, run, cost) =
    let all = ends_more y p [] y.initial s refl run in
    (all.0, all.1, omega (arith, all.2, cost))

pub fwd_of_ends : (y : System) (q : List ℕ) (s : State) → Ends y q s → ReachedAt y (cost_in_system y q) s
fwd_of_ends y [] s e = ([], sym e, refl)
fwd_of_ends y (op ∷ q) s (t, h, rest) =
    let e : cost_in_system y q + y.cost op ≡ y.cost op + cost_in_system y q = omega arith in
    subst (λ (k : ℕ). ReachedAt y k s) e (fwd_more y (cost_in_system y q) op t s (fwd_of_ends y q t rest) h)

pub bwd_more : (y : System) (c op : ℕ) (s t : State) → Leads y op s t → ToGoalAt y c t → ToGoalAt y (y.cost op + c) s
bwd_more y c op s t h (p, g, run, goal, cost) = (op ∷ p, g, (t, h, run), goal, omega (arith, cost))

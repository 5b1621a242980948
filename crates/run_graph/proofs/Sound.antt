-- What ranks and keys say of runs.
use Rattle.std.proofs.Common.{ℕ, zero, suc, ◌+◌, ◌<◌, ◌≤◌, ◌^◌, inl, inr, List, [], ◌∷◌, sym, arith}
use Rattle.task_system.specs.System.{State, System}
use Rattle.run_graph.specs.Graph.{Graph, turned, Walk, Reached, seen_from}
use Rattle.run_graph.specs.Settling.{WalkInside}
use Rattle.run_graph.specs.Reached.{AtCost}
use Rattle.run_graph.specs.declared.Side.{Side}
use Rattle.run_graph.specs.declared.Side.TheVariants.{Ahead, Back}
use Rattle.run_graph.proofs.Sides.{reached_side}
use Rattle.run_graph.specs.Inside.{InsideAt, other}
use Rattle.run_graph.specs.Ranks.{Ranks, Waiting, InsideBy, HasLower, AreRanks, NoneBelow}
use Rattle.run_graph.proofs.Inside.{inside_walk}
use Rattle.run_graph.proofs.Ranking.{bound}

-- a walk inside is a walk
walk_of : (g : Graph) (P : State → Type 0) (p : List ℕ) (s : State) → WalkInside g P p s → Walk g p s
walk_of g P [] s h = h.0
walk_of g P (op ∷ p) s ((t, arc, walk), here) = (t, arc, walk_of g P p t walk)

module _ (g : Graph) (P : State → Type 0) (f : ℕ) (at : Ranks) (many : ℕ) (Waits : Waiting) (r : AreRanks g P f at many Waits) where
  -- from a start, or on from a rank below n
  by_lower : (n x : ℕ) (s : State) → ((j d : ℕ) (t : State) → j < n → at j d t → InsideBy g P d t) → P s → HasLower g at n x s → InsideBy g P x s
  by_lower n x s before here (inl h) = ([], (h.1, here), sym h.0)
  by_lower n x s before here (inr h) =
      let w = before h.rank h.cost h.state h.lower h.member in
      (h.op ∷ w.0, ((h.state, h.arc, w.1), here), (let b = h.between in let e = w.2 in omega (arith, b, e)))

  ranked : (n i x : ℕ) (s : State) → i < n → at i x s → InsideBy g P x s
  ranked zero i x s lt a = absurd (omega (arith, lt))
  ranked (suc n) i x s lt a = by_lower i x s (λ j d t less b. ranked n j d t (omega (arith, less, lt)) b) (r.inside i x s a) (r.lower i x s a)

  -- a walk inside leads to a ranked state at its cost
  pub rank_inside : (i x : ℕ) (s : State) → at i x s → InsideBy g P x s
  rank_inside i x s a = ranked many i x s (r.under i x s a) a

  -- so does one to a state that waits
  pub wait_inside : (k x : ℕ) (s : State) → Waits k x s → InsideBy g P x s
  wait_inside k x s w = by_lower many x s (λ j d t less b. rank_inside j d t b) (r.keys.inside k x s w) (r.keys.lower k x s w)

inside_by : (side : Side) (y : System) (P : State → Type 0) (d : ℕ) (s : State) → InsideAt side y P d s → InsideBy (seen_from side y) P d s
inside_by side y P d s h = inside_walk side y P d s h

pub rank_cost : (side : Side) (y : System) {P : State → Type 0} {f : ℕ} {at : Ranks} {many : ℕ} {Waits : Waiting}
    → AreRanks (seen_from side y) P f at many Waits → (i x : ℕ) (s : State) → at i x s → AtCost side y x s
    × ((d : ℕ) → InsideAt side y P d s → x ≤ d)
rank_cost side y {P = P} {f = f} {at = at} {many = many} {Waits = Waits} r i x s a =
    let w = rank_inside (seen_from side y) P f at many Waits r i x s a in
    ((reached_side side y x s).0 (w.0, walk_of (seen_from side y) P w.0 s w.1, w.2), λ d h. r.least i x d s a (inside_by side y P d s h))

from_other : (side : Side) (y : System) (a : ℕ) (s : State) → AtCost (other side) y a s → Reached (turned (seen_from side y)) a s
from_other Ahead y a s h = (reached_side Back y a s).1 h
from_other Back y a s h = (reached_side Ahead y a s).1 h

pub runs_bound : (side : Side) (y : System) {P : State → Type 0} {f : ℕ} {at : Ranks} {many : ℕ} {Waits : Waiting}
    → AreRanks (seen_from side y) P f at many Waits → {n : ℕ} → NoneBelow Waits n → (s : State)
    → ((i x : ℕ) → at i x s → ⊥) → (a : ℕ) {d : ℕ} → AtCost (other side) y a s → InsideAt side y P d s
    → d < 2 ^ 64 → n ≤ a + d
runs_bound side y {P = P} {f = f} {at = at} {many = many} {Waits = Waits} r {n = n} none s new a {d = d} w h lt =
    bound (seen_from side y) P f at many Waits r n none s new a d (from_other side y a s w)
    (inside_by side y P d s h) lt

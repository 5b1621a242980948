-- Walks, and what lies before a state that lies between.
use Rattle.std.proofs.Common.{◌≡◌, ℕ, suc, ◌+◌, ◌≤◌, ◌⊎◌, inl, inr, List, [], ◌∷◌, refl, arith}
use Rattle.task_system.specs.System.{State}
use Rattle.run_graph.specs.Graph.{Graph, Walk, walk_cost, EndsInZeros, Reached, ReachedBy, LiesBetween}

pub zero_or : (n : ℕ) → (n ≡ 0) ⊎ (1 ≤ n)
zero_or n = grind arith

-- each walk has a number of arcs of cost 0 at its end
pub zeros_of : (g : Graph) (p : List ℕ) → (n : ℕ) × EndsInZeros g p n
zeros_of g [] = (0, refl)
zeros_of g (op ∷ p) =
    let more = zeros_of g p in
    elim (zero_or (g.cost op)) [ inl z ↦ (suc more.0, (z, more.1)) | inr h ↦ (0, h) ]

pub by_zeros : (g : Graph) (c : ℕ) (s : State) → Reached g c s → (n : ℕ) × ReachedBy g c n s
by_zeros g c s (p, walk, cost) = let z = zeros_of g p in (z.0, (p, walk, cost, z.1))

-- what a walk passes before a state that lies between lies between too
pub between_before : (g : Graph) (p : List ℕ) (op : ℕ) (t s : State) → Walk g p t → g.arc op t s → LiesBetween g s → LiesBetween g t
between_before g p op t s walk arc u = record {
  before = (walk_cost g p, (p, walk, refl));
  after = (g.cost op + u.after.0, (op ∷ u.after.1.0, (s, arc, u.after.1.1), omega (arith, u.after.1.2)));
}

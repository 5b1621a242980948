-- Local facts make layers right.
use Rattle.std.proofs.Common.{◌≡◌, ℕ, zero, suc, ◌+◌, ◌<◌, ◌≤◌, ◌⊎◌, inl, inr, List, [], ◌∷◌, subst, arith}
use Rattle.task_system.specs.System.{State}
use Rattle.run_graph.specs.Graph.{Graph, Walk, walk_cost, EndsInZeros, Reached, ReachedBy, LiesBetween}
use Rattle.run_graph.specs.Layering.{At, InLayer, Cheaper, IsInRingOrBefore, Layered, Belongs, RightLayer}
use Rattle.run_graph.specs.declared.Kind.{Kind}
use Rattle.run_graph.specs.declared.Kind.TheVariants.{Every, Least}
use Rattle.run_graph.proofs.Walks.{zero_or, zeros_of, by_zeros, between_before}

placed_cheaper : (at : At) (c d i : ℕ) (s : State) → c < d → IsInRingOrBefore Least at c i s → Cheaper Least at d s
placed_cheaper at c d i s lt (inl (j, le, h)) = (c, lt, (j, h))
placed_cheaper at c d i s lt (inr (x, less, h)) = (x, omega arith, h)

placed_more : (k : Kind) (at : At) (c i j : ℕ) (s : State) → i ≤ j → IsInRingOrBefore k at c i s → IsInRingOrBefore k at c j s
placed_more k at c i j s le (inl (n, h, a)) = inl (n, omega arith, a)
placed_more k at c i j s le (inr h) = inr h

module _ (g : Graph) (P : State → Type 0) (at : At) (bound : ℕ) (between : (s : State) → LiesBetween g s → P s) where
  -- an arc from a member of a cheaper layer
  from_cheaper : (k : Kind) (r : Layered g k P at bound) (c op : ℕ) (t s : State) → Cheaper k at c t → g.arc op t s
      → P s → c + g.cost op < bound → Cheaper k at (c + g.cost op) s
  from_cheaper Every r c op t s h arc p lt = absurd h
  from_cheaper Least r c op t s (x, less, (i, a)) arc p lt = elim (zero_or (g.cost op)) [
    | inl z ↦ placed_cheaper at x (c + g.cost op) (i + 1) s (omega arith) (r.beside x i op t s a arc p z)
    | inr h ↦ placed_cheaper at (x + g.cost op) (c + g.cost op) 0 s (omega arith) (r.onward x i op t s a arc p h (omega arith))
  ]

  pub complete : (k : Kind) (r : Layered g k P at bound) (p : List ℕ) (n : ℕ) (s : State) → Walk g p s
      → EndsInZeros g p n → LiesBetween g s → walk_cost g p < bound → IsInRingOrBefore k at (walk_cost g p) n s
  complete k r [] n s start z u lt = placed_more k at 0 0 n s (omega arith) (r.begin s lt start (between s u))
  complete k r (op ∷ p) zero s (t, arc, walk) z u lt =
      let m = zeros_of g p in
      let e : walk_cost g p + g.cost op ≡ g.cost op + walk_cost g p = omega arith in
      let before = complete k r p m.0 t walk m.1 (between_before g p op t s walk arc u) (omega arith) in
      subst (λ (c : ℕ). IsInRingOrBefore k at c 0 s) e (elim before [
        | inl a ↦ r.onward (walk_cost g p) a.0 op t s a.2 arc (between s u) z (omega arith)
        | inr h ↦ inr (from_cheaper k r (walk_cost g p) op t s h arc (between s u) (omega arith))
      ])
  complete k r (op ∷ p) (suc n) s (t, arc, walk) (z, zs) u lt =
      let e : walk_cost g p ≡ g.cost op + walk_cost g p = omega (arith, z) in
      let f : walk_cost g p + g.cost op ≡ g.cost op + walk_cost g p = omega arith in
      let before = complete k r p n t walk zs (between_before g p op t s walk arc u) (omega arith) in
      elim before [
        | inl a ↦ subst (λ (c : ℕ). IsInRingOrBefore k at c (suc n) s) e
            (placed_more k at (walk_cost g p) (a.0 + 1) (suc n) s (omega (arith, a.1))
            (r.beside (walk_cost g p) a.0 op t s a.2 arc (between s u) z))
        | inr h ↦ inr (subst (λ (c : ℕ). Cheaper k at c s) f (from_cheaper k r (walk_cost g p) op t s h arc (between s u) (omega arith)))
      ]

  placed : (k : Kind) (r : Layered g k P at bound) (c n : ℕ) (s : State) → ReachedBy g c n s → LiesBetween g s → c < bound → IsInRingOrBefore k at c n s
  placed k r c n s (p, walk, cost, zs) u lt = subst (λ (x : ℕ). IsInRingOrBefore k at x n s) cost (complete k r p n s walk zs u (omega (arith, cost)))

  reached : (k : Kind) (r : Layered g k P at bound) (c : ℕ) (s : State) → InLayer at c s → Reached g c s
  reached k r c s (i, a) = let w = r.sound c i s a in (w.0, w.1, w.2)

  below_or : (m n : ℕ) → (m < n) ⊎ (n ≤ m)
  below_or m n = grind arith

  exact : (k : Kind) (r : Layered g k P at bound) (c : ℕ) (s : State) → c < bound → LiesBetween g s → InLayer at c s → Belongs g k c s
  exact Every r c s lt u h = reached Every r c s h
  exact Least r c s lt u h = (
    reached Least r c s h,
    λ d w. elim (below_or d bound) [
      | inr ge ↦ omega arith
      | inl less ↦
          let b = by_zeros g d s w in
          elim (placed Least r d b.0 s b.1 u less) [
            | inl a ↦ (let e = r.one_layer c d s h (a.0, a.2) in omega (arith, e))
            | inr x ↦ (let e = r.one_layer c x.0 s h x.2 in omega (arith, e, x.1))
          ]
    ],
  )

  member : (k : Kind) (r : Layered g k P at bound) (c : ℕ) (s : State) → c < bound → LiesBetween g s → Belongs g k c s → InLayer at c s
  member Every r c s lt u w =
      let b = by_zeros g c s w in
      elim (placed Every r c b.0 s b.1 u lt) [ inl a ↦ (a.0, a.2) | inr h ↦ absurd h ]
  member Least r c s lt u (w, least) =
      let b = by_zeros g c s w in
      elim (placed Least r c b.0 s b.1 u lt) [ inl a ↦ (a.0, a.2) | inr h ↦ (let z = least h.0 (reached Least r h.0 s h.2) in absurd (omega (arith, z, h.1))) ]

  in_ring : (k : Kind) (r : Layered g k P at bound) (c i m : ℕ) (s : State) → at c i s → IsInRingOrBefore k at c m s → i ≤ m
  in_ring k r c i m s a (inl (j, le, b)) = omega (arith, r.one_ring c i j s a b)
  in_ring Every r c i m s a (inr h) = absurd h
  in_ring Least r c i m s a (inr (x, lt, h)) = absurd (let e = r.one_layer c x s (i, a) h in omega (arith, e))

  -- each layer below the bound is right
  pub right : (k : Kind) (r : Layered g k P at bound) (c : ℕ) → c < bound → RightLayer g k at c
  right k r c lt = record {
    reached = reached k r c;
    exact = λ s u. (exact k r c s lt u, member k r c s lt u);
    ring = λ i s u a. record {
      some = r.sound c i s a;
      least = λ m w. in_ring k r c i m s a (placed k r c m s w u lt);
    };
    one_ring = r.one_ring c;
  }

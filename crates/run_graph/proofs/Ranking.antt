-- The least key tells which states can be ranked, and bounds what the others cost.
use Rattle.std.proofs.Common.{◌≡◌, ℕ, suc, ◌+◌, ◌<◌, ◌≤◌, ◌^◌, ◌⊎◌, inl, inr, List, [], ◌∷◌, sym, subst, arith}
use Rattle.task_system.specs.System.{State}
use Rattle.run_graph.specs.Graph.{Graph, turned, walk_cost, Reached}
use Rattle.run_graph.specs.Settling.{WalkInside}
use Rattle.run_graph.specs.Ranks.{Ranks, Waiting, InsideBy, HasLower, ComesBy, AreRankKeys, AreRanks, NoneBelow, AreNext, AddsRank, WaitsOn}

-- something waits under a key that is no more than this cost and what leads to s from the other end
pub record Bounds (g : Graph) (f : ℕ) (Waits : Waiting) (c : ℕ) (s : State) : Type 0 where
  pub key : ℕ
  pub cost : ℕ
  pub state : State
  pub waits : Waits key cost state
  pub below : key ≤ c + f
  pub near : (a : ℕ) → Reached (turned g) a s → key ≤ c + a

-- one arc more to the other end
reached_on : (g : Graph) (op a : ℕ) (t s : State) → g.arc op t s → Reached (turned g) a s → Reached (turned g) (g.cost op + a) t
reached_on g op a t s arc (p, walk, cost) = (op ∷ p, (s, arc, walk), omega (arith, cost))

module _ (g : Graph) (P : State → Type 0) (f : ℕ) (at : Ranks) (many : ℕ) (Waits : Waiting) (r : AreRanks g P f at many Waits) where
  comes : (c d : ℕ) (s : State) → d ≤ c → ComesBy at Waits d s → ((x : ℕ) × (x ≤ c) × ((i : ℕ) × at i x s)) ⊎ Bounds g f Waits c s
  comes c d s le (x, less, h) = elim h [
    | inl i ↦ inl (x, omega (arith, le, less), i)
    | inr k ↦ inr (record {
      key = k.0;
      cost = x;
      state = s;
      waits = k.1;
      below = (let b = r.keys.below k.0 x s k.1 in omega (arith, b, le, less));
      near = λ a w. let b = r.keys.near k.0 x a s k.1 w in omega (arith, b, le, less);
    })
  ]

  -- where a walk leads has a rank, at its cost at most, or a key is no more than what any walk through it costs
  pub walk_bounds : (p : List ℕ) (s : State) → WalkInside g P p s → walk_cost g p < 2 ^ 64
      → ((x : ℕ) × (x ≤ walk_cost g p) × ((i : ℕ) × at i x s)) ⊎ Bounds g f Waits (walk_cost g p) s
  walk_bounds [] s (start, here) lt = comes 0 0 s (omega arith) (r.begin s start here)
  walk_bounds (op ∷ p) s ((t, arc, walk), here) lt = elim (walk_bounds p t walk (omega (arith, lt))) [
    | inl x ↦ comes (walk_cost g (op ∷ p)) (x.0 + g.cost op) s (omega (arith, x.1)) (r.onward x.2.0 x.0 op t s x.2.1 arc here (omega (arith, x.1, lt)))
    | inr b ↦ inr (record {
      key = b.key;
      cost = b.cost;
      state = b.state;
      waits = b.waits;
      below = (let l = b.below in omega (arith, l));
      near = λ a w. let l = b.near (g.cost op + a) (reached_on g op a t s arc w) in omega (arith, l);
    })
  ]

  -- the least key bounds what walks through other states cost
  pub bound : (n : ℕ) → NoneBelow Waits n → (s : State) → ((i x : ℕ) → at i x s → ⊥) → (a d : ℕ)
      → Reached (turned g) a s → InsideBy g P d s → d < 2 ^ 64 → n ≤ a + d
  bound n none s new a d w (p, walk, cost) lt = elim (walk_bounds p s walk (omega (arith, cost, lt))) [
    | inl x ↦ absurd (new x.2.0 x.0 x.2.1)
    | inr b ↦ (let l = b.near a w in let m = none b.key b.cost b.state b.waits in omega (arith, l, m, cost))
  ]

  below_or : (m n : ℕ) → (m < n) ⊎ (n ≤ m)
  below_or m n = grind arith

  -- what is next by key has its least cost
  exact : (n x : ℕ) (New : State → Type 0) → AreNext g f at Waits n x New → (d : ℕ) (s : State) → New s → InsideBy g P d s → x ≤ d
  exact n x New z d s new (p, walk, cost) = elim (below_or d (2 ^ 64)) [
    | inr ge ↦ (let l = z.range in omega (arith, l, ge))
    | inl lt ↦ elim (walk_bounds p s walk (omega (arith, cost, lt))) [
      | inl y ↦ absurd (z.fresh y.2.0 y.0 s new y.2.1)
      | inr b ↦ (let m = z.least b.key b.cost b.state b.waits in elim (z.met s new) [
        | inl far ↦ (let l = b.below in omega (arith, l, m, far, cost))
        | inr a ↦ (let l = b.near a.0 a.1 in let e = a.2 in omega (arith, l, m, e, cost))
      ])
    ]
  ]

  module _ (more : Ranks) (After : Waiting) (n x : ℕ) (New : State → Type 0) (z : AreNext g f at Waits n x New)
      (adds : AddsRank at more many x New) (on : WaitsOn g P more x New Waits After)
      (keys : AreRankKeys g P f more (suc many) After) where
    lower_more : (i c : ℕ) (s : State) → HasLower g at i c s → HasLower g more i c s
    lower_more i c s (inl h) = inl h
    lower_more i c s (inr h) =
        inr (record {
          op = h.op;
          state = h.state;
          rank = h.rank;
          cost = h.cost;
          member =
              (adds h.rank h.cost h.state).1 (inl h.member);
          arc = h.arc;
          between = h.between;
          lower = h.lower;
        })

    comes_more : (c : ℕ) (s : State) → ComesBy at Waits c s → ComesBy more After c s
    comes_more c s (d, le, h) = elim h [
      | inl i ↦ (d, le, inl (i.0, (adds i.0 d s).1 (inl i.1)))
      | inr k ↦ (let a = on.rest k.0 d s k.1 in (a.0, omega (arith, a.1, le), a.2))
    ]

    inside : (i c : ℕ) (s : State) → more i c s → P s
    inside i c s a = elim ((adds i c s).0 a) [ inl p ↦ r.inside i c s p | inr p ↦ (let w = z.waits s p.2 in r.keys.inside w.0 x s w.1) ]

    once : (i j c d : ℕ) (s : State) → more i c s → more j d s → (i ≡ j) × (c ≡ d)
    once i j c d s a b = elim ((adds i c s).0 a) [
      | inl p ↦ elim ((adds j d s).0 b) [ inl q ↦ r.once i j c d s p q | inr q ↦ absurd (z.fresh i c s q.2 p) ]
      | inr p ↦ elim ((adds j d s).0 b) [ inl q ↦ absurd (z.fresh j d s p.2 q) | inr q ↦ (omega (arith, p.0, q.0), omega (arith, p.1, q.1)) ]
    ]

    lower : (i c : ℕ) (s : State) → more i c s → HasLower g more i c s
    lower i c s a = elim ((adds i c s).0 a) [
      | inl p ↦ lower_more i c s (r.lower i c s p)
      | inr p ↦
          let w = z.waits s p.2 in
          let h = lower_more many x s (r.keys.lower w.0 x s w.1) in
          subst (λ (m : ℕ). HasLower g more m c s) (sym p.0) (subst (λ (m : ℕ). HasLower g more many m s) (sym p.1) h)
    ]

    least : (i c d : ℕ) (s : State) → more i c s → InsideBy g P d s → c ≤ d
    least i c d s a w = elim ((adds i c s).0 a) [
      | inl p ↦ r.least i c d s p w
      | inr p ↦ (let e = exact n x New z d s p.2 w in omega (arith, e, p.1))
    ]

    onward : (i c op : ℕ) (t s : State) → more i c t → g.arc op t s → P s → c + g.cost op < 2 ^ 64 → ComesBy more After (c + g.cost op) s
    onward i c op t s a arc here lt = elim ((adds i c t).0 a) [
      | inl p ↦ comes_more (c + g.cost op) s (r.onward i c op t s p arc here lt)
      | inr p ↦
          let e : c + g.cost op ≡ x + g.cost op = omega (arith, p.1) in
          subst (λ (m : ℕ). ComesBy more After m s) (sym e) (on.onward op t s p.2 arc here (omega (arith, e, lt)))
    ]

    pub one_more : AreRanks g P f more (suc many) After
    one_more = record {
      keys = keys;
      inside = inside;
      under = λ i c s a. elim ((adds i c s).0 a) [ inl p ↦ (let u = r.under i c s p in omega (arith, u)) | inr p ↦ omega (arith, p.0) ];
      once = once;
      lower = lower;
      least = least;
      begin = λ s start here. comes_more 0 s (r.begin s start here);
      onward = onward;
    }

  -- what waits may be told anew
  pub told_anew : (After : Waiting) → AreRankKeys g P f at many After
      → ((k c : ℕ) (s : State) → Waits k c s → ComesBy at After c s) → AreRanks g P f at many After
  told_anew After keys rest =
      let on : (c : ℕ) (s : State) → ComesBy at Waits c s → ComesBy at After c s = λ c s h. elim h.2 [
        | inl i ↦ (h.0, h.1, inl i)
        | inr k ↦ (let a = rest k.0 h.0 s k.1 in (a.0, omega (arith, a.1, h.1), a.2))
      ] in
      record {
        keys = keys;
        inside = r.inside;
        under = r.under;
        once = r.once;
        lower = r.lower;
        least = r.least;
        begin = λ s start here. on 0 s (r.begin s start here);
        onward = λ i x op t s a arc here lt. on (x + g.cost op) s (r.onward i x op t s a arc here lt);
      }

  -- more is known of the other end
  pub goes_on : (h : ℕ) → f ≤ h → AreRanks g P h at many Waits
  goes_on h le = record {
    keys = record {
      inside = r.keys.inside;
      lower = r.keys.lower;
      below = λ k x s w. let b = r.keys.below k x s w in omega (arith, b, le);
      near = r.keys.near;
    };
    inside = r.inside;
    under = r.under;
    once = r.once;
    lower = r.lower;
    least = r.least;
    begin = r.begin;
    onward = r.onward;
  }

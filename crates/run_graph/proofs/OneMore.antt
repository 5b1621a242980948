-- One layer more.
use Rattle.std.proofs.Common.{◌≡◌, ℕ, zero, suc, ◌+◌, ◌<◌, ◌≤◌, ◌⊎◌, inl, inr, [], ◌∷◌, refl, sym, ◌∙◌, subst, arith}
use Rattle.task_system.specs.System.{State}
use Rattle.run_graph.specs.Graph.{Graph, ReachedBy}
use Rattle.run_graph.specs.Layering.{At, InLayer, Cheaper, IsInRingOrBefore, OneLayer, Layered, Seeds, NewLayer, IsRoom, AddsLayer}
use Rattle.run_graph.specs.declared.Kind.{Kind}
use Rattle.run_graph.specs.declared.Kind.TheVariants.{Every, Least}

below_or_at : (m n : ℕ) → m ≤ n → (m < n) ⊎ (m ≡ n)
below_or_at m n h = grind arith

module _ (g : Graph) (at more : At) (row : ℕ → State → Type 0) (P Room : State → Type 0) (x next : ℕ)
    (split : AddsLayer at more x row) (under : (c i : ℕ) (s : State) → at c i s → c < x)
    (new : NewLayer g Room (Seeds g at x) row) where
  old : (c i : ℕ) (s : State) → at c i s → more c i s
  old c i s h = (split c i s).1 (inl h)

  here : (i : ℕ) (s : State) → row i s → more x i s
  here i s h = (split x i s).1 (inr (refl, h))

  cheaper : (k : Kind) (c : ℕ) (s : State) → Cheaper k at c s → Cheaper k more c s
  cheaper Every c s h = h
  cheaper Least c s (d, lt, (i, h)) = (d, lt, (i, old d i s h))

  lift : (k : Kind) (c i : ℕ) (s : State) → IsInRingOrBefore k at c i s → IsInRingOrBefore k more c i s
  lift k c i s (inl (j, le, h)) = inl (j, le, old c j s h)
  lift k c i s (inr h) = inr (cheaper k c s h)

  row_sound : (k : Kind) (r : Layered g k P at x) (i : ℕ) (s : State) → row i s → ReachedBy g x i s
  row_sound k r zero s h = elim ((new.first s).0 h).0 [
    | inl a ↦ ([], a.1, sym a.0, refl)
    | inr b ↦ (let w = r.sound b.from b.ring b.state b.member in (b.op ∷ w.0, (b.state, b.arc, w.1), omega (arith, w.2, b.sum), b.dear))
  ]
  row_sound k r (suc i) s h =
      let f = new.from i s h in
      let w = row_sound k r i f.1 f.2 in
      (f.0 ∷ w.0, (f.1, f.3, w.1), omega (arith, w.2, f.4), (f.4, w.3))

  one_least : (r : Layered g Least P at x) → IsRoom Least at P Room x → (c d : ℕ) (s : State) → InLayer more c s → InLayer more d s → c ≡ d
  one_least r room c d s (i, a) (j, b) = elim ((split c i s).0 a) [
    | inl m ↦ elim ((split d j s).0 b) [ inl n ↦ r.one_layer c d s (i, m) (j, n) | inr n ↦ absurd (room.out s (new.inside j s n.1) (c, under c i s m, (i, m))) ]
    | inr m ↦ elim ((split d j s).0 b) [ inl n ↦ absurd (room.out s (new.inside i s m.1) (d, under d j s n, (j, n))) | inr n ↦ m.0 ∙ sym n.0 ]
  ]

  one_layer : (k : Kind) (r : Layered g k P at x) → IsRoom k at P Room x → OneLayer k more
  one_layer Every r room = tt
  one_layer Least r room = one_least r room

  pub settle : (k : Kind) (r : Layered g k P at x) → IsRoom k at P Room x → x < next
      → ((c i op : ℕ) (t s : State) → more c i t → g.arc op t s → 1 ≤ g.cost op → c + g.cost op < next
      → c + g.cost op ≤ x) → Layered g k P more next
  settle k r room lt none = record {
    sound = λ c i s h. elim ((split c i s).0 h) [ inl a ↦ r.sound c i s a | inr b ↦ subst (λ (y : ℕ). ReachedBy g y i s) (sym b.0) (row_sound k r i s b.1) ];
    one_ring = λ c i j s a b. elim ((split c i s).0 a) [
      | inl m ↦ elim ((split c j s).0 b) [ inl n ↦ r.one_ring c i j s m n | inr n ↦ absurd (omega (arith, n.0, under c i s m)) ]
      | inr m ↦ elim ((split c j s).0 b) [ inl n ↦ absurd (omega (arith, m.0, under c j s n)) | inr n ↦ new.apart i j s m.1 n.1 ]
    ];
    one_layer = one_layer k r room;
    begin = λ s b start p. elim (below_or_at 0 x (omega arith)) [
      | inl y ↦ lift k 0 0 s (r.begin s y start p)
      | inr e ↦ subst (λ (y : ℕ). IsInRingOrBefore k more y 0 s) (sym e) (elim (room.part s p) [
        | inl q ↦ inl (0, omega arith, here 0 s ((new.first s).1 (inl (sym e, start), q)))
        | inr h ↦ inr (cheaper k x s h)
      ])
    ];
    onward = λ c i op t s a arc p dear b.
        let le : c + g.cost op ≤ x = none c i op t s a arc dear b in
        elim ((split c i t).0 a) [
          | inl m ↦ elim (below_or_at (c + g.cost op) x le) [
            | inl y ↦ lift k (c + g.cost op) 0 s (r.onward c i op t s m arc p dear y)
            | inr e ↦ subst (λ (y : ℕ). IsInRingOrBefore k more y 0 s) (sym e) (elim (room.part s p) [
              | inl q ↦ inl (
                0,
                omega arith,
                here 0 s ((new.first s).1 (
                  inr (record {
                    from = c;
                    ring = i;
                    op = op;
                    state = t;
                    member = m;
                    arc =
                        arc;
                    dear = dear;
                    sum = e;
                  }),
                  q,
                )),
              )
              | inr h ↦ inr (cheaper k x s h)
            ])
          ]
          | inr m ↦ absurd (omega (arith, m.0, le, dear))
        ];
    beside = λ c i op t s a arc p z. elim ((split c i t).0 a) [
      | inl m ↦ lift k c (i + 1) s (r.beside c i op t s m arc p z)
      | inr m ↦ subst (λ (y : ℕ). IsInRingOrBefore k more y (i + 1) s) (sym m.0) (elim (room.part s p) [
        | inl q ↦ (let n = new.next i op t s m.1 arc z q in inl (n.0, n.1, here n.0 s n.2))
        | inr h ↦ inr (cheaper k x s h)
      ])
    ];
  }

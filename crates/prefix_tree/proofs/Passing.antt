-- Whether a prefix passes a state, read along the ones before it.
use Rattle.std.proofs.Common.{◌≡◌, ℕ, zero, suc, ◌<◌, ◌↔◌, inl, inr, List, [], ◌∷◌, ◌++◌, length, slice_index_or, Option, unwrap_or, sym, ◌∙◌, ap, subst, arith}
use Rattle.symk_task.specs.declared.parts.Mode.{Mode}
use Rattle.task_system.specs.System.{State, System, Listed, Leads, RunsInSystem, trace, next_state}
use Rattle.lazy_plans.proofs.Traces.{trace_more, runs_cut}
use Rattle.prefix_tree.specs.StateGraph.{numbered_state, AreDistinctStates}
use Rattle.prefix_tree.specs.Tree.{path_at, state_number_at, IsTree}
use Rattle.prefix_tree.specs.declared.tree.Node.{Node}
use Rattle.prefix_tree.proofs.Operators.{back_path, back_first}

pub number_is : (nodes : List Node) (i : ℕ) (n : Node) → i < length nodes → n ≡ slice_index_or nodes i n → n.state ≡ state_number_at nodes i
number_is [] i n lt is = absurd (omega arith)
number_is (x ∷ nodes) zero n lt is = ap (λ (m : Node). m.state) is
number_is (x ∷ nodes) (suc i) n lt is = number_is nodes i n (omega arith) is

listed_first : (xs : List State) (s t : State) → Listed xs t → Listed (xs ++ s ∷ []) t
listed_first [] s t h = absurd h
listed_first (x ∷ xs) s t (inl e) = inl e
listed_first (x ∷ xs) s t (inr h) = inr (listed_first xs s t h)

unlisted_last : (xs : List State) (s t : State) → ¬ (s ≡ t) → Listed (xs ++ s ∷ []) t → Listed xs t
unlisted_last [] s t n (inl e) = absurd (n e)
unlisted_last [] s t n (inr h) = absurd h
unlisted_last (x ∷ xs) s t n (inl e) = inl e
unlisted_last (x ∷ xs) s t n (inr h) = inr (unlisted_last xs s t n h)

-- the end of a run is the last state that it passes
trace_end : (y : System) (p : List ℕ) (s t : State) → RunsInSystem y s p t → Listed (trace y s p) t
trace_end y [] s t r = inl r
trace_end y (op ∷ p) s t r = inr (subst (λ (x : State). Listed (trace y x p) t) (sym (next_is y op s r.0 r.1)) (trace_end y p r.0 t r.2))
  where
    next_is : (y : System) (op : ℕ) (s m : State) → Leads y op s m → next_state y op s ≡ m
    next_is y op s m l = ap (λ (o : Option State). unwrap_or o s) l.step

module _ (nodes : List Node) (at : ℕ) (n : Node) (within : at < length nodes) (is : n ≡ slice_index_or nodes at n)
    (state : ℕ) (y : System) (m : Mode) (ss : List State) (z : IsTree y m ss nodes) (once : AreDistinctStates ss)
    (known : state < length ss) where
  run : RunsInSystem y y.initial (path_at nodes at) (numbered_state ss n.state)
  run = subst (λ (k : ℕ). RunsInSystem y y.initial (path_at nodes at) (numbered_state ss k)) (sym (number_is nodes at n within is)) (z.each at within).runs

  pub here : n.state ≡ state → Listed (trace y y.initial (path_at nodes at)) (numbered_state ss state)
  here e = subst (λ (k : ℕ). Listed (trace y y.initial (path_at nodes at)) (numbered_state ss k)) e
      (trace_end y (path_at nodes at) y.initial (numbered_state ss n.state) run)

  apart : ¬ (n.state ≡ state) → ¬ (numbered_state ss n.state ≡ numbered_state ss state)
  apart off e = off (once n.state state (omega (arith, number_is nodes at n within is, (z.each at within).within)) known e)

  -- at the empty prefix
  pub nowhere : at ≡ 0 → ¬ (n.state ≡ state) → ¬ Listed (trace y y.initial (path_at nodes at)) (numbered_state ss state)
  nowhere e off h =
      let first : path_at nodes at ≡ [] = back_first nodes z.linked at within e in
      let start : y.initial ≡ numbered_state ss n.state = subst (λ (p : List ℕ). RunsInSystem y y.initial p (numbered_state ss n.state)) first run in
      apart off (sym start ∙ only (subst (λ (p : List ℕ). Listed (trace y y.initial p) (numbered_state ss state)) first h))
    where
      only : (h : Listed (y.initial ∷ []) (numbered_state ss state)) → y.initial ≡ numbered_state ss state
      only (inl e) = e
      only (inr h) = absurd h

  trace_up : ¬ (at ≡ 0) → trace y y.initial (path_at nodes at) ≡ trace y y.initial (path_at nodes n.parent) ++ numbered_state ss n.state ∷ []
  trace_up off =
      let p = back_path nodes z.linked at n within is off in
      let r = subst (λ (q : List ℕ). RunsInSystem y y.initial q (numbered_state ss n.state)) p run in
      let c = runs_cut y (path_at nodes n.parent) (n.op ∷ []) y.initial (numbered_state ss n.state) r in
      let lead : Leads y n.op c.0 (numbered_state ss n.state) = subst (Leads y n.op c.0) c.2.2 c.2.1 in
      ap (trace y y.initial) p ∙ trace_more y (path_at nodes n.parent) n.op y.initial c.0 (numbered_state ss n.state) c.1 lead

  -- one up
  pub up_same : ¬ (at ≡ 0) → ¬ (n.state ≡ state) → Listed (trace y y.initial (path_at nodes at)) (numbered_state ss state)
      ↔ Listed (trace y y.initial (path_at nodes n.parent)) (numbered_state ss state)
  up_same off other = (
    (λ h. unlisted_last (trace y y.initial (path_at nodes n.parent)) (numbered_state ss n.state) (numbered_state ss state)
        (apart other) (subst (λ (l : List State). Listed l (numbered_state ss state)) (trace_up off) h)),
    (λ h. subst (λ (l : List State). Listed l (numbered_state ss state)) (sym (trace_up off))
        (listed_first (trace y y.initial (path_at nodes n.parent)) (numbered_state ss n.state) (numbered_state ss state) h)),
  )

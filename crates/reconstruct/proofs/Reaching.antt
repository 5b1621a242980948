-- One operator more of those that lead on.
use Rattle.std.proofs.Common.{◌≡◌, ℕ, zero, suc, ◌+◌, ◌<◌, List, [], ◌∷◌, ◌++◌, take, get_or, length, refl, ap, subst, arith}
use Rattle.std.proofs.lemmas.List.{take_more}
use Rattle.task_system.specs.System.{State, System, Leads, RunsInSystem}
use Rattle.plan_cuts.proofs.Paths.{joined, parted, run_one}

module _ (y : System) (ops : List ℕ) (i : ℕ) (lt : i < length ops) (s end : State) (all : RunsInSystem y y.initial ops end)
    (run : RunsInSystem y y.initial (take i ops) s) where
  more : take (i + 1) ops ≡ take i ops ++ (get_or ops i 0 ∷ [])
  more = take_more ops i 0 lt

  splits : (xs : List ℕ) (n : ℕ) → n < length xs → (rest : List ℕ) × (xs ≡ take n xs ++ (get_or xs n 0 ∷ rest))
  splits [] n h = absurd (omega (arith, h))
  splits (x ∷ xs) zero h = (xs, refl)
  splits (x ∷ xs) (suc n) h = let r = splits xs n (omega (arith, h)) in (r.0, ap (λ (z : List ℕ). x ∷ z) r.1)

  pub leads_next : (t : State) × Leads y (get_or ops i 0) s t
  leads_next =
      let r = splits ops i lt in
      let p = parted y (take i ops) (get_or ops i 0 ∷ r.0) y.initial end (subst (λ (z : List ℕ). RunsInSystem y y.initial z end) r.1 all) in
      let at : p.0 ≡ s = run_one y y.initial (take i ops) p.0 s p.1 run in
      (p.2.0, subst (λ (x : State). Leads y (get_or ops i 0) x p.2.0) at p.2.1)

  pub runs_next : (t : State) → Leads y (get_or ops i 0) s t → RunsInSystem y y.initial (take (i + 1) ops) t
  runs_next t lead = rw more (joined y (take i ops) (get_or ops i 0 ∷ []) y.initial s t run (t, lead, refl))

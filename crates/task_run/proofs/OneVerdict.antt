-- A plan has one verdict.
use Rattle.std.proofs.Common.{◌≡◌, ℕ, zero, suc, ◌-◌, ◌<◌, ◌≤◌, inl, inr, List, [], ◌∷◌, length, get_or, take, refl, sym, ap, subst, ◌∙◌, arith}
use Rattle.std.specs.List.{All}
use Rattle.std.proofs.lemmas.Bool.{cases_order}
use Rattle.symk_task.specs.declared.parts.TaskParts.{TaskParts}
use Rattle.symk_task.specs.Steps.{Holds, Allows, Applies, Step}
use Rattle.symk_task.specs.Plans.{Runs, IsInitial, IsPlan}
use Rattle.symk_task.specs.Fits.{Fits}
use Rattle.symk_task.proofs.Places.{within_some}
use Rattle.symk_task.proofs.Running.{one_end}
use Rattle.symk_task.proofs.Starting.{one_initial}
use Rattle.task_run.specs.declared.verdict.Verdict.{Verdict}
use Rattle.task_run.specs.declared.verdict.Verdict.TheVariants.{NoSuchOperator, StopsAt, MissesGoal, Reaches}
use Rattle.task_run.specs.Verdicts.{IsTooLarge, Stops, Misses, Judges}

-- the step at a place of a run
record Through (task : TaskParts) (s p : List ℕ) (i : ℕ) : Type 0 where
  m : List ℕ
  n : List ℕ
  front : Runs task s (take i p) m
  step : Step task m (get_or p i 0) n

through : (task : TaskParts) (p s u : List ℕ) (i : ℕ) → i < length p → Runs task s p u → Through task s p i
unfolding Runs
through task [] s u i lt h = absurd (omega arith)
through task (a ∷ p) s u zero lt (n, first, rest) = record { m = s; n = n; front = refl; step = first }
through task (a ∷ p) s u (suc i) lt (n, first, rest) = (let r = through task p n u i (omega arith) rest in record
    { m = r.m; n = r.n; front = (n, first, r.front); step = r.step })

-- what runs has operators' numbers alone
in_range : (task : TaskParts) (p s u : List ℕ) (i : ℕ) → i < length p → Runs task s p u → get_or p i 0 < length task.operators
in_range task p s u i lt h =
    let r = through task p s u i lt h in
    within_some (λ operator. All (Holds task r.m) operator.prevail × All (Allows task r.m) operator.effects) task.operators (get_or p i 0) r.step.0

take_less : (p : List ℕ) (i j : ℕ) → i < j → j ≤ length p → (take i (take j p) ≡ take i p) × (get_or (take j p) i 0 ≡ get_or p i 0) × (i < length (take j p))
take_less [] i j lt le = absurd (omega arith)
take_less (x ∷ p) i zero lt le = absurd (omega arith)
take_less (x ∷ p) zero (suc j) lt le = (refl, refl, omega arith)
take_less (x ∷ p) (suc i) (suc j) lt le = (let r = take_less p i j (omega arith) (omega arith) in (ap (λ (z : List ℕ). x ∷ z) r.0, r.1, omega (arith, r.2)))

-- where a run stops, no longer one goes on
not_further : {task : TaskParts} {p : List ℕ} {i : ℕ} {s : List ℕ} (q u : List ℕ) → Fits task → Stops task p i
    → IsInitial task s → take i q ≡ take i p → get_or q i 0 ≡ get_or p i 0 → i < length q → Runs task s q u → ⊥
not_further {task} {p} {i} {s} q u fits stops init front here lt h =
    let e : stops.s ≡ s = one_initial task stops.s s stops.initial init in
    let r = through task q s u i lt h in
    let f = subst (λ (z : List ℕ). Runs task s z r.m) front r.front in
    let g = subst (λ (z : List ℕ). Runs task z (take i p) stops.t) e stops.runs in
    let same : r.m ≡ stops.t = one_end task (take i p) s r.m stops.t fits init.state f g in
    let a = subst (λ (z : List ℕ). Applies task z (get_or q i 0)) same r.step.0 in
    stops.stuck (subst (Applies task stops.t) here a)

one_stop : (task : TaskParts) (p : List ℕ) (i j : ℕ) → Fits task → Stops task p i → Stops task p j → i < j → ⊥
one_stop task p i j fits a b lt =
    let le : j ≤ length p = (let k = b.within in omega (arith, k)) in
    let t = take_less p i j lt le in
    not_further (take j p) b.t fits a b.initial t.0 t.1 t.2 b.runs

-- a number that is no operator's stands in no run
no_number : (task : TaskParts) (p : List ℕ) (i : ℕ) (s u : List ℕ) → IsTooLarge (length task.operators) p i → Runs task s p u → ⊥
no_number task p i s u l h = (let k = in_range task p s u i l.within h in let e = l.here in omega (arith, k, e))

-- the goal holds at the one end, or it doesn't
goal_both : (task : TaskParts) (p : List ℕ) → Fits task → Misses task p → IsPlan task p → ⊥
goal_both task p fits m h =
    let e : h.0 ≡ m.s = one_initial task h.0 m.s h.2 m.initial in
    let k = subst (λ (z : List ℕ). Runs task z p h.1) e h.3 in
    let same : h.1 ≡ m.t = one_end task p m.s h.1 m.t fits m.initial.state k m.runs in
    m.missed (subst (λ (z : List ℕ). All (Holds task z) task.goal) same h.4)

pub one_verdict : (task : TaskParts) (p : List ℕ) (v w : Verdict) → Fits task → Judges task p v → Judges task p w → v ≡ w
one_verdict task p (NoSuchOperator a) (NoSuchOperator b) fits h k = elim (cases_order (a - 1) (b - 1)) [
  | inl e ↦ (let x = h.0 in let y = k.0 in let same : a ≡ b = omega (arith, e, x, y) in ap (λ (z : ℕ). NoSuchOperator z) same)
  | inr other ↦ elim other [
    | inl lt ↦ (let x = k.1.before (a - 1) lt in let y = h.1.here in absurd (omega (arith, x, y)))
    | inr lt ↦ (let x = h.1.before (b - 1) lt in let y = k.1.here in absurd (omega (arith, x, y)))
  ]
]
one_verdict task p (NoSuchOperator a) (StopsAt b) fits h k = (let x = k.1.operators (a - 1) 0 h.1.within in let y = h.1.here in absurd (omega (arith, x, y)))
one_verdict task p (NoSuchOperator a) MissesGoal fits h k = absurd (no_number task p (a - 1) k.s k.t h.1 k.runs)
one_verdict task p (NoSuchOperator a) (Reaches c) fits h k = absurd (no_number task p (a - 1) k.0.0 k.0.1 h.1 k.0.3)
one_verdict task p (StopsAt a) (NoSuchOperator b) fits h k = (let x = h.1.operators (b - 1) 0 k.1.within in let y = k.1.here in absurd (omega (arith, x, y)))
one_verdict task p (StopsAt a) (StopsAt b) fits h k = elim (cases_order (a - 1) (b - 1)) [
  | inl e ↦ (let x = h.0 in let y = k.0 in let same : a ≡ b = omega (arith, e, x, y) in ap (λ (z : ℕ). StopsAt z) same)
  | inr other ↦ elim other [
    | inl lt ↦ absurd (one_stop task p (a - 1) (b - 1) fits h.1 k.1 lt)
    | inr lt ↦ absurd (one_stop task p (b - 1) (a - 1) fits k.1 h.1 lt)
  ]
]
one_verdict task p (StopsAt a) MissesGoal fits h k =
    absurd (not_further p k.t fits h.1 k.initial refl refl h.1.within k.runs)
one_verdict task p (StopsAt a) (Reaches c) fits h k =
    absurd (not_further p k.0.1 fits h.1 k.0.2 refl refl h.1.within k.0.3)
one_verdict task p MissesGoal (NoSuchOperator b) fits h k = absurd (no_number task p (b - 1) h.s h.t k.1 h.runs)
one_verdict task p MissesGoal (StopsAt b) fits h k =
    absurd (not_further p h.t fits k.1 h.initial refl refl k.1.within h.runs)
one_verdict task p MissesGoal MissesGoal fits h k = refl
one_verdict task p MissesGoal (Reaches c) fits h k = absurd (goal_both task p fits h k.0)
one_verdict task p (Reaches c) (NoSuchOperator b) fits h k = absurd (no_number task p (b - 1) h.0.0 h.0.1 k.1 h.0.3)
one_verdict task p (Reaches c) (StopsAt b) fits h k =
    absurd (not_further p h.0.1 fits k.1 h.0.2 refl refl k.1.within h.0.3)
one_verdict task p (Reaches c) MissesGoal fits h k = absurd (goal_both task p fits k h.0)
one_verdict task p (Reaches c) (Reaches d) fits h k = ap (λ (z : ℕ). Reaches z) (h.1 ∙ sym k.1)

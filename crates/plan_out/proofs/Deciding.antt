-- What a list of operators comes to is decided: it is a plan, or it stops, or it misses the goal.
use Rattle.std.proofs.Common.{◌≡◌, ℕ, zero, suc, ◌<◌, ◌≤◌, ◌⊎◌, ◌↔◌, inl, inr, List, [], ◌∷◌, ◌++◌, length, get_or, take, Option, Some, None, IsSomeAnd, IfSome, slice_get, Contains, refl, sym, ap, subst, ◌∙◌, append_assoc, arith}
use Rattle.std.proofs.Math.ListN.{set}
use Rattle.std.proofs.lemmas.Bool.{cases_eq}
use Rattle.std.proofs.lemmas.List.{append-nil, length-set}
use Rattle.std.proofs.lemmas.List.Elements.{All-nil, All-cons, All-head, All-tail}
use Rattle.std.specs.List.{All}
use Rattle.symk_task.specs.declared.parts.Fact.{Fact}
use Rattle.symk_task.specs.declared.parts.Effect.{Effect}
use Rattle.symk_task.specs.declared.parts.Operator.{Operator}
use Rattle.symk_task.specs.declared.parts.Rule.{Rule}
use Rattle.symk_task.specs.declared.parts.Variable.{Variable}
use Rattle.symk_task.specs.declared.parts.TaskParts.{TaskParts}
use Rattle.symk_task.specs.Variables.{HasLayer, IsState, base_values}
use Rattle.symk_task.specs.Steps.{Holds, Applies, Step, ValueAfter}
use Rattle.symk_task.specs.Plans.{Runs, IsInitial, IsPlan}
use Rattle.symk_task.specs.Fits.{Fits}
use Rattle.symk_task.proofs.Places.{within_some}
use Rattle.symk_task.proofs.Running.{fits_operator, step_state}
use Rattle.symk_task.proofs.Starting.{start_law}
use Rattle.task_run.specs.Values.{HasValue, Valued, FiresBy, AllowsBy, IsOn}
use Rattle.task_run.specs.Layer.{Raises, Grows, IsStuck, at_default, start_value}
use Rattle.task_run.specs.Layer.Grows.{done, by}
use Rattle.task_run.specs.Verdicts.{AreOperators, Stops, Misses}
use Rattle.task_run.proofs.Applying.{applies_law, below}
use Rattle.task_run.proofs.Effects.{written, unchanged}
use Rattle.task_run.proofs.Growing.{at_default_falls, grows_on, length_push, start_push}
use Rattle.task_run.proofs.Layers.{Below, layer_done, started, valued}
use Rattle.task_run.proofs.Stepping.{step_after}

-- it holds, or it does not
abbrev pub Either : Type 0 → Type 0
Either P = P ⊎ (¬ P)

both : {P Q : Type 0} → Either P → Either Q → Either (P × Q)
both (inl p) (inl q) = inl (p, q)
both (inl p) (inr n) = inr (λ h. n h.1)
both (inr n) q = inr (λ h. n h.0)

pub each : {X : Type 0} (P : X → Type 0) → ((x : X) → Either (P x)) → (xs : List X) → Either (All P xs)
each P one [] = inl (All-nil P)
each {X} P one (x ∷ xs) = by (one x) (each P one xs)
  where
    by : Either (P x) → Either (All P xs) → Either (All P (x ∷ xs))
    by (inl p) (inl h) = inl (All-cons P x xs p h)
    by (inl p) (inr n) = inr (λ h. n (All-tail P x xs h))
    by (inr n) h = inr (λ h. n (All-head P x xs h))

has_value : (values : List ℕ) (fact : Fact) → Either (HasValue values fact)
has_value values fact = cases_eq (get_or values fact.var 0) fact.val

-- Values of the derived variables.

layer_is : (o : Option Variable) (layer : ℕ) → Either (IsSomeAnd o (λ v. v.layer ≡ Some layer))
layer_is None layer = inr (λ h. h)
layer_is (Some v) layer = by v.layer
  where
    by : (o : Option ℕ) → Either (o ≡ Some layer)
    by None = inr (λ e. cc)
    by (Some n) = elim (cases_eq n layer) [ inl e ↦ inl (ap (λ (z : ℕ). Some z) e) | inr ne ↦ inr (λ e. let same : n ≡ layer = cc in ne same) ]

raises : (task : TaskParts) (layer : ℕ) (values : List ℕ) (rule : Rule) → Either (Raises task layer values rule)
raises task layer values rule =
    by (cases_eq rule.new (get_or task.initial rule.var 0)) (layer_is (slice_get task.variables rule.var) layer)
    (cases_eq (get_or values rule.var 0) (get_or task.initial rule.var 0))
    (each (HasValue values) (has_value values) rule.conds)
  where
    by : Either (rule.new ≡ get_or task.initial rule.var 0) → Either (HasLayer task rule.var layer)
        → Either (get_or values rule.var 0 ≡ get_or task.initial rule.var 0)
        → Either (All (HasValue values) rule.conds) → Either (Raises task layer values rule)
    by (inl e) on low conds = inr (λ r. r.opened.own.counts e)
    by (inr ne) (inr n) low conds = inr (λ r. n r.opened.own.on)
    by (inr ne) (inl on) (inr n) conds = inr (λ r. n r.opened.unraised)
    by (inr ne) (inl on) (inl low) (inr n) = inr (λ r. n r.conds)
    by (inr ne) (inl on) (inl low) (inl conds) = inl (record { opened = record { own = record { counts = ne; on = on }; unraised = low }; conds = conds })

-- one that raises its variable, or none
raising : (task : TaskParts) (layer : ℕ) (values : List ℕ) (rules : List Rule)
    → ((rule : Rule) × Contains rules rule × Raises task layer values rule)
    ⊎ All (λ rule. ¬ Raises task layer values rule) rules
raising task layer values [] = inr (All-nil (λ rule. ¬ Raises task layer values rule))
raising task layer values (rule ∷ rules) = choose (raises task layer values rule) (raising task layer values rules)
  where
    choose : Either (Raises task layer values rule)
        → (((other : Rule) × Contains rules other × Raises task layer values other)
        ⊎ All (λ rule. ¬ Raises task layer values rule) rules)
        → ((other : Rule) × Contains (rule ∷ rules) other × Raises task layer values other) ⊎ All (λ rule. ¬ Raises task layer values rule) (rule ∷ rules)
    choose (inl r) rest = inl (rule, (0, omega arith, refl), r)
    choose (inr n) (inl (other, at, r)) = inl (other, (suc at.0, (let lt = at.1 in omega arith), at.2), r)
    choose (inr n) (inr none) = inr (All-cons (λ rule. ¬ Raises task layer values rule) rule rules n none)

-- the values after a rule that raises its variable
falls : (task : TaskParts) (layer : ℕ) (values : List ℕ) (rule : Rule) → Fits task
    → length values ≡ length task.variables → Raises task layer values rule
    → at_default task.initial (set values rule.var rule.new) < at_default task.initial values
falls task layer values rule fits size r =
    let lt : rule.var < length task.variables = within_some (λ v. v.layer ≡ Some layer) task.variables rule.var r.opened.own.on in
    let initial : length task.initial ≡ length task.variables = fits.initial in
    at_default_falls task.initial values rule.var rule.new (omega arith) (omega arith) r.opened.unraised r.opened.own.counts

record Grown (task : TaskParts) (layer : ℕ) (values : List ℕ) : Type 0 where
  new : List ℕ
  grows : Grows task layer values new
  stuck : IsStuck task layer new

-- rules of a layer are used until none is left
grown : (task : TaskParts) (layer : ℕ) → Fits task → (most : ℕ) (values : List ℕ)
    → at_default task.initial values ≤ most → length values ≡ length task.variables → Grown task layer values
grown task layer fits zero values enough size = by_rule (raising task layer values task.rules)
  where
    by_rule : (((rule : Rule) × Contains task.rules rule × Raises task layer values rule)
        ⊎ All (λ rule. ¬ Raises task layer values rule) task.rules) → Grown task layer values
    by_rule (inl h) = absurd (omega (arith, falls task layer values h.0 fits size h.2))
    by_rule (inr none) = record { new = values; grows = done values; stuck = none }
grown task layer fits (suc most) values enough size = by_rule (raising task layer values task.rules) (λ more few same. grown task layer fits most more few same)
  where
    by_rule : (((rule : Rule) × Contains task.rules rule × Raises task layer values rule) ⊎ All (λ rule. ¬ Raises task layer values rule) task.rules)
        → ((more : List ℕ) → at_default task.initial more ≤ most → length more ≡ length task.variables → Grown task layer more) → Grown task layer values
    by_rule (inl h) ih =
        let more : List ℕ = set values h.0.var h.0.new in
        let g = ih more (omega (arith, falls task layer values h.0 fits size h.2)) (length-set values h.0.var h.0.new ∙ size) in
        record { new = g.new; grows = grows_on task layer values more g.new (by values values h.0 (done values) h.1 h.2) g.grows; stuck = g.stuck }
    by_rule (inr none) ih = record { new = values; grows = done values; stuck = none }

listed : (f : ℕ → ℕ) (n : ℕ) → (values : List ℕ) × (length values ≡ n) × ((k : ℕ) → k < n → get_or values k 0 ≡ f k)
listed f zero = ([], refl, λ k lt. absurd (omega arith))
listed f (suc n) =
    let h = listed f n in
    let size : length (h.0 ++ f n ∷ []) ≡ suc n = omega (arith, length_push h.0 (f n), h.1) in
    (h.0 ++ f n ∷ [], size, λ k lt. start_push f h.0 n (f n) h.1 refl h.2 k (omega arith))

layers : (task : TaskParts) (s : List ℕ) → Fits task → (n : ℕ) → (values : List ℕ) × Below task s n values
layers task s fits zero = (let h = listed (start_value task.variables task.initial s) (length task.variables) in (h.0, started task s h.0 fits h.1 h.2))
layers task s fits (suc n) =
    let h = layers task s fits n in
    let g = grown task n fits (at_default task.initial h.0) h.0 (omega arith) h.1.each in
    (g.new, layer_done task s n fits h.0 g.new h.1 g.grows g.stuck)

-- there are values for a state
all_values : (task : TaskParts) (s : List ℕ) → Fits task → (values : List ℕ) × Valued task s values
all_values task s fits = at 65536 (λ i d lt. (fits.each_variable i d lt).range.layer_most)
  where
    at : (n : ℕ) → All (λ v. IfSome v.layer (λ layer. layer < n)) task.variables → (values : List ℕ) × Valued task s values
    at n most = (let h = layers task s fits n in (h.0, valued task s n h.0 fits most h.1))

-- Steps.

allowed : (values : List ℕ) (effect : Effect) → Either (AllowsBy values effect)
allowed values effect = by effect.pre
  where
    by : (pre : Option ℕ) → Either (IfSome pre (λ val. get_or values effect.var 0 ≡ val))
    by None = inl tt
    by (Some val) = cases_eq (get_or values effect.var 0) val

-- an operator that is there
known : (operators : List Operator) (a : ℕ) → a < length operators → (operator : Operator) × (slice_get operators a ≡ Some operator)
known [] a lt = absurd (omega arith)
known (operator ∷ operators) zero lt = (operator, refl)
known (operator ∷ operators) (suc a) lt = known operators a (omega arith)

applies : (task : TaskParts) (s values : List ℕ) (a : ℕ) → Fits task → Valued task s values → a < length task.operators → Either (Applies task s a)
applies task s values a fits v lt =
    let k = known task.operators a lt in
    let law = applies_law task s values a k.0 v k.1 (fits_operator task a k.0 fits k.1) in
    by (both (each (HasValue values) (has_value values) k.0.prevail) (each (AllowsBy values) (allowed values) k.0.effects)) law
  where
    by : {P : Type 0} → Either P → P ↔ Applies task s a → Either (Applies task s a)
    by (inl h) law = inl (law.0 h)
    by (inr n) law = inr (λ h. n (law.1 h))

record Written (values : List ℕ) (effects : List Effect) : Type 0 where
  next : List ℕ
  size : length next ≡ length values
  after : (var : ℕ) → ValueAfter (FiresBy values) effects var (get_or values var 0) (get_or next var 0)

-- the effects that are left, after those that are done
rest_written : (values : List ℕ) (before rest : List Effect) (next : List ℕ) → length next ≡ length values
    → ((var : ℕ) → ValueAfter (FiresBy values) before var (get_or values var 0) (get_or next var 0))
    → All (IsOn (length values)) rest → Written values (before ++ rest)
rest_written values before [] next size h on = record {
  next = next;
  size = size;
  after = λ var. subst
      (λ (z : List Effect). ValueAfter (FiresBy values) z var (get_or values var 0) (get_or next var 0))
      (sym (append-nil before)) (h var);
}
rest_written values before (e ∷ rest) next size h on =
    subst (Written values) (append_assoc before (e ∷ []) rest)
    (by (each (HasValue values) (has_value values) e.conds)
    (λ more same k. rest_written values (before ++ e ∷ []) rest more same k
    (All-tail (IsOn (length values)) e rest on)))
  where
    by : Either (FiresBy values e) → ((more : List ℕ) → length more ≡ length values
        → ((var : ℕ) → ValueAfter (FiresBy values) (before ++ e ∷ []) var (get_or values var 0) (get_or more var 0))
        → Written values ((before ++ e ∷ []) ++ rest)) → Written values ((before ++ e ∷ []) ++ rest)
    by (inl fires) go =
        let here = All-head (IsOn (length values)) e rest on in
        let lt : e.var < length next = (let var : e.var < length values = here.var in omega arith) in
        go (set next e.var e.post) (length-set next e.var e.post ∙ size)
        (λ var. written (FiresBy values) before e var (get_or values var 0) next fires lt (h var))
    by (inr idle) go = go next size (λ var. unchanged (FiresBy values) before e var (get_or values var 0) (get_or next var 0) (λ _ f. idle f) (h var))

-- an operator that applies leads to a state
leads : (task : TaskParts) (s values : List ℕ) (a : ℕ) → Fits task → IsState task s → Valued task s values
    → Applies task s a → a < length task.operators → (t : List ℕ) × Step task s a t
leads task s values a fits state v h lt =
    let k = known task.operators a lt in
    let fit = fits_operator task a k.0 fits k.1 in
    let w = rest_written values [] k.0.effects values refl (λ var. inr (tt, refl)) (below task values k.0 v.each fit).1 in
    (base_values task.variables w.next, (h, step_after a w.next state k.1 fit.each v w.after w.size))

-- Runs.

-- the operators run from the state, or stop on the way
abbrev Comes : TaskParts → List ℕ → List ℕ → Type 0
Comes task s p = ((t : List ℕ) × Runs task s p t) ⊎ ((i : ℕ) × (t : List ℕ) × (i < length p) × Runs task s (take i p) t × ¬ Applies task t (get_or p i 0))

comes : (task : TaskParts) (p s : List ℕ) → Fits task → IsState task s → AreOperators task p → Comes task s p
unfolding Runs
comes task [] s fits state ops = inl (s, refl)
comes task (a ∷ p) s fits state ops =
    let v = all_values task s fits in
    let lt = All-head (λ op. op < length task.operators) a p ops in
    by (applies task s v.0 a fits v.1 lt) (λ h. leads task s v.0 a fits state v.1 h lt)
    (λ next step. comes task p next fits (step_state task s a next fits state step)
    (All-tail (λ op. op < length task.operators) a p ops))
  where
    on : (next : List ℕ) → Step task s a next → Comes task next p → Comes task s (a ∷ p)
    on next step (inl (t, runs)) = inl (t, (next, step, runs))
    on next step (inr (i, t, lt, runs, stuck)) = inr (suc i, t, omega arith, (next, step, runs), stuck)

    by : Either (Applies task s a) → (Applies task s a → (t : List ℕ) × Step task s a t)
        → ((next : List ℕ) → Step task s a next → Comes task next p) → Comes task s (a ∷ p)
    by (inr n) go ih = inr (0, s, omega arith, refl, n)
    by (inl h) go ih = (let step = go h in on step.0 step.1 (ih step.0 step.1))

goal_holds : (task : TaskParts) (t : List ℕ) → Fits task → Either (All (Holds task t) task.goal)
goal_holds task t fits =
    let v = all_values task t fits in
    by v.0 v.1 (each (HasValue v.0) (has_value v.0) task.goal)
  where
    by : (values : List ℕ) → Valued task t values → Either (All (HasValue values) task.goal) → Either (All (Holds task t) task.goal)
    by values v (inl h) = inl (λ i d lt. (v.holds (get_or task.goal i d) (fits.goal.1 i d lt)).1 (h i d lt))
    by values v (inr n) = inr (λ h. n (λ i d lt. (v.holds (get_or task.goal i d) (fits.goal.1 i d lt)).0 (h i d lt)))

-- operators make a plan, or stop, or miss the goal
pub one_of_three : (task : TaskParts) (p : List ℕ) → Fits task → AreOperators task p → IsPlan task p ⊎ (((i : ℕ) × Stops task p i) ⊎ Misses task p)
one_of_three task p fits ops =
    let s = base_values task.variables task.initial in
    let initial = start_law task fits in
    by s initial (comes task p s fits initial.state ops)
  where
    at_end : (s t : List ℕ) → IsInitial task s → Runs task s p t → Either (All (Holds task t) task.goal)
        → IsPlan task p ⊎ (((i : ℕ) × Stops task p i) ⊎ Misses task p)
    at_end s t initial runs (inl h) = inl (s, t, initial, runs, h)
    at_end s t initial runs (inr n) = inr (inr (record { s = s; t = t; initial = initial; runs = runs; missed = n }))

    by : (s : List ℕ) → IsInitial task s → Comes task s p → IsPlan task p ⊎ (((i : ℕ) × Stops task p i) ⊎ Misses task p)
    by s initial (inl (t, runs)) = at_end s t initial runs (goal_holds task t fits)
    by s initial (inr (i, t, lt, runs, stuck)) =
        inr (inl (
          i,
          record {
            operators = ops;
            within = lt;
            s = s;
            t = t;
            initial = initial;
            runs =
                runs;
            stuck = stuck;
          },
        ))

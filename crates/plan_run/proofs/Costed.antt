-- What plans cost, one plan after the other.
use Rattle.std.proofs.Common.{◌≡◌, ◌∙◌, ap, sym, refl, subst, inl, inr, ℕ, zero, suc, ◌+◌, ◌-◌, ◌*◌, ◌^◌, ◌<◌, ◌≤◌, ◌⊎◌, min, max, List, [], ◌∷◌, ◌++◌, length, map, sum, All, None, arith}
use Rattle.std.proofs.lemmas.List.{length_push, map-append}
use Rattle.std.proofs.lemmas.List.Elements.{All-push, Contains-append_left, Contains-push}
use Rattle.std.proofs.lemmas.List.Sums.{fold-append}
use Rattle.symk_task.specs.declared.parts.Mode.TheVariants.{TopK}
use Rattle.symk_task.specs.declared.parts.TaskParts.{TaskParts}
use Rattle.symk_task.specs.Plans.{cost_of}
use Rattle.symk_task.specs.Fits.{Fits}
use Rattle.task_system.specs.Computed.{system_of}
use Rattle.lazy_plans.specs.Law.{Gave, NoneLeft, MayStop}
use Rattle.lazy_plans.specs.declared.stop.Stop.TheVariants.{CostRange}
use Rattle.plan_run.proofs.Given.{IsGiven, gave_listable, given_more, list_exhausted, list_in_range}
use Rattle.plan_run.specs.Costs.{IsLeast, IsGreatest, HasMorePlans}

-- the least and the greatest number, and for none the last u64 and 0
abbrev pub IsLeastOr : List ℕ → ℕ → Type 0
IsLeastOr numbers least = ((numbers ≡ []) × (least ≡ 2 ^ 64 - 1)) ⊎ IsLeast numbers least

abbrev pub IsGreatestOr : List ℕ → ℕ → Type 0
IsGreatestOr numbers greatest = ((numbers ≡ []) × (greatest ≡ 0)) ⊎ IsGreatest numbers greatest

-- So many plans that an engine gave cost this, and what pends is the rest.
pub record Costed (task : TaskParts) (pends : List ℕ → Type 0) (cheapest dearest total count : ℕ) : Type 0 where
  pub plans : List (List ℕ)
  pub given : IsGiven task TopK None pends plans
  pub number : length plans ≡ count
  pub least : IsLeastOr (map (cost_of task) plans) cheapest
  pub greatest : IsGreatestOr (map (cost_of task) plans) dearest
  pub all : total ≡ sum (map (cost_of task) plans)
  pub bound : total ≤ count * 2 ^ 64

le_or_lt : (a b : ℕ) → (a ≤ b) ⊎ (b < a)
le_or_lt zero b = inl (omega arith)
le_or_lt (suc a) zero = inr (omega arith)
le_or_lt (suc a) (suc b) = elim (le_or_lt a b) [ inl h ↦ inl (omega (arith, h)) | inr h ↦ inr (omega (arith, h)) ]

of_none : (P : ℕ → Type 0) (xs : List ℕ) → xs ≡ [] → All P xs
of_none P xs e = λ k d lt. let n : length xs ≡ 0 = ap length e in absurd (omega (arith, n, lt))

-- the first number is the least
first_least : (xs : List ℕ) (x least : ℕ) → xs ≡ [] → least ≡ 2 ^ 64 - 1 → x < 2 ^ 64 → IsLeast (xs ++ x ∷ []) (min least x)
first_least xs x least none e lt =
    let same : x ≡ min least x = omega (arith, lt, e) in
    subst (λ (m : ℕ). IsLeast (xs ++ x ∷ []) m) same (Contains-push xs x, All-push (λ n. x ≤ n) xs x (of_none (λ n. x ≤ n) xs none) (omega arith))

further_least : (xs : List ℕ) (x least : ℕ) → IsLeast xs least → (least ≤ x) ⊎ (x < least) → IsLeast (xs ++ x ∷ []) (min least x)
further_least xs x least h (inl le) =
    let same : least ≡ min least x = omega (arith, le) in
    subst (λ (m : ℕ). IsLeast (xs ++ x ∷ []) m) same (Contains-append_left xs (x ∷ []) least h.0, All-push (λ n. least ≤ n) xs x h.1 le)
further_least xs x least h (inr lt) =
    let same : x ≡ min least x = omega (arith, lt) in
    let others : All (λ n. x ≤ n) xs = λ k d within. omega (arith, h.1 k d within, lt) in
    subst (λ (m : ℕ). IsLeast (xs ++ x ∷ []) m) same (Contains-push xs x, All-push (λ n. x ≤ n) xs x others (omega arith))

least_push : (xs : List ℕ) (x least : ℕ) → x < 2 ^ 64 → IsLeastOr xs least → IsLeastOr (xs ++ x ∷ []) (min least x)
least_push xs x least lt (inl h) = inr (first_least xs x least h.0 h.1 lt)
least_push xs x least lt (inr h) = inr (further_least xs x least h (le_or_lt least x))

-- the first number is the greatest
first_greatest : (xs : List ℕ) (x greatest : ℕ) → xs ≡ [] → greatest ≡ 0 → IsGreatest (xs ++ x ∷ []) (max greatest x)
first_greatest xs x greatest none e =
    let same : x ≡ max greatest x = omega (arith, e) in
    subst (λ (m : ℕ). IsGreatest (xs ++ x ∷ []) m) same (Contains-push xs x, All-push (λ n. n ≤ x) xs x (of_none (λ n. n ≤ x) xs none) (omega arith))

further_greatest : (xs : List ℕ) (x greatest : ℕ) → IsGreatest xs greatest → (x ≤ greatest) ⊎ (greatest < x) → IsGreatest (xs ++ x ∷ []) (max greatest x)
further_greatest xs x greatest h (inl le) =
    let same : greatest ≡ max greatest x = omega (arith, le) in
    subst (λ (m : ℕ). IsGreatest (xs ++ x ∷ []) m) same (Contains-append_left xs (x ∷ []) greatest h.0, All-push (λ n. n ≤ greatest) xs x h.1 le)
further_greatest xs x greatest h (inr lt) =
    let same : x ≡ max greatest x = omega (arith, lt) in
    let others : All (λ n. n ≤ x) xs = λ k d within. omega (arith, h.1 k d within, lt) in
    subst (λ (m : ℕ). IsGreatest (xs ++ x ∷ []) m) same (Contains-push xs x, All-push (λ n. n ≤ x) xs x others (omega arith))

greatest_push : (xs : List ℕ) (x greatest : ℕ) → IsGreatestOr xs greatest → IsGreatestOr (xs ++ x ∷ []) (max greatest x)
greatest_push xs x greatest (inl h) = inr (first_greatest xs x greatest h.0 h.1)
greatest_push xs x greatest (inr h) = inr (further_greatest xs x greatest h (le_or_lt x greatest))

costs_push : (task : TaskParts) (plans : List (List ℕ)) (plan : List ℕ) → map (cost_of task) (plans ++ plan ∷ []) ≡ map (cost_of task) plans ++ cost_of task plan ∷ []
costs_push task plans plan = map-append (cost_of task) plans (plan ∷ [])

sum_push : (xs : List ℕ) (x : ℕ) → sum (xs ++ x ∷ []) ≡ sum xs + x
sum_push xs x = fold-append (λ a y. a + y) 0 xs (x ∷ [])

-- no plan yet
pub costed_none : (task : TaskParts) (pends : List ℕ → Type 0) → IsGiven task TopK None pends [] → Costed task pends (2 ^ 64 - 1) 0 0 0
costed_none task pends given = record { plans = []; given = given; number = refl; least = inl (refl, refl); greatest = inl (refl, refl); all = refl; bound = omega arith }

-- one plan more
pub costed_more : (task : TaskParts) (pends after : List ℕ → Type 0) (cheapest dearest total count : ℕ) (plan : List ℕ) → Fits task
    → Costed task pends cheapest dearest total count → Gave (system_of task) TopK None pends after plan
    → Costed task after (min cheapest (cost_of task plan)) (max dearest (cost_of task plan)) (total + cost_of task plan) (count + 1)
costed_more task pends after cheapest dearest total count plan fits c gave =
    let cost = cost_of task plan in
    let costs = map (cost_of task) c.plans in
    let more = sym (costs_push task c.plans plan) in
    let lt = (gave_listable task TopK None pends after c.plans plan (omega arith) c.given gave).cost in
    let bound = c.bound in
    record {
      plans = c.plans ++ plan ∷ [];
      given = given_more task TopK None pends after c.plans plan fits (omega arith) c.given gave;
      number = length_push c.plans plan ∙ ap (λ n. n + 1) c.number;
      least = subst (λ xs. IsLeastOr xs (min cheapest cost)) more (least_push costs cost cheapest lt c.least);
      greatest = subst (λ xs. IsGreatestOr xs (max dearest cost)) more (greatest_push costs cost dearest c.greatest);
      all = ap (λ n. n + cost) c.all ∙ sym (sum_push costs cost) ∙ ap sum more;
      bound = omega (arith, bound, lt);
    }

-- the same costs
pub costed_as : {task : TaskParts} {pends : List ℕ → Type 0} {cheapest dearest total cheapest' dearest' total' count : ℕ} → cheapest ≡ cheapest' → dearest ≡ dearest' → total ≡ total'
    → Costed task pends cheapest dearest total count → Costed task pends cheapest' dearest' total' count
costed_as {task = task} a b d c = record {
  plans = c.plans;
  given = c.given;
  number = c.number;
  least = subst (λ n. IsLeastOr (map (cost_of task) c.plans) n) a c.least;
  greatest = subst (λ n. IsGreatestOr (map (cost_of task) c.plans) n) b c.greatest;
  all = sym d ∙ c.all;
  bound = let le = c.bound in omega (arith, le, d);
}

-- fewer plans than the task has more of are not all
pub costed_not_all : (task : TaskParts) (pends : List ℕ → Type 0) (cheapest dearest total count : ℕ) → Fits task → Costed task pends cheapest dearest total count → count < 20
    → HasMorePlans task 20 → NoneLeft (system_of task) None pends → ⊥
costed_not_all task pends cheapest dearest total count fits c lt more none =
    let number = c.number in
    more c.plans (omega (arith, number, lt)) (λ p plan within. (list_exhausted task TopK None pends c.plans 0 fits c.given none).end.1 p plan)

-- nor all whose cost 64 bits hold
pub costed_not_in_range : (task : TaskParts) (pends : List ℕ → Type 0) (cheapest dearest total count : ℕ) → Fits task → Costed task pends cheapest dearest total count → count < 20
    → HasMorePlans task 20 → MayStop (system_of task) None pends CostRange → ⊥
costed_not_in_range task pends cheapest dearest total count fits c lt more stops =
    let number = c.number in
    more c.plans (omega (arith, number, lt)) (list_in_range task TopK None pends c.plans fits c.given stops).end.1

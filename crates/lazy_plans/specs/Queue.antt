-- What a queue of prefixes still owes.
use Rattle.std.specs.Prelude.{◌≡◌, ℕ, zero, suc, ◌+◌, ◌<◌, ◌≤◌, ◌==◌, Bool, true, false, ◌&&◌, cond, IsTrue, List, [], ◌∷◌, ◌++◌, Option}
use Rattle.std.specs.List.{AllByRecursion, sum_by}
use Rattle.symk_task.specs.Plans.{AllDifferent}
use Rattle.symk_task.specs.declared.parts.Mode.{Mode}
use Rattle.symk_task.specs.declared.parts.Mode.TheVariants.{TopK, Loopless, Unordered}
use Rattle.task_system.specs.System.{State, System, Listed, RunsInSystem, IsSystemPlan, IsSystemPlanOf, are_equal, same, trace, cost_in_system}
use Rattle.lazy_plans.specs.Told.{is_plan_in}
use Rattle.lazy_plans.specs.Law.{top}

-- whether the first list begins the second
abbrev pub prefix : List ℕ → List ℕ → Bool
prefix [] p = true
prefix (x ∷ e) [] = false
prefix (x ∷ e) (z ∷ p) = (x == z) && prefix e p

abbrev pub ind : Bool → ℕ
ind b = cond b 1 0

-- how many entries are a prefix of p
abbrev pub count : List (List ℕ) → List ℕ → ℕ
count [] p = 0
count (e ∷ es) p = ind (prefix e p) + count es p

-- two plans of the mode count as one only where they are the same list
abbrev pub IsByList : Mode → Type 0
IsByList m = (p q : List ℕ) → same m p q ≡ are_equal p q

-- a plan of the mode of which exactly one entry is a prefix
abbrev pub Pending : System → Mode → List (List ℕ) → List ℕ → Type 0
Pending y m es p = IsSystemPlanOf y m p × (count es p ≡ 1)

-- the same, computed
abbrev pub pending : System → Mode → List (List ℕ) → List ℕ → Bool
pending y m es p = is_plan_in y m p && (count es p == 1)

-- what the mode asks of a prefix: for loopless plans, that it passes no state twice
abbrev pub IsAllowed : System → Mode → List ℕ → Type 0
IsAllowed y TopK e = Unit {0}
IsAllowed y Unordered e = Unit {0}
IsAllowed y Loopless e = AllDifferent (trace y y.initial e)

-- the prefix runs, is as the mode asks, and each state is one of the system's
pub record Good (y : System) (m : Mode) (e : List ℕ) : Type 0 where
  pub end : State
  pub runs : RunsInSystem y y.initial e end
  pub allowed : IsAllowed y m e
  pub listed : AllByRecursion (Listed y.states) (trace y y.initial e)

-- no plan that goes on from the prefix costs less
abbrev pub Bounds : System → List ℕ → ℕ → Type 0
Bounds y e b = (p : List ℕ) → IsSystemPlan y p → IsTrue (prefix e p) → b ≤ cost_in_system y p

-- no plan of the mode goes on from the prefix
abbrev pub Hopeless : System → Mode → List ℕ → Type 0
Hopeless y m e = (p : List ℕ) → IsSystemPlanOf y m p → ind (prefix e p) ≡ 0

abbrev pub sum_ops : ℕ → (ℕ → ℕ) → ℕ
sum_ops zero f = 0
sum_ops (suc n) f = sum_ops n f + f n

-- e is taken out of the old entries and its children are put in, in whatever order the new ones stand
abbrev pub Replaced : {X : Type 0} → List X → List X → X → List X → Type 0
Replaced {X} old kids e new = (f : X → ℕ) → sum_by f old + sum_by f kids ≡ f e + sum_by f new

-- the children of e are counted as its extensions by the operators below n are
abbrev pub ChildrenBelow : System → Mode → List ℕ → ℕ → List (List ℕ) → Type 0
ChildrenBelow y m e n kids = (p : List ℕ) → IsSystemPlanOf y m p → count kids p ≡ sum_ops n (λ op. ind (prefix (e ++ op ∷ []) p))

-- the same by all operators
abbrev pub Children : System → Mode → List ℕ → List (List ℕ) → Type 0
Children y m e kids = ChildrenBelow y m e y.operators kids

-- what holds of the queue between two turns
pub record Right (y : System) (m : Mode) (most : Option ℕ) (es : List (List ℕ)) : Type 0 where
  pub once : (p : List ℕ) → IsSystemPlanOf y m p → count es p ≤ 1
  pub dear : (p : List ℕ) → IsSystemPlanOf y m p → top most < cost_in_system y p → count es p ≡ 1

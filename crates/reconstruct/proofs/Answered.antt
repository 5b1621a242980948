-- The answers of a search from both ends, in the words of going on.
use Rattle.std.proofs.Common.{ℕ, ◌+◌, ◌<◌, ◌≤◌, ◌^◌, ◌⊎◌, inl, inr, List, Option, Some, None, Result, Ok, Err, IfOk, refl, arith}
use Rattle.task_system.specs.System.{System, IsSystemPlan, cost_in_system}
use Rattle.cost_layers.specs.Layers.{known_of}
use Rattle.cost_layers.specs.declared.layers.Layers.{Layers}
use Rattle.plan_cuts.specs.Cuts.{HasPlanAt}
use Rattle.lazy_plans.specs.Law.{top}
use Rattle.bidirectional.specs.Sides.{NoPlanIn}
use Rattle.bidirectional.specs.Both.{first_cost, IsNextPlanCost}
use Rattle.bidirectional.specs.declared.search.Next.{Next}
use Rattle.bidirectional.specs.declared.search.Next.TheVariants.{Plans, Beyond, Never}
use Rattle.plan_cuts.specs.Drawing.{Above}
use Rattle.reconstruct.specs.Sides.{IsNextCost, AdvancesCost}

-- plans above a cost
from_first : (y : System) (above : Option ℕ) (p : List ℕ) → IsSystemPlan y p → first_cost above ≤ cost_in_system y p → Above y above p
from_first y None p plan le = plan
from_first y (Some c) p plan le = (plan, omega (arith, le))

to_first : (y : System) (above : Option ℕ) (p : List ℕ) → Above y above p → IsSystemPlan y p × (first_cost above ≤ cost_in_system y p)
to_first y None p h = (h, omega arith)
to_first y (Some c) p h = (h.0, omega (arith, h.1))

below_or : (a c : ℕ) → (a < c) ⊎ (c ≤ a)
below_or a c = grind arith

none_below : (y : System) (above : Option ℕ) (high : ℕ) → NoPlanIn y (first_cost above) high → (p : List ℕ) → Above y above p → high ≤ cost_in_system y p
none_below y above high none p h =
    let k = to_first y above p h in
    elim (below_or (cost_in_system y p) high) [ inl lt ↦ absurd (none (cost_in_system y p) k.1 lt (p, (k.0, refl))) | inr le ↦ le ]

pub plans_next : {Set : Type 0} (y : System) (above most : Option ℕ) (front back : Layers Set) (c : ℕ)
    → first_cost above ≤ c → c ≤ top most → c < known_of front + known_of back → HasPlanAt y c
    → NoPlanIn y (first_cost above) c → IsNextCost y above most front back c
plans_next y above most front back c low wanted settled plan none = record {
  settled = settled;
  wanted = wanted;
  plan = (plan.0, from_first y above plan.0 plan.1.0 (omega (arith, low, plan.1.1)), plan.1.1);
  least = none_below y above c none;
}

-- what going on answers where every plan is wanted
pub next_advances : {Set : Type 0} (y : System) (above : Option ℕ) (front back : Layers Set)
    → first_cost above ≤ 2 ^ 64 → (r : Next) → IsNextPlanCost y above (known_of front + known_of back) r
    → AdvancesCost y above None front back r
next_advances y above front back range (Plans c) n = plans_next y above None front back c n.0 (omega (arith, n.1)) n.2 n.3 n.4
next_advances y above front back range Beyond n = (
  (n.1.0, from_first y above n.1.0 n.1.1 (omega (arith, range, n.1.2))),
  (λ q h. let far = none_below y above (2 ^ 64) n.0 q h in omega (arith, far)),
)
next_advances y above front back range Never n = λ q h. let k = to_first y above q h in let lt = n q k.0 in omega (arith, k.1, lt)

pub ok_advances : {Set : Type 0} {E : Type 0} (y : System) (above : Option ℕ) (front back : Layers Set)
    → first_cost above ≤ 2 ^ 64 → (r : Result Next E) → IfOk r (IsNextPlanCost y above (known_of front + known_of back))
    → IfOk r (AdvancesCost y above None front back)
ok_advances y above front back range (Ok r) h = next_advances y above front back range r h
ok_advances y above front back range (Err e) h = tt

-- nothing above is wanted
pub past_advances : {Set : Type 0} (y : System) (above : Option ℕ) (most : ℕ) (front back : Layers Set)
    → NoPlanIn y (first_cost above) (most + 1) → AdvancesCost y above (Some most) front back Never
past_advances y above most front back none = λ q h. let far = none_below y above (most + 1) none q h in omega (arith, far)

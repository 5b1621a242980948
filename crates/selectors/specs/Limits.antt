-- What one call of `next` of `Limited` does.
use Rattle.std.specs.Prelude.{◌≡◌, ℕ, ◌+◌, ◌-◌, ◌↔◌, Bool, ◌||◌, ◌==◌, if◌then◌else◌, IsTrue, IsFalse, List, Option, Some, None, Result, Ok, Err}
use Rattle.task_system.specs.System.{System}
use Rattle.symk_task.specs.declared.parts.Mode.{Mode}
use Rattle.lazy_plans.specs.Law.{Last}
use Rattle.lazy_plans.specs.Asked.{Asked}
use Rattle.lazy_plans.specs.declared.stop.Stop.{Stop}

-- The engine, how many plans are wanted and how many were given, and whether the engine gave its last answer.
pub record Limit (I : Type 0) : Type 0 where
  pub inner : I
  pub k : ℕ
  pub listed : ℕ
  pub ended : Bool

-- what the engine answers where this item is given
abbrev pub answer_of : Option (Result (List ℕ) Stop) → Result (Option (List ℕ)) Stop
answer_of None = Ok None
answer_of (Some (Ok p)) = Ok (Some p)
answer_of (Some (Err stop)) = Err stop

-- an item with a plan counts
abbrev pub plans_in : Option (Result (List ℕ) Stop) → ℕ
plans_in (Some (Ok p)) = 1
plans_in (Some (Err stop)) = 0
plans_in None = 0

-- k plans were given, or there is no more
abbrev pub is_done : {I : Type 0} → Limit I → Bool
is_done x = x.ended || (x.listed == x.k)

-- at most so many items come
abbrev pub items_left : {I : Type 0} → Limit I → ℕ
items_left x = if x.ended then 0 else (x.k - x.listed)

module _ {I : Type 0} (system : I → System) (mode : I → Mode) (most : I → Option ℕ) (pends : I → List ℕ → Type 0) (lawful : I → Type 0) (last : I → Last) where
  -- Once done it gives nothing and asks nothing; else it asks once and gives the answer.
  pub record LimitedGives (x : Limit I) (item : Option (Result (List ℕ) Stop)) (z : Limit I) : Type 0 where
    pub k : z.k ≡ x.k
    pub done : IsTrue (is_done x) → (item ≡ None) × (z ≡ x)
    pub asked : IsFalse (is_done x) → Asked system mode most pends lawful last x.inner z.inner (answer_of item)
    pub listed : z.listed ≡ x.listed + plans_in item
    pub ended : IsFalse (is_done x) → (IsTrue z.ended ↔ (plans_in item ≡ 0))

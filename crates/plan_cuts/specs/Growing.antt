-- How the children of an entry are gathered, operator by operator.
use Rattle.std.specs.Prelude.{◌≡◌, ℕ, ◌+◌, ◌-◌, ◌<◌, ◌≤◌, ◌⊎◌, Bool, true, List, [], ◌∷◌, ◌++◌, length}
use Rattle.std.specs.List.{All, AllByRecursion, Contains}
use Rattle.std.specs.List.Sorted.{IsStrictlyIncreasing}
use Rattle.task_system.specs.System.{State, System, RunsInSystem}
use Rattle.plan_cuts.specs.Counts.{sum_over_operators}
use Rattle.plan_cuts.specs.Entries.{PlainEntry, Head, Tail, FwdIn, BwdIn, into, onto, total, child_hits, IsChild, height, entry_weight}

-- a child that the walk can go to by operator k
abbrev pub Fallable : System → (ℕ → State → Bool) → (ℕ → State → Bool) → PlainEntry → ℕ → Type 0
Fallable y front back (Head has cost ring ops after) k = (n : ℕ) × (t : State) × (into y front has cost k t ≡ true) × FwdIn y (cost - y.cost k) n t × ((0 < y.cost k) ⊎ ((y.cost k ≡ 0) × (n + 1 ≡ ring)))
Fallable y front back (Tail cost ring ops) k = (n : ℕ) × (t : State) × (onto y back cost ops k ≡ true)
    × RunsInSystem y y.initial (ops ++ k ∷ []) t × BwdIn y (cost - y.cost k) n t
    × ((0 < y.cost k) ⊎ ((y.cost k ≡ 0) × (n + 1 ≡ ring)))

-- there is no child by operator k
abbrev pub NoChild : System → (ℕ → State → Bool) → (ℕ → State → Bool) → PlainEntry → ℕ → Type 0
NoChild y front back e k = ((p : List ℕ) → child_hits y front back e p k ≡ 0) × ¬ Fallable y front back e k

abbrev pub SomeChild : System → (ℕ → State → Bool) → (ℕ → State → Bool) → PlainEntry → PlainEntry → Type 0
SomeChild y front back e c = (k : ℕ) × IsChild y front back e k c

abbrev pub Falling : System → (ℕ → State → Bool) → (ℕ → State → Bool) → PlainEntry → PlainEntry → Type 0
Falling y front back e c = SomeChild y front back e c × (height c < height e) × (entry_weight c ≡ entry_weight e + 1)

-- the child by operator k was added, if there is one
pub record Added (y : System) (front back : ℕ → State → Bool) (e : PlainEntry) (k : ℕ) (level falling level2 falling2 : List PlainEntry) : Type 0 where
  pub counts : (p : List ℕ) → total y level2 p + total y falling2 p ≡ total y level p + total y falling p + child_hits y front back e p k
  pub each : AllByRecursion (SomeChild y front back e) level → AllByRecursion (SomeChild y front back e) level2
  pub each_falls : AllByRecursion (Falling y front back e) falling → AllByRecursion (Falling y front back e) falling2
  pub more : length falling ≤ length falling2
  pub falls : Fallable y front back e k → 0 < length falling2

-- the sum over the operators of a list
abbrev pub sum_list : List ℕ → (ℕ → ℕ) → ℕ
sum_list [] f = 0
sum_list (k ∷ ks) f = f k + sum_list ks f

-- k stands in the list
abbrev pub IsIn : List ℕ → ℕ → Type 0
IsIn [] k = ⊥
IsIn (i ∷ is) k = (i ≡ k) ⊎ IsIn is k

-- the list rises, and there is no child by an operator that it misses
pub record MissesNone (y : System) (front back : ℕ → State → Bool) (e : PlainEntry) (ops : List ℕ) : Type 0 where
  pub rising : IsStrictlyIncreasing ops
  pub range : All (λ k. k < y.operators) ops
  pub others : (k : ℕ) → k < y.operators → ¬ Contains ops k → NoChild y front back e k

-- the children by the operators of the list
pub record Sofar (y : System) (front back : ℕ → State → Bool) (e : PlainEntry) (done : List ℕ) (level falling : List PlainEntry) : Type 0 where
  pub counts : (p : List ℕ) → total y level p + total y falling p ≡ sum_list done (child_hits y front back e p)
  pub each : AllByRecursion (SomeChild y front back e) level
  pub each_falls : AllByRecursion (Falling y front back e) falling
  pub falls : (k : ℕ) → IsIn done k → Fallable y front back e k → 0 < length falling

-- the children by all operators
pub record Gathered (y : System) (front back : ℕ → State → Bool) (e : PlainEntry) (level falling : List PlainEntry) : Type 0 where
  pub counts : (p : List ℕ) → total y level p + total y falling p ≡ sum_over_operators y.operators (child_hits y front back e p)
  pub each : AllByRecursion (SomeChild y front back e) level
  pub each_falls : AllByRecursion (Falling y front back e) falling
  pub falls : (k : ℕ) → k < y.operators → Fallable y front back e k → 0 < length falling

-- What a selector still owes.
use Rattle.std.specs.Prelude.{◌≡◌, ℕ, ◌≤◌, ◌⊎◌, Bool, false, not, ◌&&◌, ◌||◌, List, length, Option, Some, None, All, Any}
use Rattle.std.specs.Option.{option_map_or}
use Rattle.std.specs.List.{list_any}
use Rattle.std.specs.List.Sorted.{IsPermutation, IsNonDecreasing}
use Rattle.symk_task.specs.declared.parts.Mode.{Mode}
use Rattle.symk_task.specs.declared.parts.Mode.TheVariants.{TopK, Loopless, Unordered}
use Rattle.symk_task.specs.Plans.{IsListed}
use Rattle.task_system.specs.System.{System, IsSystemPlan, cost_in_system, same, are_equal}
use Rattle.lazy_plans.specs.Law.{Last, Ended, top}

-- what plans of a mode are told apart by: the list itself, or the list in rising order
abbrev pub IsClassKey : Mode → List ℕ → List ℕ → Type 0
IsClassKey TopK p key = p ≡ key
IsClassKey Loopless p key = p ≡ key
IsClassKey Unordered p key = IsPermutation p key × IsNonDecreasing key

-- Keys of lists of operators, none of which costs more than is wanted.
pub record AreKeys (system : System) (mode : Mode) (most : Option ℕ) (keys : List (List ℕ)) : Type 0 where
  pub each : All (λ key. (p : List ℕ) × IsClassKey mode p key) keys
  pub cheap : All (λ key. cost_in_system system key ≤ top most) keys

-- The keys of the plans of a list.
pub record AreKeysOf (mode : Mode) (plans keys : List (List ℕ)) : Type 0 where
  pub from : All (λ key. Any (λ p. IsClassKey mode p key) plans) keys
  pub all : All (IsListed mode keys) plans

-- it pends in the engine below, and counts as one with no key
abbrev pub Unlisted : Mode → List (List ℕ) → (List ℕ → Type 0) → List ℕ → Type 0
Unlisted mode keys below p = ¬ IsListed mode keys p × below p

-- it pends in the engine below, or was taken from it and is held
abbrev pub OrHeld : (List ℕ → Type 0) → Option (List ℕ) → List ℕ → Type 0
OrHeld below held p = below p ⊎ (held ≡ Some p)

-- what pends where rearrangements count as one
abbrev pub Owes : (List ℕ → Type 0) → List (List ℕ) → Option (List ℕ) → List ℕ → Type 0
Owes below keys held = Unlisted Unordered keys (OrHeld below held)

-- The same, computed.

abbrev pub is_unlisted : Mode → List (List ℕ) → (List ℕ → Bool) → List ℕ → Bool
is_unlisted mode keys below p = not (list_any (same mode p) keys) && below p

abbrev pub is_held : Option (List ℕ) → List ℕ → Bool
is_held held p = option_map_or (are_equal p) held false

abbrev pub owes : (List ℕ → Bool) → List (List ℕ) → Option (List ℕ) → List ℕ → Bool
owes below keys held = is_unlisted Unordered keys (λ p. below p || is_held held p)

-- What every value meets between two calls.

-- a plan is held only once a call has stopped
pub record HoldsPlan (system : System) (held : Option (List ℕ)) (last : Last) : Type 0 where
  pub plan : (p : List ℕ) → held ≡ Some p → IsSystemPlan system p
  pub none : last ≡ None → held ≡ None

-- where rearrangements count as one
pub record Standing (ok : Type 0) (mode : Mode) (system : System) (most : Option ℕ) (below : List ℕ → Type 0) (keys : List (List ℕ)) (held : Option (List ℕ)) (last : Last) : Type 0 where
  pub lawful : ok
  pub topk : mode ≡ TopK
  pub keyed : AreKeys system Unordered most keys
  pub holds : HoldsPlan system held last
  pub ended : Ended system most (Owes below keys held) last

-- after an earlier list, with room for so many operators
pub record Following (ok : Type 0) (mode below : Mode) (system : System) (most : Option ℕ) (keys : List (List ℕ)) (room : ℕ) : Type 0 where
  pub lawful : ok
  pub same_mode : mode ≡ below
  pub keyed : AreKeys system mode most keys
  pub short : All (λ key. length key ≤ room) keys

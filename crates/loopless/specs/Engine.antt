-- An engine as its callers see it.
use Rattle.std.specs.Prelude.{◌≡◌, ℕ, Bool, IsFalse, List, Option, Result}
use Rattle.task_system.specs.System.{State, System, IsSystemPlanOf}
use Rattle.symk_task.specs.declared.parts.Mode.TheVariants.{Loopless}
use Rattle.run_graph.specs.Reached.{Useful}
use Rattle.space_api.specs.View.{View, Valid, Has}
use Rattle.lazy_plans.specs.Law.{Last}
use Rattle.lazy_plans.specs.declared.stop.Stop.{Stop}
use Rattle.loopless.specs.declared.engine.LooplessPlans.{LooplessPlans}
use Rattle.loopless.specs.Front.{prefixes_of}
use Rattle.loopless.specs.Standing.{IsBeneathBackward}
use Rattle.lazy_plans.specs.Shell.{shell_most, shell_held, shell_ended, ShellAnswers}
use Rattle.lazy_plans.specs.Queue.{Pending}
use Rattle.lazy_plans.specs.PrefixesOwe.{OwesByPrefix, tells_owed}
use Rattle.loopless.specs.Sound.{IsTidyLooplessSpace, IsLooplessSound}

abbrev pub loopless_system : {S Set : Type 0} → (S → View Set) → LooplessPlans S Set → System
loopless_system view x = (view x.space).system

-- the greatest cost that is wanted, or none
abbrev pub loopless_most : {S Set : Type 0} → LooplessPlans S Set → Option ℕ
loopless_most x = shell_most x.shell

-- the answer that ended it, which every later call repeats; none, while it goes on
abbrev pub loopless_ended : {S Set : Type 0} → LooplessPlans S Set → Last
loopless_ended x = shell_ended x.shell

-- what its queue owes
abbrev pub QueuesLoopless : {S Set : Type 0} → (S → View Set) → LooplessPlans S Set → List ℕ → Type 0
QueuesLoopless view x = Pending (view x.space).system Loopless (prefixes_of x.front)

-- what is still owed, and the same computed
abbrev pub PendsLoopless : {S Set : Type 0} → (S → View Set) → LooplessPlans S Set → List ℕ → Type 0
PendsLoopless view x p = OwesByPrefix (view x.space).system Loopless (prefixes_of x.front) (shell_held x.shell) p

abbrev pub loopless_tells : {S Set : Type 0} → (S → View Set) → LooplessPlans S Set → List ℕ → Bool
loopless_tells view x p = tells_owed (view x.space).system Loopless (prefixes_of x.front) (shell_held x.shell) p

-- what it meets between two calls
abbrev pub IsLooplessEngine : {S Set : Type 0} → (S → View Set) → LooplessPlans S Set → Type 0
IsLooplessEngine view x = IsLooplessSound (view x.space) x.backward x.front x.shell

-- every valid set is one of the search back, or the one that it is kept to
abbrev pub KeepsAllLoopless : {S Set : Type 0} → (S → View Set) → LooplessPlans S Set → Type 0
KeepsAllLoopless {S} {Set} view x = (a : Set) → Valid (view x.space) a → IsBeneathBackward x.backward a

-- no more is held than twice what was needed last, and 1,000
abbrev pub HasLooplessRoom : {S Set : Type 0} → (S → View Set) → LooplessPlans S Set → Type 0
HasLooplessRoom view x = IsTidyLooplessSpace (view x.space)

-- one call of it
pub record AnswersLoopless {S Set : Type 0} (view : S → View Set) (x z : LooplessPlans S Set)
    (result : Result (Option (List ℕ)) Stop) : Type 0 where
  pub engine : IsLooplessEngine view z
  pub system : loopless_system view z ≡ loopless_system view x
  pub most : loopless_most z ≡ loopless_most x
  pub shell : ShellAnswers (loopless_system view x) Loopless (QueuesLoopless view x) (QueuesLoopless view z)
      (HasLooplessRoom view z) x.shell z.shell result

-- no set is valid
abbrev pub HasNone : {Set : Type 0} → View Set → Type 0
HasNone {Set} v = (a : Set) → IsFalse (v.valid a)

-- the set alone is valid
abbrev pub HasAlone : {Set : Type 0} → View Set → Set → Type 0
HasAlone {Set} v within = (a : Set) → Valid v a → a ≡ within

-- the set has each useful state
abbrev pub HasEachUseful : {Set : Type 0} → View Set → Set → Type 0
HasEachUseful v within = (s : State) → Useful v.system s → Has v within s

-- each loopless plan of the system pends
abbrev pub OwesAll : {S Set : Type 0} → (S → View Set) → System → LooplessPlans S Set → Type 0
OwesAll view y x = (p : List ℕ) → IsSystemPlanOf y Loopless p → PendsLoopless view x p

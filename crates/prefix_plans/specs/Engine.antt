-- An engine as its callers see it.
use Rattle.std.specs.Prelude.{◌≡◌, ℕ, Bool, List, Option, Result}
use Rattle.task_system.specs.System.{System, IsSystemPlanOf}
use Rattle.symk_task.specs.declared.parts.Mode.TheVariants.{TopK}
use Rattle.space_api.specs.View.{View, Valid}
use Rattle.lazy_plans.specs.Law.{Last}
use Rattle.lazy_plans.specs.declared.stop.Stop.{Stop}
use Rattle.prefix_plans.specs.declared.engine.PrefixPlans.{PrefixPlans}
use Rattle.prefix_plans.specs.Owned.{IsTidyEndSpace}
use Rattle.prefix_plans.specs.EndStanding.{IsBeneathToGo}
use Rattle.lazy_plans.specs.Shell.{shell_most, shell_held, shell_ended, ShellAnswers}
use Rattle.lazy_plans.specs.Queue.{Pending}
use Rattle.lazy_plans.specs.PrefixesOwe.{OwesByPrefix, tells_owed}
use Rattle.prefix_plans.specs.Standing.{waiting_prefixes}
use Rattle.prefix_plans.specs.Sound.{IsPrefixSound}

abbrev pub prefix_system : {S Set : Type 0} → (S → View Set) → PrefixPlans S Set → System
prefix_system view x = (view x.space).system

-- the greatest cost that is wanted, or none
abbrev pub prefix_most : {S Set : Type 0} → PrefixPlans S Set → Option ℕ
prefix_most x = shell_most x.shell

-- the answer that ended it, which every later call repeats; none, while it goes on
abbrev pub prefix_ended : {S Set : Type 0} → PrefixPlans S Set → Last
prefix_ended x = shell_ended x.shell

-- what its queue owes
abbrev pub QueuesPrefix : {S Set : Type 0} → (S → View Set) → PrefixPlans S Set → List ℕ → Type 0
QueuesPrefix view x = Pending (view x.space).system TopK (waiting_prefixes x.front)

-- what is still owed, and the same computed
abbrev pub PendsPrefix : {S Set : Type 0} → (S → View Set) → PrefixPlans S Set → List ℕ → Type 0
PendsPrefix view x p = OwesByPrefix (view x.space).system TopK (waiting_prefixes x.front) (shell_held x.shell) p

abbrev pub prefix_tells : {S Set : Type 0} → (S → View Set) → PrefixPlans S Set → List ℕ → Bool
prefix_tells view x p = tells_owed (view x.space).system TopK (waiting_prefixes x.front) (shell_held x.shell) p

-- what it meets between two calls
abbrev pub IsPrefixEngine : {S Set : Type 0} → (S → View Set) → PrefixPlans S Set → Type 0
IsPrefixEngine view x = IsPrefixSound (view x.space) x.search x.within x.front x.shell

-- every valid set is one of the search, or the one that it is kept to
abbrev pub KeepsAllPrefix : {S Set : Type 0} → (S → View Set) → PrefixPlans S Set → Type 0
KeepsAllPrefix {S} {Set} view x = (a : Set) → Valid (view x.space) a → IsBeneathToGo x.search a

-- no more is held than twice what was needed last, and 1,000
abbrev pub HasPrefixRoom : {S Set : Type 0} → (S → View Set) → PrefixPlans S Set → Type 0
HasPrefixRoom view x = IsTidyEndSpace (view x.space)

-- one call of it
pub record AnswersByPrefix {S Set : Type 0} (view : S → View Set) (x z : PrefixPlans S Set)
    (result : Result (Option (List ℕ)) Stop) : Type 0 where
  pub engine : IsPrefixEngine view z
  pub system : prefix_system view z ≡ prefix_system view x
  pub most : prefix_most z ≡ prefix_most x
  pub shell : ShellAnswers (prefix_system view x) TopK (QueuesPrefix view x) (QueuesPrefix view z) (HasPrefixRoom view z)
      x.shell z.shell result

-- each plan of the system pends
abbrev pub OwesAllPrefix : {S Set : Type 0} → (S → View Set) → System → PrefixPlans S Set → Type 0
OwesAllPrefix view y x = (p : List ℕ) → IsSystemPlanOf y TopK p → PendsPrefix view x p

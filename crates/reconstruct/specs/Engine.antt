-- An engine as its callers see it.
use Rattle.std.specs.Prelude.{◌≡◌, ◌↔◌, ℕ, Bool, ◌||◌, IsFalse, List, Option, Some, None, Result}
use Rattle.task_system.specs.System.{State, System, IsSystemPlan}
use Rattle.run_graph.specs.Reached.{Useful}
use Rattle.space_api.specs.View.{View, Valid, Has}
use Rattle.lazy_plans.specs.Law.{Last}
use Rattle.lazy_plans.specs.Shell.{OwesHeld, tells_held, shell_most, shell_held, shell_ended}
use Rattle.lazy_plans.specs.declared.stop.Stop.{Stop}
use Rattle.bidirectional.specs.Both.{front_layers, back_layers}
use Rattle.reconstruct.specs.declared.engine.TopPlans.{TopPlans}
use Rattle.reconstruct.specs.Working.{OwedBy}
use Rattle.reconstruct.specs.Pending.{cut_tells_owed, IsTidyCutSpace, IsKeptByCuts, IsSound, AnsweredByCuts}

abbrev pub cut_system : {S P Set : Type 0} → (S → View Set) → TopPlans S P Set → System
cut_system view x = (view x.space).system

-- the greatest cost that is wanted, or none
abbrev pub most_of : {S P Set : Type 0} → TopPlans S P Set → Option ℕ
most_of x = shell_most x.shell

-- the answer that ended it
abbrev pub ended_by : {S P Set : Type 0} → TopPlans S P Set → Last
ended_by x = shell_ended x.shell

-- what is still owed, with the plan that is held, and the same computed
abbrev pub Pends : {S P Set : Type 0} → (S → View Set) → TopPlans S P Set → List ℕ → Type 0
Pends view x = OwesHeld (OwedBy (view x.space) x.both x.agenda) (shell_held x.shell)

abbrev pub tells : {S P Set : Type 0} → (S → View Set) → TopPlans S P Set → List ℕ → Bool
tells view x p = cut_tells_owed (view x.space) (front_layers x.both) (back_layers x.both) x.agenda.listed x.agenda.queue p
    || tells_held (shell_held x.shell) p

-- what it meets between two calls
abbrev pub IsCutEngine : {S P Set : Type 0} → (S → View Set) → TopPlans S P Set → Type 0
IsCutEngine view x = IsSound (view x.space) x.both x.within x.agenda x.shell

-- every valid set stands in a ring or layer, has all states or the useful ones, is an entry's, or was handed over
abbrev pub KeepsAll : {S P Set : Type 0} → (S → View Set) → TopPlans S P Set → Type 0
KeepsAll {S} {P} {Set} view x = (a : Set) → Valid (view x.space) a → IsKeptByCuts x.both x.within x.agenda.queue a

-- no more is held than twice what was needed last, and 1,000
abbrev pub HasCutRoom : {S P Set : Type 0} → (S → View Set) → TopPlans S P Set → Type 0
HasCutRoom view x = IsTidyCutSpace (view x.space)

-- one call of it
abbrev pub AnswersByCuts : {S P Set : Type 0} → (S → View Set) → TopPlans S P Set → TopPlans S P Set → Result (Option (List ℕ)) Stop → Type 0
AnswersByCuts view x z result = AnsweredByCuts (view x.space) (view z.space) x.both z.both z.within x.agenda z.agenda x.shell z.shell
    result

-- no set is valid, or the set alone that has every useful state
abbrev pub IsReadyFor : {Set : Type 0} → View Set → Option Set → Type 0
IsReadyFor {Set} v None = (a : Set) → IsFalse (v.valid a)
IsReadyFor {Set} v (Some within) = Valid v within × ((a : Set) → Valid v a → a ≡ within) × ((s : State) → Useful v.system s → Has v within s)

-- a new engine: every plan pends, and it has answered nothing yet
pub record IsNewCutEngine {S P Set : Type 0} (view : S → View Set) (v : View Set) (most : Option ℕ) (x : TopPlans S P Set) : Type 0 where
  pub lawful : IsCutEngine view x
  pub system : cut_system view x ≡ v.system
  pub most_is : most_of x ≡ most
  pub all : (p : List ℕ) → Pends view x p ↔ IsSystemPlan v.system p
  pub goes_on : ended_by x ≡ None

-- What is owed, computed, and what every engine meets between two calls.
use Rattle.std.specs.Prelude.{◌≡◌, ℕ, ◌+◌, ◌*◌, ◌≤◌, ◌⊎◌, Bool, ◌&&◌, ◌||◌, eqb, ltb, List, Option, Some, None, Result}
use Rattle.task_system.specs.System.{cost_in_system}
use Rattle.symk_task.specs.declared.parts.Mode.TheVariants.{TopK}
use Rattle.space_api.specs.View.{View, Valid}
use Rattle.cost_layers.specs.Layers.{known_of}
use Rattle.cost_layers.specs.declared.layers.Layers.{Layers}
use Rattle.lazy_plans.specs.Told.{is_plan_in}
use Rattle.lazy_plans.specs.Shell.{shell_most, IsShellSound, ShellAnswers}
use Rattle.lazy_plans.specs.declared.shell.Shell.{Shell}
use Rattle.lazy_plans.specs.declared.stop.Stop.{Stop}
use Rattle.plan_cuts.specs.Entries.{places}
use Rattle.plan_cuts.specs.Drawing.{undrawn}
use Rattle.reconstruct.specs.Entries.{plains, member_in}
use Rattle.reconstruct.specs.declared.entries.Entry.{Entry}
use Rattle.bidirectional.specs.Both.{IsOwnOf}
use Rattle.bidirectional.specs.declared.search.Both.{Both}
use Rattle.reconstruct.specs.declared.drawing.Place.{Place}
use Rattle.reconstruct.specs.declared.next_plan.Agenda.{Agenda}
use Rattle.reconstruct.specs.Working.{IsWorking, InWantedRange, OwedBy, Keeping}

-- what is owed, computed
abbrev pub cut_tells_owed : {Set : Type 0} → View Set → Layers Set → Layers Set → Option Place → List (Entry Set) → List ℕ → Bool
cut_tells_owed v front back None queue p = is_plan_in v.system TopK p
cut_tells_owed v front back (Some place) queue p = is_plan_in v.system TopK p &&
    (ltb place.cost (cost_in_system v.system p) || (eqb (cost_in_system v.system p) place.cost && eqb
    (places v.system (known_of back) (plains v (member_in v front) queue) (undrawn place.left place.after) p) 1))

-- no more is held than twice what was needed last, and 1,000
abbrev pub IsTidyCutSpace : {Set : Type 0} → View Set → Type 0
IsTidyCutSpace v = v.held ≤ 2 * v.last + 1000

-- the search made and keeps the set, or an entry of the queue has it, or it was handed over
abbrev pub IsKeptByCuts : {Set P : Type 0} → Both Set P → Option Set → List (Entry Set) → Set → Type 0
IsKeptByCuts both within queue a = Keeping (IsOwnOf both) queue a ⊎ (within ≡ Some a)

-- the search and the agenda stand, of a cost that is wanted, and no set is valid but those that are kept
pub record IsCutEngineReady {Set P : Type 0} (v : View Set) (both : Both Set P) (most : Option ℕ) (within : Option Set) (agenda : Agenda Set) : Type 0 where
  pub working : IsWorking v both agenda
  pub range : InWantedRange most agenda.listed
  pub keeps : (a : Set) → Valid v a → IsKeptByCuts both within agenda.queue a

-- what every engine meets between two calls: it is ready, and its shell is sound
pub record IsSound {Set P : Type 0} (v : View Set) (both : Both Set P) (within : Option Set) (agenda : Agenda Set) (x : Shell) : Type 0 where
  pub ready : IsCutEngineReady v both (shell_most x) within agenda
  pub shell : IsShellSound v.system TopK (OwedBy v both agenda) (IsTidyCutSpace v) x

-- what one call gives: a sound engine of the same system, and what its shell answers
pub record AnsweredByCuts {Set P : Type 0} (v w : View Set) (both both2 : Both Set P) (within : Option Set) (old new : Agenda Set)
    (x z : Shell) (result : Result (Option (List ℕ)) Stop) : Type 0 where
  pub engine : IsSound w both2 within new z
  pub system : w.system ≡ v.system
  pub shell : ShellAnswers v.system TopK (OwedBy v both old) (OwedBy w both2 new) (IsTidyCutSpace w) x z result

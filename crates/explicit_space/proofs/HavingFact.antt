-- The members in which the fact of a base variable holds.
use Rattle.std.proofs.Common.{◌≡◌, ℕ, zero, suc, ◌+◌, ◌<◌, ◌↔◌, Bool, true, cond, List, [], ◌∷◌, length, get_or, IsTrue, IsSomeAnd, slice_get, Some, None, ap, ◌∙◌, arith, sym}
use Rattle.std.specs.Option.{is_none}
use Rattle.std.proofs.lemmas.List.Sums.{count_by_more_yes, sum_by-take-le}
use Rattle.symk_task.specs.declared.parts.Fact.{Fact}
use Rattle.symk_task.specs.declared.parts.Variable.{Variable}
use Rattle.symk_task.specs.declared.parts.TaskParts.{TaskParts}
use Rattle.symk_task.specs.Variables.{is_base, IsBase, IsState, place}
use Rattle.symk_task.specs.Steps.{Holds}
use Rattle.symk_task.specs.Fits.{Fits}
use Rattle.symk_task.proofs.Places.{within_some}
use Rattle.task_system.specs.System.{State}
use Rattle.space_api.specs.View.{FactIn}
use Rattle.space_api.proofs.Facts.{base_holds}
use Rattle.explicit_space.specs.Members.{States, has_explicit_state, AreStates, HasThoseStates}
use Rattle.explicit_space.specs.Explicit.{Explicit, explicit_set_at}
use Rattle.explicit_space.specs.Seen.{explicit_view}
use Rattle.explicit_space.proofs.Gathering.{has_as}
use Rattle.explicit_space.proofs.Meaning.{has_is}

pub within_variables : (task : TaskParts) (var : ℕ) → IsBase task var → var < length task.variables
within_variables task var base = within_some (λ v. v.layer ≡ None) task.variables var base

base_read : (variables : List Variable) (i : ℕ) (d : Variable) → IsSomeAnd (slice_get variables i) (λ v. v.layer ≡ None) → is_base (get_or variables i d) ≡ true
base_read [] i d h = absurd h
base_read (v ∷ variables) zero d h = ap is_none h
base_read (v ∷ variables) (suc i) d h = base_read variables i d h

-- a state has a value for each base variable
pub place_below : (task : TaskParts) (s : State) (var : ℕ) → IsBase task var → IsState task s → place task var < length s
place_below task s var base state =
    let d : Variable = record { name = []; layer = None; values = [] } in
    let more = count_by_more_yes is_base task.variables var d (within_variables task var base) (base_read task.variables var d base) in
    let least = sum_by-take-le (λ (v : Variable). cond (is_base v) 1 0) task.variables (var + 1) in
    omega (arith, more, least, state.each)

-- the value at the variable's place says whether the fact holds
pub fact_says : (task : TaskParts) (s : State) (fact : Fact) (at : ℕ) (r : Bool) → IsBase task fact.var → at ≡ place task fact.var → IsTrue r ↔ (get_or s at 0 ≡ fact.val) → IsTrue r ↔ Holds task s fact
fact_says task s fact at r base e says =
    let law = base_holds task s fact base in
    let here = ap (λ (k : ℕ). get_or s k 0) e in (
      (λ h. law.1 (sym here ∙ says.0 h)),
      (λ h. says.1 (here ∙ law.0 h)),
    )

-- as the space tells them
module _ (e : Explicit) (fits : Fits e.task) (fact : Fact) (a : ℕ) (members : States)
    (is : explicit_set_at e.sets a ≡ Some members) (states : AreStates e.task members) where
  pub fact_means : (set : States) → HasThoseStates set (λ s. IsTrue (has_explicit_state members s)
      × Holds e.task s fact) → HasThoseStates set (FactIn (explicit_view e) fact a)
  fact_means set = has_as set _ _ (λ s. (
    (λ h. ((has_is e fits a members is states s).0 h.0, h.1)),
    (λ h. ((has_is e fits a members is states s).1 h.0, h.1)),
  ))

  pub fact_are : (set : States) → HasThoseStates set (λ s. IsTrue (has_explicit_state members s) × Holds e.task s fact) → AreStates e.task set
  fact_are set h s k = states s ((h s).0 k).0

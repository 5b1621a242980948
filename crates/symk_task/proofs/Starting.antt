-- There is one initial state.
use Rattle.std.proofs.Common.{◌≡◌, ℕ, ◌<◌, List, get_or, Option, Some, None, IsSomeAnd, IfSome, slice_get, refl, sym, subst, ◌∙◌, arith}
use Rattle.symk_task.specs.declared.parts.Variable.{Variable}
use Rattle.symk_task.specs.declared.parts.TaskParts.{TaskParts}
use Rattle.symk_task.specs.Variables.{IsBase, place, range, base_values}
use Rattle.symk_task.specs.Plans.{IsInitial}
use Rattle.symk_task.specs.Fits.{Fits}
use Rattle.symk_task.proofs.Places.{same_states, base_length, value_at}

-- the values of the base variables make the initial state
pub start_law : (task : TaskParts) → Fits task → IsInitial task (base_values task.variables task.initial)
start_law task fits = record {
  state = record {
    each = base_length task.variables task.initial fits.initial;
    in_range = λ var. at var (slice_get task.variables var) refl (fits.each_value var);
  };
  values = λ var base. value_at task.variables task.initial var fits.initial base;
}
  where
    at : (var : ℕ) (o : Option Variable) → slice_get task.variables var ≡ o
        → IfSome o (λ v. get_or task.initial var 0 < range v)
        → IfSome o (λ v. v.layer ≡ None → get_or (base_values task.variables task.initial) (place task var) 0
        < range v)
    at var None e h = h
    at var (Some v) e h = (λ base.
        let b : IsBase task var = subst (λ (z : Option Variable). IsSomeAnd z (λ v. v.layer ≡ None)) (sym e) base in
        let k : get_or (base_values task.variables task.initial) (place task var) 0 ≡ get_or task.initial var 0 =
        value_at task.variables task.initial var fits.initial b in
        omega (arith, h, k))

-- two initial states are one
pub one_initial : (task : TaskParts) (s t : List ℕ) → IsInitial task s → IsInitial task t → s ≡ t
one_initial task s t p q = same_states task s t p.state.each (q.state.each ∙ sym p.state.each) (λ var base. p.values var base ∙ sym (q.values var base))

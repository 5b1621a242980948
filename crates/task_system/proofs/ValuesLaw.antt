-- The computed values are those that hold.
use Rattle.std.proofs.Common.{◌≡◌, ℕ, suc, ◌-◌, ◌<◌, ◌↔◌, inl, inr, Bool, true, false, cond, List, length, get_or, Option, Some, None, slice_index, sym, ◌∙◌, refl, arith}
use Rattle.std.specs.Bool.{Decides}
use Rattle.std.proofs.lemmas.Bool.{false≢true, cases_eq}
use Rattle.std.proofs.lemmas.List.FromFn.{length-map-range_with_len, get_or-map-range_with_len}
use Rattle.symk_task.specs.declared.parts.Fact.{Fact}
use Rattle.symk_task.specs.declared.parts.TaskParts.{TaskParts}
use Rattle.symk_task.specs.Variables.{HasLayer, place, range, other_value}
use Rattle.symk_task.specs.Derived.{Raised, RaisedBelow}
use Rattle.symk_task.specs.Steps.{Holds}
use Rattle.symk_task.specs.Fits.{Fits, InRange}
use Rattle.symk_task.proofs.Places.{within_some}
use Rattle.symk_task.proofs.Layers.{two_values, fact_two, which, raised_by}
use Rattle.task_run.specs.Values.{Valued}
use Rattle.task_system.specs.Computed.{layer_at, raised_below, value_by, value_in, values_in}
use Rattle.task_system.proofs.Firing.{base_layer, layer_base, derived_layer, layer_derived, raised_decides}

length_values : (task : TaskParts) (s : List ℕ) → length (values_in task s) ≡ length task.variables
unfolding values_in
length_values task s = length-map-range_with_len (value_in task s) 0 (length task.variables)

value_at : (task : TaskParts) (s : List ℕ) (var : ℕ) → var < length task.variables → get_or (values_in task s) var 0 ≡ value_in task s var
unfolding values_in
value_at task s var lt = get_or-map-range_with_len (value_in task s) 0 (length task.variables) var var 0 lt (omega arith)

-- a fact holds exactly where its variable has its value
holds_value : (task : TaskParts) (s : List ℕ) (fact : Fact) → Fits task → InRange task.variables fact
    → Holds task s fact ↔ (value_in task s fact.var ≡ fact.val)
unfolding value_in
holds_value task s fact fits within = go (layer_at task fact.var) refl
  where
    go : (o : Option (Option ℕ)) → layer_at task fact.var ≡ o → Holds task s fact ↔ (value_by task s fact.var o ≡ fact.val)
    go None is = elim (which task fact within) [
      | inl b ↦ (let k = base_layer task fact.var b in cc)
      | inr d ↦ (let k = derived_layer task fact.var d.0 d.1 in cc)
    ]
    go (Some None) is = (to, λ e. inl (layer_base task fact.var is, e))
      where
        to : Holds task s fact → get_or s (place task fact.var) 0 ≡ fact.val
        to (inl h) = h.1
        to (inr h) = (let k = derived_layer task fact.var h.0 h.1 in cc)
    go (Some (Some layer)) is = by (raised_below (suc layer) task s fact.var) refl
      where
        on : HasLayer task fact.var layer
        on = layer_derived task fact.var layer is

        decides : Decides (raised_below (suc layer) task s fact.var) (RaisedBelow (suc layer) task s fact.var)
        decides = raised_decides (suc layer) task s fact.var

        is_raised : RaisedBelow (suc layer) task s fact.var ↔ Raised task s fact.var
        is_raised = raised_by task s (suc layer) fact.var layer on (omega arith)

        by : (r : Bool) → raised_below (suc layer) task s fact.var ≡ r → Holds task s fact
            ↔ (cond r (other_value task fact.var) (slice_index task.initial fact.var) ≡ fact.val)
        by true t = (to, λ e. inr (layer, on, ((λ _. is_raised.0 (decides.0 t)), (λ _. sym e))))
          where
            to : Holds task s fact → other_value task fact.var ≡ fact.val
            to (inl h) = (let k = base_layer task fact.var h.0 in cc)
            to (inr h) = sym (h.2.1 (is_raised.0 (decides.0 t)))
        by false t = (to, λ e. inr (layer, on, ((λ other. absurd (unlike e other)), (λ r. absurd (false≢true (sym t ∙ decides.1 (is_raised.1 r)))))))
          where
            unlike : get_or task.initial fact.var 0 ≡ fact.val → fact.val ≡ other_value task fact.var → ⊥
            unlike e other = (let two = two_values task fact.var layer fits on in let i = two.initial in
                let v = fact_two task fact layer fits within on in omega (arith, i, v))

            to : Holds task s fact → get_or task.initial fact.var 0 ≡ fact.val
            to (inl h) = (let k = base_layer task fact.var h.0 in cc)
            to (inr h) = elim (cases_eq fact.val (other_value task fact.var)) [
              | inl e ↦ absurd (false≢true (sym t ∙ decides.1 (is_raised.1 (h.2.0 e))))
              | inr ne ↦ (
                  let two = two_values task fact.var layer fits on in
                  let i = two.initial in
                  let v = fact_two task fact layer fits within on in
                  let off : fact.val ≡ 1 - get_or task.initial fact.var 0 → ⊥ = ne in omega (arith, i, v, off))
            ]

-- the values law: each variable has the value that holds in the state
pub values_law : (task : TaskParts) (s : List ℕ) → Fits task → Valued task s (values_in task s)
values_law task s fits = record {
  each = length_values task s;
  holds = λ fact within.
      let h = holds_value task s fact fits within in
      let e = value_at task s fact.var (within_some (λ v. fact.val < range v) task.variables fact.var within) in
      ((λ k. e ∙ h.0 k), (λ k. h.1 (sym e ∙ k)));
}

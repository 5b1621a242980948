-- The state after an operator.
use Rattle.std.proofs.Common.{◌≡◌, ℕ, ◌<◌, ◌↔◌, inl, List, length, get_or, Option, Some, None, Result, Ok, Err, IfOk, IsSomeAnd, IfSome, slice_get, refl, sym, ap, subst, ◌∙◌, arith}
use Rattle.std.proofs.lemmas.Option.{slice_get_read}
use Rattle.std.specs.List.{All}
use Rattle.std.proofs.lemmas.List.Elements.{recursion_from_All}
use Rattle.symk_task.specs.declared.parts.Variable.{Variable}
use Rattle.symk_task.specs.declared.parts.Effect.{Effect}
use Rattle.symk_task.specs.declared.parts.Operator.{Operator}
use Rattle.symk_task.specs.declared.parts.TaskParts.{TaskParts}
use Rattle.symk_task.specs.Variables.{range, IsBase, IsState, place}
use Rattle.symk_task.specs.Fits.{FitsEffect, FitsOperator, Fits}
use Rattle.symk_task.specs.Steps.{Fires, ValueAfter, After}
use Rattle.symk_task.specs.Variables.{base_values}
use Rattle.task_run.specs.Values.{Valued, FiresBy, IsOn}
use Rattle.task_run.proofs.Effects.{after_like}
use Rattle.symk_task.proofs.Places.{within_some, base_length, value_at}

both : {X : Type 0} (P Q : X → Type 0) (o : Option X) → IsSomeAnd o P → IfSome o (λ x. P x → Q x) → IsSomeAnd o Q
both P Q None h k = h
both P Q (Some x) h k = k h

pub step_after : {task : TaskParts} {s : List ℕ} (a : ℕ) {operator : Operator} {values : List ℕ} (next : List ℕ)
    → IsState task s
    → slice_get task.operators a ≡ Some operator → All (FitsEffect task.variables) operator.effects
    → Valued task s values
    → ((var : ℕ) → ValueAfter (FiresBy values) operator.effects var (get_or values var 0) (get_or next var 0))
    → length next ≡ length values → After task s a (base_values task.variables next)
step_after {task} {s} a {operator} {values} next state is fit valued after same =
    let far : length next ≡ length task.variables = same ∙ valued.each in
    let Goal : Option Operator → Type 0 = λ o. IsSomeAnd o (λ x. (var : ℕ) → IsBase task var → ValueAfter
    (Fires task s) x.effects var (get_or s (place task var) 0)
    (get_or (base_values task.variables next) (place task var) 0)) in
    record {
      each = base_length task.variables next far ∙ sym state.each;
      values = subst Goal (sym is) (λ var base.
          let within = both (λ v. v.layer ≡ None) (λ v. get_or s (place task var) 0 < range v) (slice_get task.variables var) base (state.in_range var) in
          let old : get_or values var 0 ≡ get_or s (place task var) 0 =
          (valued.holds (record { var = var; val = get_or s (place task var) 0 }) within).0
          (inl (base, refl)) in
          let new : get_or (base_values task.variables next) (place task var) 0 ≡ get_or next var 0 = value_at task.variables next var far base in
          let like = recursion_from_All (λ (e : Effect). e.var ≡ var → FiresBy values e ↔ Fires task s e) operator.effects
          (λ n x less on.
          let e = get_or operator.effects n x in
          let f = fit n x less in (
            (λ h. λ k d lt. (valued.holds (get_or e.conds k d) (f.conds.1 k d lt)).1 (h k d lt)),
            (λ h. λ k d lt. (valued.holds (get_or e.conds k d) (f.conds.1 k d lt)).0 (h k d lt)),
          )) in
          let moved = after_like (FiresBy values) (Fires task s) operator.effects var (get_or values var 0) (get_or next var 0) like (after var) in
          subst (λ (z : ℕ). ValueAfter (Fires task s) operator.effects var z (get_or (base_values task.variables next) (place task var) 0)) old
          (subst (λ (z : ℕ). ValueAfter (Fires task s) operator.effects var (get_or values var 0) z) (sym new) moved));
    }

pub if_ok : {T E : Type 0} (r : Result T E) (P Q : T → Type 0) → ((t : T) → P t → Q t) → IfOk r P → IfOk r Q
if_ok (Ok t) P Q f h = f t h
if_ok (Err e) P Q f h = h

pub operator_at : (task : TaskParts) (operators : List Operator) (a : ℕ) (operator : Operator) → Fits task
    → operators ≡ task.operators → a < length task.operators → operator ≡ get_or operators a operator
    → (slice_get task.operators a ≡ Some operator) × FitsOperator task.variables operator
operator_at task operators a operator fits same lt is =
    let is2 : operator ≡ get_or task.operators a operator = is ∙ ap (λ (z : List Operator). get_or z a operator) same in (
      slice_get_read task.operators (length task.operators) a operator refl lt is2,
      subst (FitsOperator task.variables)
          (sym is2) (fits.each_operator a operator lt),
    )

pub effect_on : (variables : List Variable) (values : List ℕ) (e : Effect) → length values ≡ length variables → FitsEffect variables e → IsOn (length values) e
effect_on variables values e same f = record {
  var = (let k = within_some (λ v. (v.layer ≡ None) × (e.post < range v)) variables e.var f.on in omega arith);
  conds = λ k d lt. (let h = within_some (λ v. (get_or e.conds k d).val < range v) variables (get_or e.conds k d).var (f.conds.1 k d lt) in omega arith);
}

-- The computed step is the one that the operator makes, and the goal is tested.
use Rattle.std.proofs.Common.{◌≡◌, ℕ, ◌↔◌, inr, Bool, true, false, cond, ◌&&◌, ◌==◌, List, [], ◌∷◌, ◌++◌, length, get_or, fold, Option, Some, None, IsSomeAnd, IfSome, slice_get, refl, sym, ap, subst, ◌∙◌, append_assoc, append-nil}
use Rattle.std.proofs.Math.ListN.{set}
use Rattle.std.specs.Bool.{Decides}
use Rattle.std.specs.Option.{option_map_or}
use Rattle.std.specs.List.{All, AllByRecursion}
use Rattle.std.proofs.lemmas.Bool.Decides.{Decides-eqb, Decides-and, Decides-like, Decides-by_and, not_from_Decides}
use Rattle.std.proofs.lemmas.List.{length-set}
use Rattle.std.proofs.lemmas.List.Elements.{recursion_from_All}
use Rattle.symk_task.specs.declared.parts.Fact.{Fact}
use Rattle.symk_task.specs.declared.parts.Effect.{Effect}
use Rattle.symk_task.specs.declared.parts.Operator.{Operator}
use Rattle.symk_task.specs.declared.parts.TaskParts.{TaskParts}
use Rattle.symk_task.specs.Variables.{IsState, base_values}
use Rattle.symk_task.specs.Steps.{Holds, Allows, Applies, After, Step, ValueAfter}
use Rattle.symk_task.specs.Fits.{Fits, FitsEffect, FitsOperator}
use Rattle.symk_task.proofs.OneState.{one_state}
use Rattle.symk_task.proofs.Running.{fits_operator}
use Rattle.task_run.specs.Values.{HasValue, Valued, FiresBy, AllowsBy, AppliesBy, IsOn}
use Rattle.task_run.proofs.Effects.{written, unchanged}
use Rattle.task_run.proofs.Stepping.{step_after, effect_on}
use Rattle.task_run.proofs.Applying.{applies_law}
use Rattle.task_system.specs.Computed.{values_in, have_all, allow_all, value_set, step_by, step, goal_holds}
use Rattle.task_system.proofs.ValuesLaw.{values_law}

have_all_decides : (values : List ℕ) (facts : List Fact) → Decides (have_all values facts) (All (HasValue values) facts)
have_all_decides values facts =
    Decides-by_and (λ (fact : Fact). get_or values fact.var 0 == fact.val) (HasValue values) (have_all values)
    (λ fact. Decides-eqb (get_or values fact.var 0) fact.val) refl (λ _ _. refl) facts

allows_decides : (values : List ℕ) (var : ℕ) (pre : Option ℕ)
    → Decides (option_map_or (λ val. get_or values var 0 == val) pre true)
    (IfSome pre (λ val. get_or values var 0 ≡ val))
allows_decides values var None = ((λ _. tt), (λ _. refl))
allows_decides values var (Some val) = Decides-eqb (get_or values var 0) val

allow_all_decides : (values : List ℕ) (effects : List Effect) → Decides (allow_all values effects) (All (AllowsBy values) effects)
allow_all_decides values effects =
    Decides-by_and (λ (effect : Effect). option_map_or (λ val. get_or values effect.var 0 == val) effect.pre true)
    (AllowsBy values) (allow_all values) (λ effect. allows_decides values effect.var effect.pre)
    refl (λ _ _. refl) effects

applies_decides : (values : List ℕ) (operator : Operator) → Decides
    (have_all values operator.prevail && allow_all values operator.effects) (AppliesBy values operator)
applies_decides values operator = Decides-and (have_all values operator.prevail) (allow_all values operator.effects)
    (have_all_decides values operator.prevail) (allow_all_decides values operator.effects)

-- The values after effects.

length_set : (old new : List ℕ) (e : Effect) → length (value_set old new e) ≡ length new
length_set old new e = go (have_all old e.conds)
  where
    go : (b : Bool) → length (cond b (set new e.var e.post) new) ≡ length new
    go true = length-set new e.var e.post
    go false = refl

length_after : (old : List ℕ) (effects : List Effect) (new : List ℕ) → length (fold (value_set old) new effects) ≡ length new
length_after old [] new = refl
length_after old (e ∷ effects) new = length_after old effects (value_set old new e) ∙ length_set old new e

-- one effect more
set_after : (old : List ℕ) (done : List Effect) (e : Effect) (new : List ℕ) (var : ℕ) → IsOn (length new) e
    → ValueAfter (FiresBy old) done var (get_or old var 0) (get_or new var 0)
    → ValueAfter (FiresBy old) (done ++ e ∷ []) var (get_or old var 0) (get_or (value_set old new e) var 0)
set_after old done e new var on h = go (have_all old e.conds) refl
  where
    go : (b : Bool) → have_all old e.conds ≡ b → ValueAfter (FiresBy old) (done ++ e ∷ []) var (get_or old var 0)
        (get_or (cond b (set new e.var e.post) new) var 0)
    go true t = written (FiresBy old) done e var (get_or old var 0) new ((have_all_decides old e.conds).0 t) on.var h
    go false t = unchanged (FiresBy old) done e var (get_or old var 0) (get_or new var 0) (λ _ f. not_from_Decides _ (have_all_decides old e.conds) t f) h

values_after : (old : List ℕ) (done effects : List Effect) (new : List ℕ) (var : ℕ)
    → AllByRecursion (IsOn (length new)) effects → ValueAfter (FiresBy old) done var (get_or old var 0)
    (get_or new var 0)
    → ValueAfter (FiresBy old) (done ++ effects) var (get_or old var 0) (get_or (fold (value_set old) new effects) var 0)
values_after old done [] new var on h = subst (λ (z : List Effect). ValueAfter (FiresBy old) z var (get_or old var 0)
    (get_or new var 0)) (sym (append-nil done)) h
values_after old done (e ∷ effects) new var on h =
    let next = value_set old new e in
    subst (λ (z : List Effect). ValueAfter (FiresBy old) z var (get_or old var 0)
    (get_or (fold (value_set old) next effects) var 0)) (append_assoc done (e ∷ []) effects)
    (values_after old (done ++ e ∷ []) effects next var (subst (λ (n : ℕ). AllByRecursion (IsOn n) effects)
    (sym (length_set old new e)) on.1) (set_after old done e new var on.0 h))

all_on : (task : TaskParts) (values : List ℕ) (effects : List Effect) → length values ≡ length task.variables
    → AllByRecursion (FitsEffect task.variables) effects → AllByRecursion (IsOn (length values)) effects
all_on task values [] e fit = tt
all_on task values (x ∷ effects) e fit = (effect_on task.variables values x e fit.0, all_on task values effects e fit.1)

-- where the operator leads by the values that hold
after_values : (task : TaskParts) (s : List ℕ) (a : ℕ) (operator : Operator) (values : List ℕ) → IsState task s
    → slice_get task.operators a ≡ Some operator → FitsOperator task.variables operator → Valued task s values
    → After task s a (base_values task.variables (fold (value_set values) values operator.effects))
after_values task s a operator values state is fit valued =
    let on = all_on task values operator.effects valued.each (recursion_from_All (FitsEffect task.variables) operator.effects fit.each) in
    step_after a (fold (value_set values) values operator.effects) state is fit.each valued
    (λ var. values_after values [] operator.effects values var on (inr (tt, refl)))
    (length_after values operator.effects values)

-- What the step answers is a step, and an operator that applies has an answer.
record Made (task : TaskParts) (s : List ℕ) (a : ℕ) (o : Option (List ℕ)) : Type 0 where
  leads : (t : List ℕ) → o ≡ Some t → Step task s a t
  applies : Applies task s a → (t : List ℕ) × (o ≡ Some t)

made : (task : TaskParts) (s : List ℕ) (a : ℕ) → Fits task → IsState task s → (o : Option Operator)
    → slice_get task.operators a ≡ o → Made task s a (step_by task (values_in task s) o)
made task s a fits state None is = record {
  leads = λ t e. (cc);
  applies = λ h. absurd (subst (λ (z : Option Operator). IsSomeAnd z
      (λ operator. All (Holds task s) operator.prevail × All (Allows task s) operator.effects)) is h);
}
made task s a fits state (Some operator) is = by (have_all values operator.prevail && allow_all values operator.effects) refl
  where
    values : List ℕ
    values = values_in task s

    valued : Valued task s values
    valued = values_law task s fits

    fit : FitsOperator task.variables operator
    fit = fits_operator task a operator fits is

    target : List ℕ
    target = base_values task.variables (fold (value_set values) values operator.effects)

    after : After task s a target
    after = after_values task s a operator values state is fit valued

    decides : Decides (have_all values operator.prevail && allow_all values operator.effects) (Applies task s a)
    decides =
        let law = applies_law task s values a operator valued is fit in
        Decides-like (have_all values operator.prevail && allow_all values operator.effects) law.0 law.1 (applies_decides values operator)

    by : (b : Bool) → (have_all values operator.prevail && allow_all values operator.effects) ≡ b → Made task s a (cond b (Some target) None)
    by true t = record { leads = λ u e. (decides.0 t, (let same : target ≡ u = cc in subst (After task s a) same after)); applies = λ h. (target, refl) }
    by false t = record { leads = λ u e. (cc); applies = λ h. absurd (not_from_Decides _ decides t h) }

-- an operator that applies leads from a state to another
pub leads_on : (task : TaskParts) (s : List ℕ) (a : ℕ) → Fits task → IsState task s → Applies task s a → (t : List ℕ) × Step task s a t
leads_on task s a fits state applies =
    let m = made task s a fits state (slice_get task.operators a) refl in
    let t = m.applies applies in (t.0, m.leads t.0 t.1)

-- the step law: the operator leads to the state that the meaning of the task says, and nowhere else
pub step_law : (task : TaskParts) (s : List ℕ) (a : ℕ) (t : List ℕ) → Fits task → IsState task s → (step task a s ≡ Some t) ↔ Step task s a t
unfolding step
step_law task s a t fits state =
    let m = made task s a fits state (slice_get task.operators a) refl in (
      m.leads t,
      (λ h.
          let k = m.applies h.0 in
          let other = m.leads k.0 k.1 in
          let same : k.0 ≡ t = one_state task s k.0 t a state other.1 h.1 in k.1 ∙ ap (λ (z : List ℕ). Some z) same),
    )

-- the goal law
pub goal_law : (task : TaskParts) (s : List ℕ) → Fits task → Decides (goal_holds task s) (All (Holds task s) task.goal)
unfolding goal_holds
goal_law task s fits =
    let valued = values_law task s fits in
    Decides-like (have_all (values_in task s) task.goal) (λ h k d lt.
    (valued.holds (get_or task.goal k d) (fits.goal.1 k d lt)).1 (h k d lt))
    (λ h k d lt. (valued.holds (get_or task.goal k d) (fits.goal.1 k d lt)).0 (h k d lt))
    (have_all_decides (values_in task s) task.goal)

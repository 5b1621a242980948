-- What holds where steps of an operator start, and where they end.
use Rattle.std.proofs.Common.{◌≡◌, ◌≢◌, ℕ, ◌<◌, ◌==◌, ◌&&◌, Bool, true, false, cond, List, [], ◌∷◌, length, get_or, fold, Option, Some, None, slice_get, inl, inr, refl, sym, ◌∙◌, ap, subst, arith, eqb-true}
use Rattle.std.proofs.Math.ListN.{set}
use Rattle.std.specs.List.{Contains}
use Rattle.std.specs.Option.{option_map_or}
use Rattle.std.proofs.lemmas.Bool.{and_parts}
use Rattle.std.proofs.lemmas.List.{length-set, get_or-set_same, get_or-set_other}
use Rattle.std.proofs.lemmas.List.FromFn.{length-map-range_with_len, get_or-map-range_with_len}
use Rattle.std.proofs.lemmas.List.Sums.{AllPass-from_list_all}
use Rattle.std.proofs.lemmas.Option.{same_Some}
use Rattle.symk_task.specs.declared.parts.Fact.{Fact}
use Rattle.symk_task.specs.declared.parts.Effect.{Effect}
use Rattle.symk_task.specs.declared.parts.Operator.{Operator}
use Rattle.symk_task.specs.declared.parts.TaskParts.{TaskParts}
use Rattle.symk_task.specs.Variables.{IsBase, place, base_values}
use Rattle.symk_task.proofs.Places.{within_some, value_at}
use Rattle.task_system.specs.System.{Leads}
use Rattle.task_system.specs.Computed.{values_in, value_in, value_by, have_all, allow_all, value_set, step_by, step, system_of}
use Rattle.task_system.proofs.Firing.{base_layer}
use Rattle.bdd_sets.specs.Steps.{IsAsked, NotOn, Leaves, IsLeft}

-- the values of all variables in a state

length_values : (task : TaskParts) (s : List ℕ) → length (values_in task s) ≡ length task.variables
unfolding values_in
length_values task s = length-map-range_with_len (value_in task s) 0 (length task.variables)

within : (task : TaskParts) (var : ℕ) → IsBase task var → var < length task.variables
within task var base = within_some (λ v. v.layer ≡ None) task.variables var base

-- a base variable has its value of the state
base_value : (task : TaskParts) (s : List ℕ) (var : ℕ) → IsBase task var → get_or (values_in task s) var 0 ≡ get_or s (place task var) 0
unfolding values_in value_in
base_value task s var base =
    get_or-map-range_with_len (value_in task s) 0 (length task.variables) var var 0 (within task var base) (omega arith)
    ∙ ap (value_by task s var) (base_layer task var base)

-- what an operator that applies asks for

module _ (values : List ℕ) (o : Operator) (applies : (have_all values o.prevail && allow_all values o.effects) ≡ true) where
  prevail_value : (f : Fact) → Contains o.prevail f → get_or values f.var 0 ≡ f.val
  prevail_value f (k, lt, at) =
      let all = AllPass-from_list_all (λ (fact : Fact). get_or values fact.var 0 == fact.val) o.prevail
      (and_parts (have_all values o.prevail) (allow_all values o.effects) applies).0 in
      eqb-true (get_or values f.var 0) f.val (subst (λ (x : Fact). (get_or values x.var 0 == x.val) ≡ true) at (all k f lt))

  asked_value : (f : Fact) → IsAsked o f → get_or values f.var 0 ≡ f.val
  asked_value f (inl h) = prevail_value f h
  asked_value f (inr (k, lt, (e, at, (on, pre)))) =
      let test : Effect → Bool = λ effect. option_map_or (λ val. get_or values effect.var 0 == val) effect.pre true in
      let all = AllPass-from_list_all test o.effects (and_parts (have_all values o.prevail) (allow_all values o.effects) applies).1 in
      let here : test e ≡ true = subst (λ (x : Effect). test x ≡ true) at (all k e lt) in
      let asks : (get_or values e.var 0 == f.val) ≡ true = subst
      (λ (x : Option ℕ). option_map_or (λ val. get_or values e.var 0 == val) x true ≡ true) pre here in
      subst (λ (var : ℕ). get_or values var 0 ≡ f.val) on (eqb-true (get_or values e.var 0) f.val asks)

-- what effects leave

set_length : (old new : List ℕ) (e : Effect) → length (value_set old new e) ≡ length new
set_length old new e = go (have_all old e.conds)
  where
    go : (b : Bool) → length (cond b (set new e.var e.post) new) ≡ length new
    go true = length-set new e.var e.post
    go false = refl

set_other : (old new : List ℕ) (e : Effect) (var : ℕ) → e.var ≢ var → get_or (value_set old new e) var 0 ≡ get_or new var 0
set_other old new e var apart = go (have_all old e.conds)
  where
    go : (b : Bool) → get_or (cond b (set new e.var e.post) new) var 0 ≡ get_or new var 0
    go true = get_or-set_other new e.var var e.post 0 (λ same. apart (sym same))
    go false = refl

fold_other : (old : List ℕ) (es : List Effect) (new : List ℕ) (var : ℕ) → NotOn var es → get_or (fold (value_set old) new es) var 0 ≡ get_or new var 0
fold_other old [] new var n = refl
fold_other old (e ∷ es) new var n = fold_other old es (value_set old new e) var n.1 ∙ set_other old new e var n.0

set_here : (old new : List ℕ) (e : Effect) → e.conds ≡ [] → e.var < length new → get_or (value_set old new e) e.var 0 ≡ e.post
set_here old new e none lt =
    ap (λ (b : Bool). get_or (cond b (set new e.var e.post) new) e.var 0) (let free : have_all old e.conds ≡ true = ap (have_all old) none in free)
    ∙ get_or-set_same new e.var e.post 0 lt

fold_leaves : (old : List ℕ) (es : List Effect) (new : List ℕ) (f : Fact) → f.var < length new → Leaves es f
    → get_or (fold (value_set old) new es) f.var 0 ≡ f.val
fold_leaves old [] new f lt l = absurd l
fold_leaves old (e ∷ es) new f lt (inl rest) = fold_leaves old es (value_set old new e) f (let same = set_length old new e in omega (arith, lt, same)) rest
fold_leaves old (e ∷ es) new f lt (inr ((none, on, post), not)) =
    fold_other old es (value_set old new e) f.var not
    ∙ ap (λ (var : ℕ). get_or (value_set old new e) var 0) (sym on)
    ∙ set_here old new e none (omega (arith, lt, on))
    ∙ post

fold_length : (old : List ℕ) (es : List Effect) (new : List ℕ) → length (fold (value_set old) new es) ≡ length new
fold_length old [] new = refl
fold_length old (e ∷ es) new = fold_length old es (value_set old new e) ∙ set_length old new e

-- a step of an operator

pub record IsStep (task : TaskParts) (op : ℕ) (s t : List ℕ) : Type 0 where
  pub operator : Operator
  pub is : slice_get task.operators op ≡ Some operator
  applies : (have_all (values_in task s) operator.prevail && allow_all (values_in task s) operator.effects) ≡ true
  to : base_values task.variables (fold (value_set (values_in task s)) (values_in task s) operator.effects) ≡ t

pub is_step : (task : TaskParts) (op : ℕ) (s t : List ℕ) → Leads (system_of task) op s t → IsStep task op s t
unfolding step
is_step task op s t leads = go (slice_get task.operators op) refl leads.step
  where
    values : List ℕ
    values = values_in task s

    go : (x : Option Operator) → slice_get task.operators op ≡ x → step_by task values x ≡ Some t → IsStep task op s t
    go None e h = (let none : None ≡ Some t = h in cc)
    go (Some o) e h = by (have_all values o.prevail && allow_all values o.effects) refl h
      where
        by : (b : Bool) → (have_all values o.prevail && allow_all values o.effects) ≡ b
            → cond b (Some (base_values task.variables (fold (value_set values) values o.effects))) None ≡ Some t
            → IsStep task op s t
        by true applies k = record { operator = o; is = e; applies = applies; to = same_Some _ _ k }
        by false applies k = (let none : None ≡ Some t = k in cc)

module _ (task : TaskParts) (op : ℕ) (s t : List ℕ) (x : IsStep task op s t) where
  -- what the operator asks for holds where the step starts
  pub asked_before : (f : Fact) → IsAsked x.operator f → IsBase task f.var → get_or s (place task f.var) 0 ≡ f.val
  asked_before f asked base = sym (base_value task s f.var base) ∙ asked_value (values_in task s) x.operator x.applies f asked

  -- and what it leaves where the step ends
  pub left_after : (f : Fact) → IsLeft x.operator f → IsBase task f.var → get_or t (place task f.var) 0 ≡ f.val
  left_after f left base =
      ap (λ (u : List ℕ). get_or u (place task f.var) 0) (sym x.to)
      ∙ value_at task.variables final f.var (fold_length values x.operator.effects values ∙ length_values task s) base
      ∙ value left
    where
      values : List ℕ
      values = values_in task s

      final : List ℕ
      final = fold (value_set values) values x.operator.effects

      value : IsLeft x.operator f → get_or final f.var 0 ≡ f.val
      value (inl l) = fold_leaves values x.operator.effects values f
          (let lt = within task f.var base in let same = length_values task s in omega (arith, lt, same)) l
      value (inr (h, not)) = fold_other values x.operator.effects values f.var not ∙ prevail_value values x.operator x.applies f h

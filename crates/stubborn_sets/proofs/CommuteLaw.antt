-- Operators that meet well at each variable that one of them writes commute.
use Rattle.std.proofs.Common.{◌≡◌, ℕ, ◌<◌, inl, inr, List, length, get_or, Option, Some, None, IsSomeAnd, slice_get, sym, ap, subst, ◌∙◌}
use Rattle.std.specs.List.{All}
use Rattle.std.specs.Option.{option_map}
use Rattle.std.proofs.lemmas.List.Elements.{recursion_from_All}
use Rattle.symk_task.specs.declared.parts.Variable.{Variable}
use Rattle.symk_task.specs.declared.parts.Effect.{Effect}
use Rattle.symk_task.specs.declared.parts.Operator.{Operator}
use Rattle.symk_task.specs.declared.parts.TaskParts.{TaskParts}
use Rattle.symk_task.specs.Variables.{IsBase, IsState, place, range}
use Rattle.symk_task.specs.Steps.{Holds, Allows, Applies, After, Step, Fires, ValueAfter}
use Rattle.symk_task.specs.Fits.{Fits}
use Rattle.symk_task.proofs.Places.{same_states}
use Rattle.symk_task.proofs.Running.{fits_operator, step_state}
use Rattle.task_run.proofs.Stepping.{operator_at}
use Rattle.task_system.specs.Computed.{system_of}
use Rattle.task_system.proofs.StatesLaw.{states_law}
use Rattle.task_system.proofs.RunsLaw.{leads_law}
use Rattle.task_system.proofs.StepLaw.{leads_on}
use Rattle.stubborn_sets.specs.Commuting.{Commute}
use Rattle.stubborn_sets.specs.Reading.{AreLocal, Untouched, value_after}
use Rattle.stubborn_sets.specs.Meeting.{MeetAt, MeetEach, Meet, MeetOnAll}
use Rattle.stubborn_sets.proofs.Values.{Unwritten, at_written, unwritten}
use Rattle.stubborn_sets.proofs.Pair.{Allowed, Leaves, Touch, local_value, allowed_after, quiet, meet_at}

-- the two may change places
turned : (task : TaskParts) (one other : Operator) (var val : ℕ) → MeetAt task one other var val → MeetAt task other one var val
turned task one other var val m = record { allowed = m.allows; allows = m.allowed; same = sym m.same; left = m.leaves; leaves = m.left }

turned_each : (task : TaskParts) (one other : Operator) (var : ℕ) (o : Option Variable)
    → IsSomeAnd o (λ v. MeetEach task one other var (range v))
    → IsSomeAnd o (λ v. MeetEach task other one var (range v))
turned_each task one other var None h = h
turned_each task one other var (Some v) h = (λ val lt a b. turned task one other var val (h val lt b a))

turned_meet : (task : TaskParts) (one other : Operator) (var : ℕ) → Meet task one other var → Meet task other one var
turned_meet task one other var m = record {
  well = elim m.well [
    | inl un ↦ inr (inl un)
    | inr (inl un) ↦ inl un
    | inr (inr loc) ↦ inr (inr (loc.1, loc.0, turned_each task one other var (slice_get task.variables var) loc.2))
  ];
}

touch_by : (task : TaskParts) (one other : Operator) → MeetOnAll task one other one.effects → (var : ℕ) → Touch task one other var
touch_by task one other meet var = elim (at_written (Meet task one other) one.effects var
    (recursion_from_All (λ effect. Meet task one other effect.var) one.effects meet)) [
      | inl none ↦ inl none
      | inr m ↦ elim m.well [
        | inl un ↦ inl (recursion_from_All (λ effect. effect.var ≡ var → ⊥) one.effects un.1)
        | inr (inl un) ↦ inr (inl un)
        | inr (inr loc) ↦ inr (inr loc)
      ]
    ]

-- A step by its operator.

pub allowed_by : (task : TaskParts) (s : List ℕ) (a : ℕ) (operator : Operator)
    → slice_get task.operators a ≡ Some operator → Applies task s a → Allowed task s operator
allowed_by task s a operator is h =
    let both = subst (λ (o : Option Operator). IsSomeAnd o (λ operator. All (Holds task s) operator.prevail × All (Allows task s) operator.effects)) is h in
    record { prevail = both.0; effects = both.1 }

applies_by : (task : TaskParts) (s : List ℕ) (a : ℕ) (operator : Operator)
    → slice_get task.operators a ≡ Some operator → Allowed task s operator → Applies task s a
applies_by task s a operator is h =
    subst (λ (o : Option Operator). IsSomeAnd o (λ operator. All (Holds task s) operator.prevail × All (Allows task s)
    operator.effects)) (sym is) (h.prevail, h.effects)

pub leaves_by : (task : TaskParts) (s : List ℕ) (a : ℕ) (operator : Operator) (t : List ℕ)
    → slice_get task.operators a ≡ Some operator → After task s a t → Leaves task s operator t
leaves_by task s a operator t is h =
    subst (λ (o : Option Operator). IsSomeAnd o (λ operator. (var : ℕ) → IsBase task var → ValueAfter (Fires task s)
    operator.effects var (get_or s (place task var) 0) (get_or t (place task var) 0))) is h.values

-- both orders of two steps
record Both (task : TaskParts) (a b : ℕ) (t u : List ℕ) : Type 0 where
  v : List ℕ
  after_one : Step task t b v
  after_other : Step task u a v

-- From one state the two operators lead to t and to u, and the other one leads on, from t to v and from u to w.
record Square (task : TaskParts) (one other : Operator) (s t u v w : List ℕ) : Type 0 where
  state : IsState task s
  first : Allowed task s one
  second : Allowed task s other
  to_t : Leaves task s one t
  to_u : Leaves task s other u
  to_v : Leaves task t other v
  to_w : Leaves task u one w

module _ (task : TaskParts) (a b : ℕ) (one other : Operator) (fits : Fits task)
    (is_one : slice_get task.operators a ≡ Some one) (is_other : slice_get task.operators b ≡ Some other)
    (meets : MeetOnAll task one other one.effects) (met : MeetOnAll task one other other.effects) where
  touch_one : (var : ℕ) → Touch task one other var
  touch_one var = touch_by task one other meets var

  touch_other : (var : ℕ) → Touch task other one var
  touch_other var = touch_by task other one (λ k d lt. turned_meet task one other (get_or other.effects k d).var (met k d lt)) var

  both_orders : (s t u : List ℕ) → IsState task s → Step task s a t → Step task s b u → Both task a b t u
  both_orders s t u state by_one by_other =
      let state_t = step_state task s a t fits state by_one in
      let state_u = step_state task s b u fits state by_other in
      let fit_one = fits_operator task a one fits is_one in
      let fit_other = fits_operator task b other fits is_other in
      let first = allowed_by task s a one is_one by_one.0 in
      let second = allowed_by task s b other is_other by_other.0 in
      let leaves_one = leaves_by task s a one t is_one by_one.1 in
      let leaves_other = leaves_by task s b other u is_other by_other.1 in
      let then_other = allowed_after task s t one other state fit_other first second leaves_one touch_one in
      let then_one = allowed_after task s u other one state fit_one second first leaves_other touch_other in
      let v = leads_on task t b fits state_t (applies_by task t b other is_other then_other) in
      let w = leads_on task u a fits state_u (applies_by task u a one is_one then_one) in
      let leaves_v = leaves_by task t b other v.0 is_other v.1.1 in
      let leaves_w = leaves_by task u a one w.0 is_one w.1.1 in
      let square : Square task one other s t u v.0 w.0 = record {
        state = state;
        first = first;
        second = second;
        to_t = leaves_one;
        to_u = leaves_other;
        to_v = leaves_v;
        to_w = leaves_w;
      } in
      let same : w.0 ≡ v.0 = same_states task w.0 v.0 (step_state task u a w.0 fits state_u w.1).each
      ((step_state task t b v.0 fits state_t v.1).each ∙ sym (step_state task u a w.0 fits state_u w.1).each)
      (λ var on. elim (touch_one var) [
        | inl none ↦ unwritten_one square var on none
        | inr (inl un) ↦ quiet task s u other one state fit_one second first leaves_other touch_other t w.0 leaves_one
            leaves_w var on (recursion_from_All (λ effect. effect.var ≡ var → ⊥) other.effects un.1)
            ∙ sym (unwritten_value t v.0 var on un leaves_v)
        | inr (inr loc) ↦ at_locals square var on loc
      ]) in
      record { v = v.0; after_one = v.1; after_other = subst (λ (z : List ℕ). Step task u a z) same w.1 }
    where
      unwritten_value : (t v : List ℕ) (var : ℕ) → IsBase task var → Untouched task other var → Leaves task t other v
          → get_or v (place task var) 0 ≡ get_or t (place task var) 0
      unwritten_value t v var on un leaves = unwritten (Fires task t) other.effects var (get_or t (place task var) 0)
          (get_or v (place task var) 0) (recursion_from_All (λ effect. effect.var ≡ var → ⊥) other.effects un.1)
          (leaves var on)

      unwritten_one : {s t u v w : List ℕ} → Square task one other s t u v w → (var : ℕ)
          → IsBase task var → Unwritten var one.effects → get_or w (place task var) 0 ≡ get_or v (place task var) 0
      unwritten_one {s} {t} {u} {v} {w} q var on none =
          unwritten (Fires task u) one.effects var (get_or u (place task var) 0) (get_or w (place task var) 0) none
          (q.to_w var on)
          ∙ sym (quiet task s t one other q.state (fits_operator task b other fits is_other) q.first q.second q.to_t
          touch_one u v q.to_u q.to_v var on none)

      at_locals : {s t u v w : List ℕ} → Square task one other s t u v w → (var : ℕ) → IsBase task var
          → (AreLocal var one.effects × AreLocal var other.effects
          × IsSomeAnd (slice_get task.variables var) (λ x. MeetEach task one other var (range x)))
          → get_or w (place task var) 0 ≡ get_or v (place task var) 0
      at_locals {s} {t} {u} {v} {w} q var on loc =
          let val = get_or s (place task var) 0 in
          let m = meet_at task s t one other q.state (fits_operator task b other fits is_other) q.first q.second q.to_t
          touch_one var on loc.2 in
          let to_t = local_value task s one.effects var (get_or t (place task var) 0) on loc.0 (q.to_t var on) in
          let to_u = local_value task s other.effects var (get_or u (place task var) 0) on loc.1 (q.to_u var on) in
          let to_v = local_value task t other.effects var (get_or v (place task var) 0) on loc.1 (q.to_v var on) in
          let to_w = local_value task u one.effects var (get_or w (place task var) 0) on loc.0 (q.to_w var on) in
          to_w ∙ ap (λ (z : ℕ). value_after one.effects var z) to_u ∙ sym m.same ∙ sym (ap (λ (z : ℕ). value_after other.effects var z) to_t) ∙ sym to_v

  pub commute_law : Commute (system_of task) a b
  commute_law = record {
    either = λ s t u listed lead_one lead_other.
        let state = (states_law task s).1 listed in
        let by_one = (leads_law task s a t fits state).0 lead_one in
        let by_other = (leads_law task s b u fits state).0 lead_other in
        let both = both_orders s t u state by_one by_other in (
          both.v,
          (leads_law task t b both.v fits (step_state task s a t fits state by_one)).1 both.after_one,
          (leads_law task u a both.v fits (step_state task s b u fits state by_other)).1 both.after_other,
        );
  }

-- by what the test looked at
-- The operator is the one of this number among them, and these are its effects.
pub record IsTaken (task : TaskParts) (operators : List Operator) (a : ℕ) (operator : Operator)
    (effects : List Effect) : Type 0 where
  pub within : a < length task.operators
  pub is : operator ≡ get_or operators a operator
  pub has : effects ≡ operator.effects

pub test_law : {task parts : TaskParts} {operators : List Operator} {a b : ℕ} {one other : Operator}
    {first second : List Effect} → Fits task → parts ≡ task → operators ≡ parts.operators
    → IsTaken task operators a one first → IsTaken task operators b other second
    → MeetOnAll parts one other first → MeetOnAll parts one other second → Commute (system_of task) a b
test_law {task} {parts} {operators} {a} {b} {one} {other} {first} {second} fits same list taken took meets met =
    let all : operators ≡ task.operators = list ∙ ap (λ (z : TaskParts). z.operators) same in
    let at_a = operator_at task operators a one fits all taken.within taken.is in
    let at_b = operator_at task operators b other fits all took.within took.is in
    commute_law task a b one other fits at_a.0 at_b.0
    (subst (λ (z : TaskParts). MeetOnAll z one other one.effects) same
    (subst (MeetOnAll parts one other) taken.has meets))
    (subst (λ (z : TaskParts). MeetOnAll z one other other.effects) same
    (subst (MeetOnAll parts one other) took.has met))

-- what holds by the range of a variable
pub by_range : (P : ℕ → Type 0) (o : Option Variable) (n : ℕ) → Some n ≡ option_map range o → P n → IsSomeAnd o (λ v. P (range v))
by_range P None n e h = cc
by_range P (Some v) n e h = (let same : n ≡ range v = cc in subst P same h)

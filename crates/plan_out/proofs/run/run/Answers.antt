use Rattle.std.proofs.Common.{◌≡◌, ◌<◌, ◌≤◌, ◌+◌, ◌∷◌, [], ◌++◌, ◌∙◌, List, ℕ, ◌-◌, Option, Some, None, MatchOption, length, get_or, take, sym, subst, arith}
use Rattle.symk_task.specs.declared.parts.Mode.{Mode}
use Rattle.symk_task.specs.declared.parts.Mode.TheVariants.{TopK, Loopless, Unordered}
use Rattle.symk_task.specs.declared.parts.TaskParts.{TaskParts}
use Rattle.symk_task.specs.Plans.{IsInitial}
use Rattle.symk_task.specs.Steps.{Step, Applies, After}
use Rattle.std.proofs.lemmas.Bool.{false≢true}
use Rattle.std.proofs.lemmas.List.{take_all, length-take-le}
use Rattle.task_run.specs.Verdicts.{Stops}
use Rattle.plan_out.specs.declared.run.Passed.{Passed}
use Rattle.plan_out.specs.Checks.{IsPassed, WalksBack}
use Rattle.plan_out.proofs.Walking.{Walks, walks_none, walks_more, walks_run, walks_trace, walks_length}
use Rattle.plan_out.proofs.run.run.Goals as goal

fresh_or : (A B : Type 0) (C : ℕ → Type 0) (o : Option ℕ) → MatchOption o (A × B) C → MatchOption o B C
fresh_or A B C None h = h.1
fresh_or A B C (Some n) h = h

stops_at : (task : TaskParts) (p : List ℕ) (i : ℕ) → Stops task p i → (1 ≤ i + 1) × Stops task p (i + 1 - 1)
stops_at task p i h = (omega arith, (let e : i ≡ i + 1 - 1 = omega arith in subst (λ (k : ℕ). Stops task p k) e h))

-- what is noted at the end says whether the run walks back
back_at_end : (task : TaskParts) (mode : Mode) (s p : List ℕ) (left : List (List ℕ)) (t : List ℕ) (passed : Passed)
    → IsInitial task s → Walks task s p left t → IsPassed mode left t passed → WalksBack task mode p passed.back
back_at_end task TopK s p left t passed initial walks h = h
back_at_end task Unordered s p left t passed initial walks h = h
back_at_end task Loopless s p left t passed initial walks h = (s, left ++ t ∷ [], initial, walks_trace task s p left t walks, fresh_or _ _ _ passed.back h)

pub loop-i-init : goal.loop-i-init
loop-i-init c = record {
  state = c.in_ok-state.ensures.state;
  valued = c.in_ok-values.ensures;
  walks = (
    c.in_ok-state.state,
    [],
    c.in_ok-state.ensures,
    walks_none c.args.task.now c.in_ok-state.state,
    c.new-passed.ensures c.args.mode c.in_ok-state.state,
  );
}

pub returns-then-not-applies_in : goal.returns-then-not-applies_in
returns-then-not-applies_in c =
    let task = c.args.task.now in
    let p = c.args.plan.now in
    let i = c.loop-i.i in
    let r = c.loop-i.invariant.walks in
    stops_at task p i (record {
      operators = c.requires.operators;
      within = subst (λ (q : List ℕ). i < length q) c.as_slice-operators.ensures c.loop-i-test.true;
      s = r.0;
      t = c.loop-i.state;
      initial = r.2;
      runs = walks_run task r.0 (take i p) r.1 c.loop-i.state r.3;
      stuck = (λ h. false≢true (sym c.if-not-applies_in.true
          ∙ c.applies_in.ensures.1 (subst (λ (q : List ℕ). Applies task c.loop-i.state (get_or q i 0))
          (sym c.as_slice-operators.ensures) h)));
    })

pub loop-i-preserved : goal.loop-i-preserved
loop-i-preserved c =
    let task = c.args.task.now in
    let p = c.args.plan.now in
    let i = c.loop-i.i in
    let next = c.in_ok-next.next in
    let lt : i < length p = subst (λ (q : List ℕ). i < length q) c.as_slice-operators.ensures c.loop-i-test.true in
    let numbers = c.as_slice-operators.result.now in
    let applies : Applies task c.loop-i.state (get_or numbers i 0) = c.applies_in.ensures.0 c.if-not-applies_in.false in
    let after : After task c.loop-i.state (get_or numbers i 0) next = c.in_ok-next.ensures.after in
    let one : Step task c.loop-i.state (get_or numbers i 0) next = (applies, after) in
    let step : Step task c.loop-i.state (get_or p i 0) next =
    subst (λ (q : List ℕ). Step task c.loop-i.state (get_or q i 0) next) c.as_slice-operators.ensures one in
    let r = c.loop-i.invariant.walks in
    let count : i + 1 ≡ length r.1 + 1 = (let a = walks_length task r.0 (take i p) r.1 c.loop-i.state r.3 in
    let b = length-take-le i p (omega (arith, lt)) in omega (arith, a, b)) in
    record {
      state = c.in_ok-next.ensures.state;
      valued = c.in_ok-values-2.ensures;
      walks = (r.0, r.1 ++ c.loop-i.state ∷ [], r.2, walks_more task r.0 p i r.1 c.loop-i.state next lt r.3 step, c.in_ok-leave.ensures r.1 count r.4);
    }

pub returns-then-goal_in : goal.returns-then-goal_in
returns-then-goal_in c =
    let task = c.args.task.now in
    let p = c.args.plan.now in
    let r = c.loop-i.invariant.walks in
    let all : length p ≤ c.loop-i.i = subst (λ (q : List ℕ). length q ≤ c.loop-i.i) c.as_slice-operators.ensures c.loop-i-test.false in
    let walk = subst (λ (q : List ℕ). Walks task r.0 q r.1 c.loop-i.state) (take_all c.loop-i.i p all) r.3 in (
      (r.0, c.loop-i.state, r.2, walks_run task r.0 p r.1 c.loop-i.state walk, c.goal_in.ensures.0 c.if-goal_in.true),
      back_at_end task c.args.mode r.0 p r.1 c.loop-i.state c.loop-i.passed r.2 walk r.4,
    )

pub returns : goal.returns
returns c =
    let task = c.args.task.now in
    let p = c.args.plan.now in
    let r = c.loop-i.invariant.walks in
    let all : length p ≤ c.loop-i.i = subst (λ (q : List ℕ). length q ≤ c.loop-i.i) c.as_slice-operators.ensures c.loop-i-test.false in
    let walk = subst (λ (q : List ℕ). Walks task r.0 q r.1 c.loop-i.state) (take_all c.loop-i.i p all) r.3 in
    record {
      s = r.0;
      t = c.loop-i.state;
      initial = r.2;
      runs = walks_run task r.0 p r.1 c.loop-i.state walk;
      missed =
          (λ h. absurd (false≢true (sym c.if-goal_in.false ∙ c.goal_in.ensures.1 h)));
    }

use Rattle.std.proofs.Common.{◌<◌, ◌≤◌, ◌∙◌, List, ℕ, length, get_or, sym, subst}
use Rattle.symk_task.specs.Plans.{Runs}
use Rattle.symk_task.specs.Steps.{Step, Applies, After}
use Rattle.std.proofs.lemmas.Bool.{false≢true}
use Rattle.std.proofs.lemmas.List.{take_all}
use Rattle.task_run.proofs.Running.{runs_none, runs_more}
use Rattle.task_run.proofs.run.run_plan.Goals as goal

pub loop-i-init : goal.loop-i-init
loop-i-init c = record {
  state = c.in_ok-state.ensures.state;
  valued = c.in_ok-values.ensures;
  runs = (c.in_ok-state.state, c.in_ok-state.ensures, runs_none c.args.task.now c.in_ok-state.state);
}

pub loop-i-preserved : goal.loop-i-preserved
loop-i-preserved c =
    let task = c.args.task.now in
    let p = c.args.plan.now in
    let i = c.loop-i.i in
    let next = c.in_ok-state-2.state in
    let lt : i < length p = subst (λ (q : List ℕ). i < length q) c.as_slice-numbers.ensures c.loop-i-test.true in
    let numbers = c.as_slice-numbers.result.now in
    let applies : Applies task c.loop-i.state (get_or numbers i 0) = c.applies_in.ensures.0 c.if-not-applies_in.false in
    let after : After task c.loop-i.state (get_or numbers i 0) next = c.in_ok-state-2.ensures.after in
    let one : Step task c.loop-i.state (get_or numbers i 0) next = (applies, after) in
    let step : Step task c.loop-i.state (get_or p i 0) next =
    subst (λ (q : List ℕ). Step task c.loop-i.state (get_or q i 0) next) c.as_slice-numbers.ensures one in
    let r = c.loop-i.invariant.runs in
    record {
      state = c.in_ok-state-2.ensures.state;
      valued = c.in_ok-values-2.ensures;
      runs = (r.0, r.1, runs_more task r.0 p i c.loop-i.state next lt r.2 step);
    }

pub returns-then-goal_in : goal.returns-then-goal_in
returns-then-goal_in c =
    let task = c.args.task.now in
    let p = c.args.plan.now in
    let r = c.loop-i.invariant.runs in
    let all : length p ≤ c.loop-i.i = subst (λ (q : List ℕ). length q ≤ c.loop-i.i) c.as_slice-numbers.ensures c.loop-i-test.false in
    let run = subst (λ (q : List ℕ). Runs task r.0 q c.loop-i.state) (take_all c.loop-i.i p all) r.2 in
    ((r.0, c.loop-i.state, r.1, run, c.goal_in.ensures.0 c.if-goal_in.true), c.plan_cost.ensures)

pub returns : goal.returns
returns c =
    let task = c.args.task.now in
    let p = c.args.plan.now in
    let r = c.loop-i.invariant.runs in
    let all : length p ≤ c.loop-i.i = subst (λ (q : List ℕ). length q ≤ c.loop-i.i) c.as_slice-numbers.ensures c.loop-i-test.false in
    let run = subst (λ (q : List ℕ). Runs task r.0 q c.loop-i.state) (take_all c.loop-i.i p all) r.2 in
    record { s = r.0; t = c.loop-i.state; initial = r.1; runs = run; missed = (λ h. absurd (false≢true (sym c.if-goal_in.false ∙ c.goal_in.ensures.1 h))) }

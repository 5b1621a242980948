use Rattle.std.proofs.Common.{◌++◌, List, ℕ, Bool, ap, ◌∙◌}
use Rattle.std.specs.Prelude.{codes}
use Rattle.std.specs.List.{flat_map}
use Rattle.symk_task.specs.Plans.{IsUnit, cost_of}
use Rattle.plan_out.specs.Texts.{numbered, ops_line, step_line, cost_line, is_unit, block}
use Rattle.plan_out.proofs.Growth.{step}
use Rattle.plan_out.proofs.Units.{unit_law, same_test}
use Rattle.plan_out.proofs.print.block_with_cost.Goals as goal

pub returns : goal.returns
unfolding block
returns c =
    let task = c.args.task.now in
    let p = c.args.plan.now in
    let t = c.new-text.result in
    let head = numbered (codes "; plan ") c.args.number in
    let ops = ops_line p in
    let steps = flat_map (step_line task) p in
    let last = cost_line (cost_of task p) (is_unit task) in
    let second = c.in_ok-push_operators.ensures ∙ ap (λ (x : List ℕ). c.push_numbered.new.text ++ ops_line x) c.as_slice.ensures in
    let third = c.in_ok-push_steps.ensures ∙ ap (λ (x : List ℕ). c.push_operators.new.text ++ flat_map (step_line task) x) c.as_slice-2.ensures in
    let same = same_test c.args.unit (is_unit task) (IsUnit task) c.requires.unit (unit_law task) in
    let fourth = c.in_ok-push_cost.ensures ∙ ap (λ (n : ℕ). c.push_steps.new.text ++ cost_line n c.args.unit) c.requires.cost
    ∙ ap (λ (u : Bool). c.push_steps.new.text ++ cost_line (cost_of task p) u) same in
    let whole = step t (head ++ ops ++ steps) last (step t (head ++ ops) steps (step t head ops c.in_ok-push_numbered.ensures second) third) fourth in
    c.into_vec.ensures ∙ whole ∙ ap (λ (x : List ℕ). x ++ (head ++ ops ++ steps ++ last)) c.new-text.ensures

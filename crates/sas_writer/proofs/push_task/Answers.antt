use Rattle.std.proofs.Common.{◌++◌}
use Rattle.sas_writer.specs.TaskLines.{head_lines, variables_lines, mutexes_lines, state_lines, goal_lines, operators_lines, rules_lines, task_lines}
use Rattle.sas_writer.proofs.Growth.{then, on_ok}
use Rattle.sas_writer.proofs.push_task.Goals as goal

pub returns-clause-text : goal.returns-clause-text
unfolding task_lines
returns-clause-text c =
    let t = c.args.text.now in
    let parts = c.args.parts.now in
    let head = head_lines parts.metric in
    let variables = variables_lines parts.variables in
    let mutexes = mutexes_lines parts.mutexes in
    let state = state_lines parts.initial in
    let goal = goal_lines parts.goal in
    let operators = operators_lines parts.operators in
    let to_variables = then t head variables c.in_ok-push_head.ensures c.in_ok-push_variables.ensures in
    let to_mutexes = then t (head ++ variables) mutexes to_variables c.in_ok-push_mutexes.ensures in
    let to_state = then t ((head ++ variables) ++ mutexes) state to_mutexes c.in_ok-push_state.ensures in
    let to_goal = then t (((head ++ variables) ++ mutexes) ++ state) goal to_state c.in_ok-push_goal.ensures in
    let to_operators = then t ((((head ++ variables) ++ mutexes) ++ state) ++ goal) operators to_goal c.in_ok-push_operators.ensures.lines in
    on_ok c.push_rules.result _ _ (λ e. then t (((((head ++ variables) ++ mutexes) ++ state) ++ goal) ++ operators)
    (rules_lines parts.rules) to_operators e) c.push_rules.ensures

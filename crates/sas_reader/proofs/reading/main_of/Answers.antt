use Rattle.std.proofs.Common.{arith}
use Rattle.sas_reader.proofs.Whole.{metric_read, variables_read, state_read}
use Rattle.sas_reader.proofs.reading.main_of.Goals as goal

pub groups_of-requires : goal.groups_of-requires
groups_of-requires c = rw c.as_slice.ensures (variables_read c.in_ok-metric.rest c.in_ok-variables.rest c.in_ok-variables.variables c.in_ok-variables.ensures)

pub state_of-requires : goal.state_of-requires
state_of-requires c = rw c.as_slice-2.ensures (variables_read c.in_ok-metric.rest c.in_ok-variables.rest c.in_ok-variables.variables c.in_ok-variables.ensures)

pub goal_of-requires : goal.goal_of-requires
goal_of-requires c = rw c.as_slice-3.ensures (variables_read c.in_ok-metric.rest c.in_ok-variables.rest c.in_ok-variables.variables c.in_ok-variables.ensures)

pub operators_of-requires : goal.operators_of-requires
operators_of-requires c = rw c.as_slice-4.ensures (variables_read c.in_ok-metric.rest c.in_ok-variables.rest
    c.in_ok-variables.variables c.in_ok-variables.ensures)

pub rules_of-requires-clause-known : goal.rules_of-requires-clause-known
rules_of-requires-clause-known c = rw c.as_slice-5.ensures (variables_read c.in_ok-metric.rest c.in_ok-variables.rest
    c.in_ok-variables.variables c.in_ok-variables.ensures)

pub rules_of-requires-clause-each : goal.rules_of-requires-clause-each
rules_of-requires-clause-each c =
    let e = rw c.as_slice-2.ensures at c.in_ok-initial.ensures in
    rw (c.as_slice-6.ensures, c.as_slice-5.ensures) (state_read c.in_ok-metric.rest c.in_ok-mutexes.rest
    c.in_ok-initial.rest c.in_ok-variables.rest c.in_ok-variables.variables c.in_ok-initial.initial
    c.in_ok-variables.ensures e)

pub overflow_cast-result : goal.overflow_cast-result
overflow_cast-result c = omega (arith, metric_read c.args.lines c.in_ok-metric.rest c.in_ok-metric.metric c.in_ok-metric.ensures)

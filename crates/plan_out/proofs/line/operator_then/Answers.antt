use Rattle.std.proofs.Common.{arith}
use Rattle.plan_out.proofs.OneOperator.{operator_found, operator_large, operator_missing}
use Rattle.plan_out.proofs.line.operator_then.Goals as goal

pub returns-in-Ok : goal.returns-in-Ok
returns-in-Ok c = rw c.in-Ok.ensures.1 (operator_found c.args.bytes.now c.in-Some.value c.in-Some.rest.now c.in-Some.ensures c.in-Ok.ensures.0)

pub returns-in-Err : goal.returns-in-Err
returns-in-Err c = operator_large c.args.bytes.now c.in-Some.value c.in-Some.rest.now c.in-Some.ensures (omega (arith, c.in-Err.ensures))

pub returns-in-None : goal.returns-in-None
returns-in-None c = operator_missing c.args.bytes.now c.in-None.ensures

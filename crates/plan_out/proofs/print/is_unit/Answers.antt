use Rattle.symk_task.specs.Plans.{IsUnit}
use Rattle.plan_out.specs.Texts.{is_unit}
use Rattle.plan_out.proofs.Units.{unit_law, same_test}
use Rattle.plan_out.proofs.print.is_unit.Goals as goal

pub returns : goal.returns
returns c = same_test c.unit.result (is_unit c.args.task.now) (IsUnit c.args.task.now) c.unit.ensures (unit_law c.args.task.now)

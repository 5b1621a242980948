use Rattle.std.proofs.Common.{◌∙◌, sym, subst}
use Rattle.task_system.specs.System.{System, IsSystemPlan}
use Rattle.plan_run.proofs.beginning.class_plans.Goals as goal

pub returns : goal.returns
returns g c =
    let e = c.in_ok-members.ensures in
    let new = c.new.ensures in
    record {
      serves = record { holds = new.lawful; of_task = new.system ∙ e.of_task; in_mode = new.mode; limited = new.most ∙ e.limited };
      all = λ p plan. (new.pends p).1 (subst (λ (y : System). IsSystemPlan y p) (sym e.of_task) plan);
    }

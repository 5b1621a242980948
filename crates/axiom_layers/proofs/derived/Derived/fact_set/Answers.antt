use Rattle.std.proofs.Common.{subst, List, ℕ}
use Rattle.symk_task.specs.declared.parts.TaskParts.{TaskParts}
use Rattle.task_run.specs.Values.{HasValue}
use Rattle.bdd_table.proofs.Adding.{ok_by}
use Rattle.axiom_layers.specs.Raising.{IsTrueExactlyWhere}
use Rattle.axiom_layers.proofs.Raised.{roots_kept, fact_holds}
use Rattle.axiom_layers.proofs.derived.Derived.fact_set.Goals as goal

pub returns-clause-meaning : goal.returns-clause-meaning
returns-clause-meaning c =
    let task = c.args.task.now in
    let o = c.args.order.now in
    let ys = c.value_set.new.ops in
    let roots = c.args.self.now in
    let are = roots_kept task o c.args.ops.now ys roots c.value_set.ensures.kept c.requires.roots in
    ok_by c.value_set.result _ _ c.value_set.ensures.meaning (λ id m. fact_holds task o ys roots c.args.fact id c.parts.ensures.fits are c.requires.fact
    (subst (λ (z : List ℕ). IsTrueExactlyWhere task o ys z (λ values. HasValue values c.args.fact) id) c.roots.ensures
    (subst (λ (z : TaskParts). IsTrueExactlyWhere z o ys c.roots.result.now (λ values. HasValue values c.args.fact) id)
    c.parts.ensures.value m)))

use Rattle.std.proofs.Common.{subst, List, ℕ}
use Rattle.std.specs.List.{All}
use Rattle.symk_task.specs.declared.parts.TaskParts.{TaskParts}
use Rattle.task_run.specs.Values.{HasValue}
use Rattle.bdd_table.proofs.Adding.{ok_by}
use Rattle.axiom_layers.specs.Raising.{IsTrueExactlyWhere}
use Rattle.axiom_layers.proofs.Raised.{roots_kept, facts_hold}
use Rattle.axiom_layers.proofs.derived.Derived.facts_set.Goals as goal

pub returns-clause-meaning : goal.returns-clause-meaning
returns-clause-meaning c =
    let task = c.args.task.now in
    let o = c.args.order.now in
    let ys = c.values_set.new.ops in
    let roots = c.args.self.now in
    let facts = c.args.facts.now in
    let are = roots_kept task o c.args.ops.now ys roots c.values_set.ensures.kept c.requires.roots in
    ok_by c.values_set.result _ _ c.values_set.ensures.meaning (λ id m. facts_hold task o ys roots facts id c.parts.ensures.fits are c.requires.facts
    (subst (λ (z : List ℕ). IsTrueExactlyWhere task o ys z (λ values. All (HasValue values) facts) id) c.roots.ensures
    (subst (λ (z : TaskParts). IsTrueExactlyWhere z o ys c.roots.result.now (λ values. All (HasValue values) facts) id)
    c.parts.ensures.value m)))

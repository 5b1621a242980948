use Rattle.std.proofs.Common.{◌∙◌, List, ap, subst}
use Rattle.std.specs.List.{All}
use Rattle.symk_task.specs.declared.parts.Fact.{Fact}
use Rattle.symk_task.specs.declared.parts.TaskParts.{TaskParts}
use Rattle.symk_task.specs.Steps.{Holds}
use Rattle.axiom_layers.specs.Roots.{IsTrueWhere}
use Rattle.cert_check.proofs.Answering.{goal_says}
use Rattle.cert_check.proofs.judging.meets_goal.Goals as goal

pub returns-clause-says : goal.returns-clause-says
returns-clause-says c =
    let task = c.args.task.now in
    let order = c.args.order.now in
    let says = subst (λ (facts : List Fact). IsTrueWhere task order c.facts_set.new.ops (λ s. All (Holds task s) facts) c.in_ok-goals.goals)
    (c.as_slice.ensures ∙ ap (λ (t : TaskParts). t.goal) c.parts.ensures.value) c.in_ok-goals.ensures.meaning in
    goal_says task order c.parts.ensures.fits c.requires.order c.args.members c.in_ok-goals.goals c.in_ok-met.met
    c.requires.members c.requires.set c.in_ok-goals.ensures.kept c.in_ok-met.ensures.reduced says c.in_ok-met.ensures.known c.in_ok-met.ensures.meaning

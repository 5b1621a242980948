use Rattle.std.proofs.Common.{◌∙◌, List, ap, subst}
use Rattle.std.specs.List.{All}
use Rattle.symk_task.specs.declared.parts.Fact.{Fact}
use Rattle.symk_task.specs.declared.parts.TaskParts.{TaskParts}
use Rattle.symk_task.specs.Steps.{Holds}
use Rattle.axiom_layers.specs.Roots.{IsTrueWhere}
use Rattle.bdd_space.proofs.Begun.{initial_state, own_begun}
use Rattle.bdd_space.proofs.building.own_sets.Goals as goal

pub state_set-requires : goal.state_set-requires
state_set-requires c = initial_state c.args.task.now c.args.order.now c.parts.ensures.fits c.requires.order c.args.initial.now c.requires.initial

pub returns-clause-are : goal.returns-clause-are
returns-clause-are c =
    let task = c.args.task.now in
    let order = c.args.order.now in
    let says = subst (λ (facts : List Fact). IsTrueWhere task order c.facts_set.new.ops (λ s. All (Holds task s) facts) c.in_ok-facts.facts)
    (c.as_slice.ensures ∙ ap (λ (t : TaskParts). t.goal) c.parts.ensures.value) c.in_ok-facts.ensures.meaning in
    own_begun task order c.parts.ensures.fits c.requires.order c.facts_set.new.ops c.valid_set.new.ops
    c.state_set.new.ops c.in_ok-facts.facts c.requires.initial (record {
      second = c.in_ok-all.ensures.kept;
      third = c.in_ok-start.ensures.kept;
      last = c.in_ok-goals.ensures.kept;
      facts_known = c.in_ok-facts.ensures.known;
      holds = says;
      all_known = c.in_ok-all.ensures.known;
      all = c.in_ok-all.ensures.meaning;
      start_known = c.in_ok-start.ensures.known;
      start = c.in_ok-start.ensures.meaning;
      goals_known = c.in_ok-goals.ensures.known;
      goals = c.in_ok-goals.ensures.meaning;
    })

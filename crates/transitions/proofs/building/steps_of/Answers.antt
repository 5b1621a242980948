use Rattle.std.proofs.Common.{◌≡◌, ◌∙◌, ◌&&◌, ◌↔◌, Bool, List, true, ap, subst}
use Rattle.std.specs.List.{All}
use Rattle.symk_task.specs.declared.parts.Effect.{Effect}
use Rattle.bdd_table.specs.Diagram.{means}
use Rattle.bdd_table.proofs.Adding.{ok_by}
use Rattle.axiom_layers.specs.Roots.{EachState}
use Rattle.transitions.specs.NextValues.{Arrives}
use Rattle.transitions.proofs.StepsLaw.{AreParts, steps_law}
use Rattle.transitions.proofs.building.steps_of.Goals as goal

pub returns-clause-meaning : goal.returns-clause-meaning
returns-clause-meaning c = ok_by c.conj-2.result _ _ c.conj-2.ensures.meaning (λ id m.
    let task = c.args.task.now in
    let order = c.args.order.now in
    let operator = c.args.operator.now in
    let valid = means c.valid_set.new.ops c.in_ok-valid.valid in
    let applies = means c.applies_set.new.ops c.in_ok-applies.applies in
    let next = means c.next_values.new.ops c.in_ok-next.next in
    let parts : AreParts task order operator valid applies next = record {
      is_valid = c.in_ok-valid.ensures.meaning;
      is_applies = c.in_ok-applies.ensures.meaning;
      is_next = subst (λ (effects : List Effect). EachState task order (λ s b. (next b ≡ true) ↔ All
          (λ (e : Effect). Arrives task order effects e.var s b) effects)) c.as_slice.ensures
          c.in_ok-next.ensures.meaning;
    } in
    steps_law (means c.conj-2.new.self id) c.requires.order parts
    (λ b. m b ∙ ap (λ (t : Bool). t && next b)
    (c.in_ok-next.ensures.kept.meaning c.in_ok-from.from b c.in_ok-from.ensures.known
    ∙ c.in_ok-from.ensures.meaning b
    ∙ ap (λ (t : Bool). t && applies b) (c.in_ok-applies.ensures.kept.meaning c.in_ok-valid.valid b c.in_ok-valid.ensures.known))))

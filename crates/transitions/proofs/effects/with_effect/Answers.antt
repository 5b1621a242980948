use Rattle.std.proofs.Common.{◌∙◌, ap, sym, subst, arith, List, Bool, cond}
use Rattle.std.specs.List.{All}
use Rattle.symk_task.specs.declared.parts.Fact.{Fact}
use Rattle.symk_task.specs.Steps.{Holds}
use Rattle.bdd_table.specs.Diagram.{means}
use Rattle.bdd_table.proofs.Adding.{ok_by}
use Rattle.axiom_layers.specs.Roots.{IsTrueWhere}
use Rattle.transitions.proofs.Asking.{IsChoice, effect_chosen}
use Rattle.transitions.proofs.effects.with_effect.Goals as goal

pub returns-clause-turn : goal.returns-clause-turn
returns-clause-turn c = ok_by c.choice.result _ _ c.choice.ensures.meaning (λ id m s b state code.
    let task = c.args.task.now in
    let order = c.args.order.now in
    let effect = c.args.effect.now in
    let fires = c.in_ok-fires.fires in
    let at = subst (λ (facts : List Fact). IsTrueWhere task order c.facts_set.new.ops (λ s. All (Holds task s) facts)
    fires) c.as_slice.ensures c.in_ok-fires.ensures.meaning s b state code in
    let moved = c.in_ok-post.ensures.kept.meaning fires b c.in_ok-fires.ensures.known in
    let asked = c.in_ok-post.ensures.kept.meaning c.args.asked b
    (let k = c.in_ok-fires.ensures.kept.known in let l = c.requires.asked in omega (arith, k, l))
    ∙ c.in_ok-fires.ensures.kept.meaning c.args.asked b c.requires.asked in
    let fires_now = means c.next_fact_set.new.ops fires b in
    let post = means c.next_fact_set.new.ops c.in_ok-post.post b in
    let old = means c.args.ops.now c.args.asked b in
    let new = means c.choice.new.ops id b in
    let choice : IsChoice order effect c.args.var b fires_now old new = record {
      post = post;
      is = c.in_ok-post.ensures.meaning b;
      chosen = m b ∙ ap (λ (x : Bool). cond fires_now post x) asked;
    } in
    effect_chosen task s fires_now c.if-effect-var.false ((λ h. at.0 (sym moved ∙ h)), (λ f. moved ∙ at.1 f)) choice)

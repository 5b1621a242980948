use Rattle.std.proofs.Common.{◌∙◌, eqb, ap, sym, subst}
use Rattle.var_order.specs.Codes.{number}
use Rattle.var_order.specs.declared.block.Block.{Block}
use Rattle.bdd_table.proofs.Adding.{ok_by}
use Rattle.bdd_sets.proofs.OfStates.{next_fact_by_states}
use Rattle.bdd_sets.proofs.Room.{HasRoom, variable_room}
use Rattle.bdd_sets.proofs.sets.next_fact_set.Goals as goal

pub value_is-requires-clause-width : goal.value_is-requires-clause-width
value_is-requires-clause-width c = (subst HasRoom (sym c.block_of-block.ensures.is)
    (variable_room c.args.order.now c.block_of-block.ensures.layout c.args.fact.var)).width

pub value_is-requires-clause-place : goal.value_is-requires-clause-place
value_is-requires-clause-place c = (subst HasRoom (sym c.block_of-block.ensures.is)
    (variable_room c.args.order.now c.block_of-block.ensures.layout c.args.fact.var)).place

pub returns-clause-meaning : goal.returns-clause-meaning
returns-clause-meaning c = ok_by c.value_is.result _ _ c.value_is.ensures.meaning
    (λ id m b. m b ∙ ap (λ (x : Block). eqb (number b 1 x.first x.width) c.args.fact.val)
    c.block_of-block.ensures.is)

pub returns-clause-states : goal.returns-clause-states
returns-clause-states c = ok_by c.value_is.result _ _ (returns-clause-meaning c)
    (λ id m. next_fact_by_states c.args.order.now c.value_is.new.ops id c.args.fact.var c.args.fact.val
    c.block_of-block.ensures.layout c.requires m)

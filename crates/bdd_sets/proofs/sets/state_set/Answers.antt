use Rattle.std.proofs.Common.{◌≡◌, ◌-◌, ◌∙◌, List, length, ap, arith}
use Rattle.var_order.specs.declared.block.Block.{Block}
use Rattle.bdd_sets.proofs.OfStates.{state_of_states}
use Rattle.bdd_sets.proofs.Room.{room_there}
use Rattle.bdd_sets.proofs.Conjunctions.{conj_none, conj_more}
use Rattle.bdd_sets.proofs.Spelled.{spells, spells_there, all_spell, through}
use Rattle.bdd_sets.proofs.sets.state_set.Goals as goal

pub loop-slot-init : goal.loop-slot-init
loop-slot-init c = conj_none (spells c.args.order.now c.args.state.now) c.args.ops.now
    (length c.args.order.now.blocks) (length c.blocks-blocks.result.now) c.table.ensures.reduced
    (ap (λ (xs : List Block). length xs) c.blocks-blocks.ensures.are)

pub loop-slot-preserved : goal.loop-slot-preserved
loop-slot-preserved c =
    let o = c.args.order.now in
    let i = c.loop-slot.slot - 1 in
    let blocks = c.blocks-blocks.result.now in
    let all_blocks : length blocks ≡ length o.blocks = ap (λ (xs : List Block). length xs) c.blocks-blocks.ensures.are in
    conj_more c.loop-slot.invariant
    (record {
      tested_kept = c.in_ok-value.ensures.kept;
      tested_known = c.in_ok-value.ensures.known;
      tested = λ b. c.in_ok-value.ensures.meaning b ∙ spells_there o c.args.state.now blocks
          c.as_slice-values.result.now b i c.blocks-blocks.ensures.are c.as_slice-values.ensures;
      joined_kept = c.in_ok-all.ensures.kept;
      reduced = c.in_ok-all.ensures.reduced;
      known = c.in_ok-all.ensures.known;
      joined = c.in_ok-all.ensures.meaning;
    })
    (let t = c.loop-slot-test.true in omega (arith, t))
    (let t = c.loop-slot-test.true in let a = c.loop-slot.auto.slot in omega (arith, t, a, all_blocks))

pub value_is-requires-clause-width : goal.value_is-requires-clause-width
value_is-requires-clause-width c = (room_there c.args.order.now c.blocks-blocks.result.now (c.loop-slot.slot - 1)
    c.blocks-blocks.ensures.layout c.blocks-blocks.ensures.are).width

pub value_is-requires-clause-place : goal.value_is-requires-clause-place
value_is-requires-clause-place c = (room_there c.args.order.now c.blocks-blocks.result.now (c.loop-slot.slot - 1)
    c.blocks-blocks.ensures.layout c.blocks-blocks.ensures.are).place

pub returns-clause-meaning : goal.returns-clause-meaning
returns-clause-meaning c = λ b. through (c.loop-slot.invariant.meaning b)
    (all_spell c.args.order.now c.args.state.now b c.loop-slot.slot c.loop-slot-test.false c.requires.each)

pub returns-clause-of_states : goal.returns-clause-of_states
returns-clause-of_states c = state_of_states c.args.order.now c.loop-slot.ops c.loop-slot.all c.args.state.now
    c.blocks-blocks.ensures.layout (returns-clause-meaning c)

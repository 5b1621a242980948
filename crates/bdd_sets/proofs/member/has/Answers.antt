use Rattle.std.proofs.Common.{◌≡◌, ◌∙◌, ◌<◌, List, length, subst}
use Rattle.bdd_table.specs.declared.node.Node.{Node}
use Rattle.bdd_sets.specs.Sets.{only_state_bits}
use Rattle.bdd_sets.proofs.Members.{went_hi, went_lo, walked, walked_states}
use Rattle.bdd_sets.proofs.member.has.Goals as goal

pub loop-id-preserved-then-bit_at : goal.loop-id-preserved-then-bit_at
loop-id-preserved-then-bit_at c =
    let same : c.table-table.result.now ≡ c.args.ops.now = c.table-table.ensures.same in
    record {
      known = subst (λ (xs : List Node). c.hi-id.result < length xs) same c.hi-id.ensures.known;
      same = λ b code. c.loop-id.invariant.same b code
          ∙ went_hi (only_state_bits c.args.order.now b) c.loop-id.id c.level.result
          c.hi-id.result same c.table-table.ensures.reduced c.loop-id.invariant.known c.level.ensures
          (c.bit_at.ensures b code ∙ c.if-bit_at.true) c.hi-id.ensures.value;
    }

pub loop-id-preserved : goal.loop-id-preserved
loop-id-preserved c =
    let same : c.table-table.result.now ≡ c.args.ops.now = c.table-table.ensures.same in
    record {
      known = subst (λ (xs : List Node). c.lo-id.result < length xs) same c.lo-id.ensures.known;
      same = λ b code. c.loop-id.invariant.same b code
          ∙ went_lo (only_state_bits c.args.order.now b) c.loop-id.id c.level.result
          c.lo-id.result same c.table-table.ensures.reduced c.loop-id.invariant.known c.level.ensures
          (c.bit_at.ensures b code ∙ c.if-bit_at.false) c.lo-id.ensures.value;
    }

pub returns-clause-bits : goal.returns-clause-bits
returns-clause-bits c = walked c.args.order.now c.args.ops.now c.args.set c.loop-id.id c.args.state.now
    c.table-table.ensures.reduced c.loop-id-test.false c.loop-id.invariant.same

pub returns-clause-states : goal.returns-clause-states
returns-clause-states c = walked_states c.args.order.now c.args.ops.now c.args.set c.args.state.now _ c.blocks-2.ensures.layout c.requires.state
    (walked c.args.order.now c.args.ops.now c.args.set c.loop-id.id c.args.state.now c.table-table.ensures.reduced
    c.loop-id-test.false c.loop-id.invariant.same)

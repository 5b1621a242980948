use Rattle.std.proofs.Common.{◌<◌, ℕ, List, length, get_or, refl, sym, ap, subst, arith}
use Rattle.var_order.specs.declared.block.Block.{Block}
use Rattle.var_order.specs.Layout.{no_block}
use Rattle.bdd_sets.proofs.Children.{can_pass}
use Rattle.bdd_sets.proofs.Descending.{Descends, descends_more}
use Rattle.bdd_sets.proofs.occurring.walk.Goals as goal

pub pass-requires-clause-room : goal.pass-requires-clause-room
pass-requires-clause-room c =
    let o = c.args.order.now in
    let slot = get_or c.args.slots.now c.slots.slot-index 0 in
    let lt : slot < length o.blocks = c.requires.slots c.slots.slot-index 0 c.slots-test.true in
    can_pass o slot (get_or c.args.starts.now slot 0) (get_or c.blocks-blocks.result.now slot no_block) c.blocks-blocks.ensures.layout lt
    (ap (λ (bs : List Block). get_or bs slot no_block) c.blocks-blocks.ensures.are)
    (c.requires.starts.below slot (let e = c.requires.starts.each in omega (arith, e, lt)))

pub slots-preserved : goal.slots-preserved
slots-preserved c =
    let o = c.args.order.now in
    let nodes = c.args.table.now in
    let starts = c.args.starts.now in
    let slots = c.args.slots.now in
    let n = c.slots.slot-index in
    let slot = get_or slots n 0 in
    let old = c.slots.marks.items in
    let before = subst (λ (ids : List ℕ). Descends o nodes c.args.set starts slots ids old n) (sym c.deref.ensures.value) c.slots.invariant in
    rw c.swap.ensures.x_after (descends_more o nodes c.args.set starts slots slot
    (c.requires.slots n 0 c.slots-test.true) refl refl (ap (λ (bs : List Block). get_or bs slot no_block)
    c.blocks-blocks.ensures.are) before c.in_ok-pass.ensures)

use Rattle.std.proofs.Common.{sym, ◌<◌, ◌^◌, arith}
use Rattle.symk_cli.proofs.Continued.{gathered_next}
use Rattle.symk_cli.proofs.continuing.earlier_of.Goals as goal

pub each-preserved : goal.each-preserved
each-preserved c =
    let i = c.each.invariant in
    let blocks = c.args.blocks.now.list in
    let at = c.each.block-index in
    let block = c.block-item.result in
    let within = rw c.as_slice-block-items.ensures at c.each-test.true in
    let is = rw c.as_slice-block-items.ensures at c.block-item.is in
    let small : block.cost < 2 ^ 64 = omega arith in
    let m = gathered_next blocks at block within (sym is) small c.in_ok-copy.ensures c.in_ok-push.ensures.items
    (record { gathered = i.gathered; last = i.last; cheap = i.cheap; held = i.held }) in
    record { gathered = m.gathered; last = m.last; cheap = m.cheap; held = m.held }

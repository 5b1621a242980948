use Rattle.std.proofs.Common.{◌+◌, ◌<◌, ◌^◌, length, sym, ◌∙◌, arith}
use Rattle.std.proofs.lemmas.Result.{err_from_is_err_and}
use Rattle.plan_out.proofs.Spaced.{is_some}
use Rattle.plan_out.proofs.WholeText.{begun_more, block_shorter, ended_plans, ended_refuses, block_refuses}
use Rattle.plan_out.proofs.read.blocks_of.Goals as goal

pub returns-then-begins_with_end-clause-plans : goal.returns-then-begins_with_end-clause-plans
returns-then-begins_with_end-clause-plans c =
    let there = rw c.as_slice.ensures at c.begins_with_end.ensures in
    ended_plans c.args.lines c.loop-rest.list c.loop-rest.rest c.ended.result c.ended.ensures (sym there ∙ c.if-begins_with_end.true) c.loop-rest.invariant

pub returns-then-begins_with_end-clause-offence : goal.returns-then-begins_with_end-clause-offence
returns-then-begins_with_end-clause-offence c =
    let there = rw c.as_slice.ensures at c.begins_with_end.ensures in
    ended_refuses c.args.lines c.loop-rest.list c.loop-rest.rest c.ended.result c.ended.ensures (sym there ∙ c.if-begins_with_end.true) c.loop-rest.invariant

pub returns-in_err-block-clause-offence : goal.returns-in_err-block-clause-offence
returns-in_err-block-clause-offence c =
    let p = err_from_is_err_and c.from_residual.result c.from_residual.ensures.1 in
    let there = rw c.as_slice.ensures at c.begins_with_end.ensures in
    let fails = rw c.as_slice.ensures at c.in_err-block.ensures in
    let small : length c.loop-rest.list + 1 < 2 ^ 64 = rw (← c.as_slice.ensures) (omega arith) in
    rw (p.1, p.2) (block_refuses c.args.lines c.loop-rest.list c.loop-rest.rest c.in_err-block.field-0.0 small
    (is_some (length c.loop-rest.rest) (sym c.is_empty.ensures ∙ c.loop-rest-test.true)) (sym there ∙ c.if-begins_with_end.false) fails c.loop-rest.invariant)

pub loop-rest-smaller : goal.loop-rest-smaller
loop-rest-smaller c = block_shorter (length c.as_slice.result.now + 1) c.loop-rest.rest c.in_ok-block.block
    c.in_ok-block.after (omega arith) c.in_ok-block.ensures

pub loop-rest-preserved : goal.loop-rest-preserved
loop-rest-preserved c =
    let read = rw c.as_slice.ensures at c.in_ok-block.ensures in
    let small : length c.loop-rest.list + 1 < 2 ^ 64 = rw (← c.as_slice.ensures) (omega arith) in
    rw c.in_ok-push.ensures.ok (begun_more c.args.lines c.loop-rest.list c.loop-rest.rest c.in_ok-block.block
    c.in_ok-block.after small read c.loop-rest.invariant)

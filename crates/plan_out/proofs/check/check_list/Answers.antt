use Rattle.std.proofs.Common.{◌+◌, List, length, take, subst, arith}
use Rattle.plan_out.specs.declared.blocks.ReadBlock.{ReadBlock}
use Rattle.plan_out.specs.declared.check.Checked.TheVariants.{Good, Bad}
use Rattle.plan_out.specs.Fails.{IsFirstReason, Finds}
use Rattle.plan_out.specs.Checks.{IsSeen}
use Rattle.plan_out.proofs.Checking.{count_before, before_more, none_more, found_bad, found_good}
use Rattle.plan_out.proofs.check.check_list.Goals as goal

pub loop-i-init : goal.loop-i-init
loop-i-init c = record {
  seen = c.new-seen.ensures c.args.mode;
  good = (λ k why below fails. absurd (omega (arith, below)));
}

pub returns-in-Some : goal.returns-in-Some
returns-in-Some c =
    let task = c.args.task.now in
    let mode = c.args.mode in
    let blocks = c.as_slice-blocks.result.now in
    let i = c.loop-i.i in
    let b = c.index-blocks-i.result in
    let reason : IsFirstReason task mode (take i blocks) b c.in-Some.why =
    (rw c.in-Some.is at c.in_ok-why.ensures.next) (take i blocks) c.loop-i.invariant.seen (count_before blocks i c.loop-i-test.true) in
    subst (λ (bs : List ReadBlock). Finds task mode bs (Bad (i + 1) c.in-Some.why)) c.as_slice-blocks.ensures
    (found_bad task mode blocks i b c.in-Some.why c.loop-i-test.true c.index-blocks-i.is c.loop-i.invariant.good reason)

pub loop-i-preserved : goal.loop-i-preserved
loop-i-preserved c =
    let task = c.args.task.now in
    let mode = c.args.mode in
    let blocks = c.as_slice-blocks.result.now in
    let i = c.loop-i.i in
    let b = c.index-blocks-i.result in
    let both = (rw c.in-None.is at c.in_ok-why.ensures.next) (take i blocks) c.loop-i.invariant.seen (count_before blocks i c.loop-i-test.true) in
    record {
      seen = subst (λ (bs : List ReadBlock). IsSeen mode bs c.check_next.new.seen) (before_more blocks i b c.loop-i-test.true c.index-blocks-i.is) both.1;
      good = none_more task mode blocks i b c.in_ok-why.ensures.fits c.loop-i-test.true c.index-blocks-i.is c.loop-i.invariant.good both.0;
    }

pub returns : goal.returns
returns c =
    let task = c.args.task.now in
    let blocks = c.as_slice-blocks.result.now in
    subst (λ (bs : List ReadBlock). Finds task c.args.mode bs (Good (length blocks))) c.as_slice-blocks.ensures
    (found_good task c.args.mode blocks c.loop-i.i c.loop-i-test.false c.loop-i.invariant.good)

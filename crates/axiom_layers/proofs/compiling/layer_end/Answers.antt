use Rattle.std.proofs.Common.{arith}
use Rattle.task_run.specs.declared.counting.Counting.{Counting}
use Rattle.task_run.proofs.Bucketing.{same_more}
use Rattle.axiom_layers.proofs.compiling.layer_end.Goals as goal

pub same-preserved : goal.same-preserved
same-preserved c =
    let none : Counting = record { layer = 0; rule = 0 } in
    let inv = c.same.invariant in
    record {
      rising = omega (arith, inv.rising);
      within = omega (arith, c.same-test.true);
      same = same_more c.args.rules.now c.same.end none c.same-test.true c.args.from c.if-rules-end.true inv.same;
    }

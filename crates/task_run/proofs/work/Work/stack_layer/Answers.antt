use Rattle.std.proofs.Common.{◌≡◌, ◌++◌, [], ◌∷◌, get_or, arith}
use Rattle.task_run.specs.declared.counting.Counting.{Counting}
use Rattle.task_run.proofs.Bucketing.{same_more, stacked_more, only_more}
use Rattle.task_run.proofs.work.Work.stack_layer.Goals as goal

pub same-preserved : goal.same-preserved
same-preserved c =
    let rules = c.args.rules.now in
    let end = c.same.end in
    let old = c.same.self.stack.items in
    let zero_counting : Counting = record { layer = 0; rule = 0 } in
    let items : c.push.new.self.items ≡ old ++ (get_or rules end zero_counting).rule ∷ [] = c.in_ok-push.ensures.items in
    let inv = c.same.invariant in
    record {
      rising = omega (arith, inv.rising);
      within = omega (arith, c.same-test.true);
      same = same_more rules end zero_counting c.same-test.true c.args.from c.if-rules-end.true inv.same;
      stacked = rw items (stacked_more rules end zero_counting c.same-test.true old c.args.from inv.stacked);
      only = rw items (only_more rules end zero_counting c.same-test.true c.args.self.now.stack.items old inv.only);
      waiting = inv.waiting;
      places = inv.places;
    }

use Rattle.std.proofs.Common.{◌≡◌, ◌<◌, ◌++◌, List, [], ◌∷◌, length, subst}
use Rattle.symk_task.specs.declared.parts.Rule.{Rule}
use Rattle.task_run.proofs.Placing.{rule_at}
use Rattle.task_run.proofs.Bucketing.{counting_one, each_one, each_same}
use Rattle.task_run.proofs.counting.counting_rules.Goals as goal
use Rattle.task_run.proofs.counting.counting_rules.Goals.{in-Some+in_ok-push, in_default}

pub loop-i-preserved : goal.loop-i-preserved
loop-i-preserved c =
    let task = c.args.parts.now in
    let i = c.loop-i.i in
    let rule = c.index-rules-i.result in
    let old = c.loop-i.counting.items in
    let lt : i < length task.rules = subst (λ (z : List Rule). i < length z) c.as_slice-rules.ensures c.loop-i-test.true in
    let r = rule_at task c.as_slice-rules.result.now i rule c.requires c.as_slice-rules.ensures lt c.index-rules-i.is in
    elim c.match-counting_layer.branch [
      | in-Some+in_ok-push w ↦ (
          let layer = w.in-Some.layer in
          let items : c.match-counting_layer.counting.items ≡ old ++ record { layer = layer; rule = i } ∷ [] = rw w.counting-is w.in_ok-push.ensures.items in
          record {
            counting = rw items (counting_one task old i layer rule r.at w.in-Some.ensures c.loop-i.invariant.counting);
            each = rw items (each_one task old i layer rule r.at w.in-Some.ensures c.loop-i.invariant.each);
          })
      | in_default w ↦ record {
        counting = rw w.counting-is c.loop-i.invariant.counting;
        each = rw w.counting-is (each_same task old i rule r.at w.in_default.ensures c.loop-i.invariant.each);
      }
    ]

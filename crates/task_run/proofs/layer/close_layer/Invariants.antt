use Rattle.std.proofs.Common.{◌≡◌, length}
use Rattle.task_run.specs.Layer.{Grows, at_default}
use Rattle.task_run.specs.Work.{AllPlaced, KeptRules, Passed}
use Rattle.task_run.proofs.layer.close_layer.Given as goal

abbrev pub invariant-raised : goal.invariant-raised
invariant-raised l = record {
  each : length l.values.items ≡ length l.fn.values.items;
  grows : Grows l.parts l.layer l.fn.values.items l.values.items;
  kept : KeptRules l.parts l.work.stack.items l.work.waiting.items;
  placed : AllPlaced l.parts l.layer l.values.items l.work.stack.items l.work.waiting.items;
  passed : Passed l.parts l.layer l.values.items l.work.places.items;
}

abbrev pub decreases-raised : goal.decreases-raised
decreases-raised l = at_default l.parts.initial l.values.items

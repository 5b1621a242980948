use Rattle.std.proofs.Common.{length}
use Rattle.task_run.specs.Work.{AllPlaced, KeptRules, Passed}
use Rattle.task_run.proofs.layer.next_raising.Given as goal

abbrev pub invariant-looking : goal.invariant-looking
invariant-looking l = record {
  kept : KeptRules l.parts l.work.stack.items l.work.waiting.items;
  placed : AllPlaced l.parts l.layer l.values l.work.stack.items l.work.waiting.items;
  passed : Passed l.parts l.layer l.values l.work.places.items;
}

abbrev pub decreases-looking : goal.decreases-looking
decreases-looking l = length l.work.stack.items

use Rattle.std.proofs.Common.{◌≤◌, length}
use Rattle.prefix_tree.specs.Entries.{queued_entries}
use Rattle.prefix_plans.specs.Leading.{DropsHopeless}
use Rattle.prefix_plans.proofs.range.some_goes_on.Given as goal

abbrev pub invariant-entries : goal.invariant-entries
invariant-entries g l = record {
  drops : DropsHopeless (g.S.Space.view l.space).system l.tree (queued_entries l.fn.queue) (queued_entries l.queue);
  steps : l.fn.steps ≤ l.steps;
}

abbrev pub decreases-entries : goal.decreases-entries
decreases-entries g l = length (queued_entries l.queue)

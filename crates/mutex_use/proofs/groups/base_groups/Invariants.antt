use Rattle.std.proofs.Common.{ℕ, ◌<◌, ◌↔◌, Contains}
use Rattle.std.specs.List.Sorted.{IsStrictlyIncreasing}
use Rattle.mutex_use.specs.Groups.{AreBaseFacts, mutex_group_at}
use Rattle.mutex_use.proofs.groups.base_groups.Given as goal

abbrev pub invariant-groups : goal.invariant-groups
invariant-groups l = record {
  each : (g : ℕ) → Contains l.groups.items g ↔ ((g < l.group) × AreBaseFacts l.task (mutex_group_at l.task g));
  rising : IsStrictlyIncreasing l.groups.items;
}

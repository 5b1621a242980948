use Rattle.std.proofs.Common.{◌≡◌, ◌<◌, ◌-◌, ℕ, true, length, slice_index}
use Rattle.bdd_table.specs.Collected.{MarkedFrom, is_marked_id, Reaches}
use Rattle.bdd_table.proofs.marks.mark.Given as goal

abbrev pub invariant-roots : goal.invariant-roots
invariant-roots l = record {
  as_long : length l.marks.items ≡ length l.table;
  roots_marked : (i : ℕ) → i < l.root-index → is_marked_id l.marks.items (slice_index l.roots i) ≡ true;
  only : (id : ℕ) → is_marked_id l.marks.items id ≡ true → Reaches l.table l.roots id;
}

abbrev pub invariant-nodes : goal.invariant-nodes
invariant-nodes l = MarkedFrom l.table l.roots l.marks.items (l.count - l.step)

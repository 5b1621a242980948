use Rattle.std.proofs.Common.{◌≡◌, ◌<◌, ◌≤◌, ◌+◌, ℕ, get_or}
use Rattle.transitions.specs.declared.relations.Relation.{Relation}
use Rattle.trans_merge.specs.Roots.{with_new_root}
use Rattle.trans_merge.proofs.roots.put_roots.Given as goal

abbrev pub invariant-loop-relation : goal.invariant-loop-relation
invariant-loop-relation l = record {
  at : l.place ≡ l.from + l.relation-index;
  before : (i : ℕ) (d : Relation) → i < l.relation-index → get_or l.relations i d ≡ with_new_root (get_or l.fn.relations i d) (get_or l.roots (l.from + i) 0);
  behind : (i : ℕ) (d : Relation) → l.relation-index ≤ i → get_or l.relations i d ≡ get_or l.fn.relations i d;
}

-- The relations of a task stay so as the table grows, and as their roots are moved.
use Rattle.std.proofs.Common.{ℕ, ◌+◌, List, length, get_or, arith}
use Rattle.std.specs.List.{All, slice_range}
use Rattle.symk_task.specs.declared.parts.TaskParts.{TaskParts}
use Rattle.symk_task.specs.Steps.{Step}
use Rattle.bdd_table.specs.declared.node.Node.{Node}
use Rattle.bdd_table.specs.Diagram.{Keeps}
use Rattle.var_order.specs.Layout.{Layout}
use Rattle.transitions.specs.declared.relations.Relation.{Relation}
use Rattle.trans_merge.specs.Merging.{IsRelation}
use Rattle.trans_merge.specs.declared.relations.OperatorRelations.{OperatorRelations}
use Rattle.trans_merge.specs.Steps.{StepOfCost}
use Rattle.trans_merge.specs.Gathered.{AreSingle, AreJoined}
use Rattle.trans_merge.specs.Relations.{AreRelationsOf}
use Rattle.trans_merge.proofs.Moving.{AllMoved, moved_length, moved_at, moved_range, all_moved, has_moved, have_moved, kept_moved}

-- the relations, with these in place of them
abbrev pub with_relations : OperatorRelations → OperatorRelations → OperatorRelations
with_relations r q = record r { single = q.single; joined = q.joined }

module _ (task : TaskParts) (o : Layout) (old new : List Node) where
  pub single_moved : (rs qs : List Relation) → AllMoved old new rs qs → AreSingle task o old rs → AreSingle task o new qs
  single_moved rs qs m is =
      let count = moved_length old new rs qs m in
      let number = is.operators in
      record {
        operators = omega (arith, count, number);
        each = λ op d lt. has_moved old new o (λ s t. Step task s op t) (get_or rs op d) (get_or qs op d)
            (moved_at old new rs qs op d d m (omega (arith, number, lt))) (is.each op d lt);
      }

  pub joined_moved : (costs : List ℕ) (n : ℕ) (starts : List ℕ) (rs qs : List Relation) → AllMoved old new rs qs
      → AreJoined task o old costs n starts rs → AreJoined task o new costs n starts qs
  joined_moved costs n starts rs qs m is =
      let count = moved_length old new rs qs m in
      record {
        count = is.count;
        rising = is.rising;
        within = λ i le. (let w = is.within i le in omega (arith, w, count));
        last = (let e = is.last in omega (arith, e, count));
        all = all_moved old new o rs qs m is.all;
        each = λ i lt. have_moved old new o (StepOfCost task (get_or costs i 0))
            (slice_range rs (get_or starts i 0) (get_or starts (i + 1) 0))
            (slice_range qs (get_or starts i 0) (get_or starts (i + 1) 0))
            (moved_range old new (get_or starts i 0) (get_or starts (i + 1) 0) rs qs m) (is.each i lt);
      }

  pub relations_moved : (r q : OperatorRelations) → AllMoved old new r.single.items q.single.items
      → AllMoved old new r.joined.items q.joined.items → AreRelationsOf task o old r
      → AreRelationsOf task o new (with_relations r q)
  relations_moved r q single joined is = record {
    order = is.order;
    costs = is.costs;
    single = single_moved r.single.items q.single.items single is.single;
    joined = joined_moved r.costs.items (length r.costs.items) r.starts.items r.joined.items q.joined.items joined is.joined;
  }

  -- each operator's own relation is one
  pub single_relations : (rs : List Relation) → AreSingle task o old rs → All (IsRelation o old) rs
  single_relations rs is i d lt = (let has = is.each i d (let e = is.operators in omega (arith, e, lt)) in has.relation)

  pub single_kept : (rs : List Relation) → Keeps old new → AreSingle task o old rs → AreSingle task o new rs
  single_kept rs k is = single_moved rs rs (kept_moved old new o rs k (single_relations rs is)) is

  pub joined_kept : (costs : List ℕ) (n : ℕ) (starts : List ℕ) (rs : List Relation) → Keeps old new
      → AreJoined task o old costs n starts rs → AreJoined task o new costs n starts rs
  joined_kept costs n starts rs k is = joined_moved costs n starts rs rs (kept_moved old new o rs k is.all) is

  -- the table grew
  pub relations_kept : (r : OperatorRelations) → Keeps old new → AreRelationsOf task o old r → AreRelationsOf task o new r
  relations_kept r k is = relations_moved r r (kept_moved old new o r.single.items k
      (single_relations r.single.items is.single)) (kept_moved old new o r.joined.items k is.joined.all) is

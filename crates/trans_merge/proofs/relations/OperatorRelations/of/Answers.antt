use Rattle.std.proofs.Common.{ℕ, List, length, sym, subst}
use Rattle.transitions.specs.declared.relations.Relation.{Relation}
use Rattle.trans_merge.specs.Gathered.{AreSingle, AreJoined}
use Rattle.trans_merge.specs.Halves.{AreHalved}
use Rattle.trans_merge.proofs.Kept.{single_kept}
use Rattle.trans_merge.proofs.relations.OperatorRelations.of.Goals as goal

pub single_relations-requires : goal.single_relations-requires
single_relations-requires c = c.requires

pub joined_by_cost-requires : goal.joined_by_cost-requires
joined_by_cost-requires c = subst (λ (rs : List Relation). AreSingle c.args.task.now c.args.order.now
    c.single_relations.new.ops rs) (sym c.deref.ensures.value) c.in_ok-single.ensures.single

pub returns-clause-relations : goal.returns-clause-relations
returns-clause-relations c =
    let task = c.args.task.now in
    let o = c.args.order.now in
    let end = c.joined_by_cost.new.ops in
    let starts = c.in_ok-joined.starts.items in
    let joined = c.in_ok-joined.joined.items in
    record {
      order = c.requires.order;
      costs = c.in_ok-costs.ensures;
      single = single_kept task o c.single_relations.new.ops end c.in_ok-single.single.items c.in_ok-joined.ensures.kept c.in_ok-single.ensures.single;
      joined = subst (λ (xs : List ℕ). AreJoined task o end xs (length xs) starts joined) c.deref-2.ensures.value c.in_ok-joined.ensures.joined;
    }

pub returns-clause-halved : goal.returns-clause-halved
returns-clause-halved c =
    let task = c.args.task.now in
    let o = c.args.order.now in
    let end = c.joined_by_cost.new.ops in
    let starts = c.in_ok-joined.starts.items in
    let joined = c.in_ok-joined.joined.items in
    subst (λ (rs : List Relation). AreHalved task o c.args.bound end rs c.in_ok-costs.costs.items
    (length c.in_ok-costs.costs.items) starts joined) c.deref.ensures.value
    (subst (λ (xs : List ℕ). AreHalved task o c.args.bound end c.deref.result.now xs (length xs) starts joined)
    c.deref-2.ensures.value c.in_ok-joined.ensures.halved)

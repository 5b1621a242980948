use Rattle.std.proofs.Common.{List, sym, subst}
use Rattle.std.specs.List.{All}
use Rattle.transitions.specs.declared.relations.Relation.{Relation}
use Rattle.trans_merge.specs.Merging.{IsRelation}
use Rattle.trans_merge.proofs.Merged.{all_merged, relations_kept}
use Rattle.diagram_tests.proofs.merged.check_merged.Goals as goal

pub images-requires-clause-relations : goal.images-requires-clause-relations
images-requires-clause-relations g c =
    let o = c.args.order.now in
    let results = c.in_ok-results.results.items in
    subst (λ (xs : List Relation). All (IsRelation o c.states.new.ops) xs) (sym c.deref.ensures.value)
    (relations_kept o c.merge.new.ops c.states.new.ops results c.in_ok-from.ensures.kept (all_merged o _ c.args.ops.now c.args.members.items c.merge.new.ops results c.in_ok-results.ensures.merges))

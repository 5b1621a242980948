use Rattle.std.proofs.Common.{◌≡◌, ◌∙◌, [], ◌∷◌, ◌++◌, List, sym, ap, subst, arith}
use Rattle.std.specs.List.{All}
use Rattle.symk_task.specs.Steps.{Step}
use Rattle.axiom_layers.proofs.Raised.{roots_kept}
use Rattle.transitions.specs.declared.relations.Relation.{Relation}
use Rattle.trans_merge.specs.Merging.{IsRelation}
use Rattle.trans_merge.proofs.Merged.{related, relation_kept, all_and}
use Rattle.diagram_tests.proofs.merged.members.Goals as goal

pub relation-requires-2-clause-roots : goal.relation-requires-2-clause-roots
relation-requires-2-clause-roots c = roots_kept c.args.task.now c.args.order.now c.compile.new.ops c.relation.new.ops c.in_ok-derived.derived c.in_ok-first.ensures.kept c.in_ok-derived.ensures.roots

pub returns : goal.returns
returns c =
    let o = c.args.order.now in
    let mid = c.relation.new.ops in
    let now = c.relation-2.new.ops in
    let first = c.in_ok-first.first in
    let second = c.in_ok-second.second in
    let one = relation_kept o mid now first c.in_ok-second.ensures.kept (related o mid first (λ s t. Step c.args.task.now s 0 t) c.in_ok-first.ensures.known c.in_ok-first.ensures.ready c.in_ok-first.ensures.relates) in
    let two = related o now second (λ s t. Step c.args.task.now s 1 t) c.in_ok-second.ensures.known c.in_ok-second.ensures.ready c.in_ok-second.ensures.relates in
    let empty : All (IsRelation o now) [] = (λ i d lt. absurd (omega (arith, lt))) in
    let both = all_and (IsRelation o now) (first ∷ []) second (all_and (IsRelation o now) [] first empty one) two in
    let is : c.push-2.new.self.items ≡ (first ∷ []) ++ second ∷ [] = c.in_ok-push-2.ensures.items ∙ ap (λ (xs : List Relation). xs ++ second ∷ []) (c.in_ok-push.ensures.items ∙ ap (λ (xs : List Relation). xs ++ first ∷ []) c.new-members.ensures.items) in
    subst (λ (xs : List Relation). All (IsRelation o now) xs) (sym is) both

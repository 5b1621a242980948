use Rattle.std.proofs.Common.{◌≡◌, ◌∙◌, ap, arith, subst, ◌++◌, ◌∷◌, [], List, ℕ, length}
use Rattle.bdd_table.specs.declared.node.Node.{Node}
use Rattle.bdd_table.specs.Diagram.{node_of}
use Rattle.bdd_table.specs.Collected.{AreMoved}
use Rattle.bdd_table.proofs.Moving.{start_moved}
use Rattle.bdd_table.proofs.rebuild.renumber.Goals as goal

pub loop-id-init : goal.loop-id-init
loop-id-init c =
    let kept : c.push-2.new.self.items ≡ node_of 4294967295 0 0 ∷ node_of 4294967295 1 1 ∷ [] = c.in_ok-push-2.ensures.items
    ∙ (λ k. (c.in_ok-push.ensures.items ∙ (λ j. c.in_ok-kept.ensures.items j ++ c.constant.ensures j ∷ [])) k ++ c.constant-2.ensures k ∷ []) in (
      start_moved c.args.old.now c.push-2.new.self.items c.args.marks.now _ c.held-held.ensures.reduced kept
          (c.in_ok-push-4.ensures.items ∙ ap (λ (l : List ℕ). l ++ 1 ∷ []) (c.in_ok-push-3.ensures.items ∙ ap (λ (l : List ℕ). l ++ 0 ∷ []) c.in_ok-places.ensures.items)),
      omega (arith, ap (λ (l : List Node). length l) kept),
    )

pub returns-clause-moved : goal.returns-clause-moved
returns-clause-moved c =
    let all : c.loop-id.id ≡ length c.args.old.now = omega (arith, c.held-held.ensures.count) in
    subst (AreMoved c.args.old.now c.args.marks.now c.loop-id.kept.items c.loop-id.places.items) all c.loop-id.invariant.0

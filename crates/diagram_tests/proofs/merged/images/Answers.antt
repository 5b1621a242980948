use Rattle.bdd_table.specs.Diagram.{means}
use Rattle.transitions.proofs.Using.{set_alike}
use Rattle.trans_merge.proofs.Merged.{one_kept}
use Rattle.diagram_tests.proofs.merged.images.Goals as goal

pub image-requires-clause-over : goal.image-requires-clause-over
image-requires-clause-over c =
    let o = c.args.order.now in
    let start = c.args.ops.now in
    let now = c.loop-relation.ops in
    let set = c.args.set in
    let kept = c.loop-relation.invariant.kept in (
      o,
      record {
        layout = c.blocks-2.ensures.layout;
        steps = (one_kept o start now c.args.relations.now c.loop-relation.relation-index c.relation-item.result kept c.requires.relations c.loop-relation-test.true c.relation-item.is).steps;
        states = set_alike o (means start set) (means now set) (λ b. kept.meaning set b c.requires.set) c.requires.states;
      },
    )

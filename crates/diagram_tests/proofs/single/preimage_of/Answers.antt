use Rattle.std.proofs.Common.{◌∙◌, arith}
use Rattle.symk_task.specs.Steps.{Step}
use Rattle.bdd_table.specs.Diagram.{means}
use Rattle.transitions.proofs.Using.{set_alike, steps_of_relates}
use Rattle.diagram_tests.proofs.single.preimage_of.Goals as goal

pub preimage-requires-clause-over : goal.preimage-requires-clause-over
preimage-requires-clause-over c =
    let o = c.args.order.now in
    let set = c.args.set in
    let steps = c.in_ok-relation.relation in (
      o,
      record {
        layout = c.requires.order.layout;
        steps = steps_of_relates o steps.touched.items (λ s t. Step c.args.task.now s 0 t) (means c.relation.new.ops steps.root) c.in_ok-relation.ensures.relates;
        states = set_alike o (means c.args.ops.now set) (means c.relation.new.ops set) (λ b.
            c.in_ok-relation.ensures.kept.meaning set b (let r = c.requires.set in let k = c.in_ok-derived.ensures.kept.known in omega (arith, r, k))
            ∙ c.in_ok-derived.ensures.kept.meaning set b c.requires.set) c.requires.states;
      },
    )

use Rattle.bdd_table.specs.Diagram.{means}
use Rattle.bdd_table.proofs.Adding.{ok_by}
use Rattle.trans_merge.proofs.Answering.{own_over, own_image}
use Rattle.trans_merge.proofs.relations.OperatorRelations.image_op.Goals as goal

pub image-requires-clause-over : goal.image-requires-clause-over
image-requires-clause-over c =
    let asked = c.requires.asked in
    (asked.1, own_over asked.0 asked.1 c.args.ops.now c.args.self.now c.args.set asked.2 c.args.op c.index.result.now c.requires.op c.index.ensures)

pub returns-clause-names : goal.returns-clause-names
returns-clause-names c = ok_by c.image.result _ _ c.image.ensures.names (λ id names task o asked.
    own_image task o c.args.ops.now c.args.self.now c.args.set asked c.args.op c.index.result.now (means c.image.new.ops id) c.requires.op c.index.ensures
    (names o (own_over task o c.args.ops.now c.args.self.now c.args.set asked c.args.op c.index.result.now c.requires.op c.index.ensures)))

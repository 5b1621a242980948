use Rattle.std.proofs.Common.{refl}
use Rattle.bdd_table.specs.Diagram.{means}
use Rattle.bdd_table.proofs.Adding.{ok_by}
use Rattle.bdd_table.proofs.Meaning.{means_false}
use Rattle.trans_merge.proofs.Answering.{joined_over, joined_image, no_image}
use Rattle.trans_merge.proofs.relations.OperatorRelations.image_cost.Goals as goal

pub image_by-requires-clause-over : goal.image_by-requires-clause-over
image_by-requires-clause-over c =
    let asked = c.requires.asked in
    let at = c.in-Some.ensures.some in (
      asked.1,
      joined_over asked.0 asked.1 c.args.ops.now c.args.self.now c.args.set asked.2 c.args.cost
          c.in-Some.place c.joined_at.result.now at.0 at.1 c.joined_at.ensures,
    )

pub returns-in-Some-clause-names : goal.returns-in-Some-clause-names
returns-in-Some-clause-names c =
    let at = c.in-Some.ensures.some in
    ok_by c.image_by.result _ _ c.image_by.ensures.names (λ id names task o asked.
    joined_image task o c.args.ops.now c.args.self.now c.args.set asked c.args.cost c.in-Some.place
    c.joined_at.result.now at.0 at.1 c.joined_at.ensures (means c.image_by.new.ops id)
    (names o (joined_over task o c.args.ops.now c.args.self.now c.args.set asked c.args.cost c.in-Some.place
    c.joined_at.result.now at.0 at.1 c.joined_at.ensures)))

pub returns-in-None-clause-names : goal.returns-in-None-clause-names
returns-in-None-clause-names c = λ task o asked.
    no_image task o c.args.ops.now c.args.self.now c.args.set asked c.args.cost (c.in-None.ensures.none refl)
    (means c.args.ops.now 0) (λ b. means_false c.args.ops.now c.table.ensures.reduced b)

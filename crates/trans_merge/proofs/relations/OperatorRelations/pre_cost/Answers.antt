use Rattle.std.proofs.Common.{refl}
use Rattle.bdd_table.specs.Diagram.{means}
use Rattle.bdd_table.proofs.Adding.{ok_by}
use Rattle.bdd_table.proofs.Meaning.{means_false}
use Rattle.trans_merge.proofs.Answering.{joined_over, joined_preimage, no_preimage}
use Rattle.trans_merge.proofs.relations.OperatorRelations.pre_cost.Goals as goal

pub preimage_by-requires-clause-over : goal.preimage_by-requires-clause-over
preimage_by-requires-clause-over c =
    let asked = c.requires.asked in
    let at = c.in-Some.ensures.some in (
      asked.1,
      joined_over asked.0 asked.1 c.args.ops.now c.args.self.now c.args.set asked.2 c.args.cost
          c.in-Some.place c.joined_at.result.now at.0 at.1 c.joined_at.ensures,
    )

pub returns-in-Some-clause-names : goal.returns-in-Some-clause-names
returns-in-Some-clause-names c =
    let at = c.in-Some.ensures.some in
    ok_by c.preimage_by.result _ _ c.preimage_by.ensures.names (λ id names task o asked.
    joined_preimage task o c.args.ops.now c.args.self.now c.args.set asked c.args.cost c.in-Some.place
    c.joined_at.result.now at.0 at.1 c.joined_at.ensures (means c.preimage_by.new.ops id)
    (names o (joined_over task o c.args.ops.now c.args.self.now c.args.set asked c.args.cost c.in-Some.place
    c.joined_at.result.now at.0 at.1 c.joined_at.ensures)))

pub returns-in-None-clause-names : goal.returns-in-None-clause-names
returns-in-None-clause-names c = λ task o asked.
    no_preimage task o c.args.ops.now c.args.self.now c.args.set asked c.args.cost (c.in-None.ensures.none refl)
    (means c.args.ops.now 0) (λ b. means_false c.args.ops.now c.table.ensures.reduced b)

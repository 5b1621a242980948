use Rattle.bdd_table.specs.Diagram.{means}
use Rattle.bdd_table.proofs.Adding.{ok_by}
use Rattle.trans_merge.proofs.Staying.{both_hold}
use Rattle.trans_merge.proofs.widening.widen.Goals as goal

pub returns-clause-meaning : goal.returns-clause-meaning
returns-clause-meaning c = ok_by c.conj.result _ _ c.conj.ensures.meaning (λ id m b.
    both_hold (means c.conj.new.self id b) (means c.args.ops.now c.args.root b) (means c.stays.new.ops c.args.root b)
    (means c.stays.new.ops c.in_ok-all.all b) (m b)
    (c.in_ok-all.ensures.kept.meaning c.args.root b c.requires) (c.in_ok-all.ensures.meaning b))

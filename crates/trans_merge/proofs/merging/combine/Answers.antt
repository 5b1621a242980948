use Rattle.bdd_table.proofs.Adding.{ok_by}
use Rattle.trans_merge.proofs.Found.{combines_joined, combines_apart}
use Rattle.trans_merge.proofs.merging.combine.Goals as goal

pub returns-in-Some-clause-combined : goal.returns-in-Some-clause-combined
returns-in-Some-clause-combined c = ok_by c.one.result _ _ c.one.ensures (λ results is.
    combines_joined c.args.order.now c.args.ops.now c.join_both.new.ops c.args.bound
    c.in-Some.is c.deref.ensures.value c.deref-2.ensures.value c.in_ok-joined.ensures.joined is)

pub returns-in_ok-append-in-None-clause-combined : goal.returns-in_ok-append-in-None-clause-combined
returns-in_ok-append-in-None-clause-combined c =
    combines_apart c.args.order.now c.args.ops.now c.join_both.new.ops c.args.bound
    c.in-None.is c.deref.ensures.value c.deref-2.ensures.value c.in_ok-joined.ensures.apart
    c.in_ok-append-in-None.ensures.items

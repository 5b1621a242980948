use Rattle.certificates.proofs.Listed.{variable_more, all_there, AreAll}
use Rattle.certificates.proofs.places.places_of.Goals as goal

pub loop-var-preserved : goal.loop-var-preserved
loop-var-preserved c = variable_more c.args.order.now c.loop-var.var c.loop-var.places.items
    c.push_places.new.places.items c.loop-var.invariant c.in_ok-push_places.ensures

pub returns-clause-are : goal.returns-clause-are
returns-clause-are c =
    let all : AreAll c.args.task.now c.args.order.now c.requires c.loop-var.places.items =
    all_there c.args.task.now c.args.order.now c.requires c.loop-var.places.items c.loop-var.var
    c.as_slice-count.result.now c.parts.result.now c.as_slice-count.ensures c.parts.ensures.value
    c.loop-var.auto.var-end c.loop-var-test.false c.loop-var.invariant in
    all.same

pub returns-clause-count : goal.returns-clause-count
returns-clause-count c =
    let all : AreAll c.args.task.now c.args.order.now c.requires c.loop-var.places.items =
    all_there c.args.task.now c.args.order.now c.requires c.loop-var.places.items c.loop-var.var
    c.as_slice-count.result.now c.parts.result.now c.as_slice-count.ensures c.parts.ensures.value
    c.loop-var.auto.var-end c.loop-var-test.false c.loop-var.invariant in
    all.count

pub returns-clause-most : goal.returns-clause-most
returns-clause-most c =
    let all : AreAll c.args.task.now c.args.order.now c.requires c.loop-var.places.items =
    all_there c.args.task.now c.args.order.now c.requires c.loop-var.places.items c.loop-var.var
    c.as_slice-count.result.now c.parts.result.now c.as_slice-count.ensures c.parts.ensures.value
    c.loop-var.auto.var-end c.loop-var-test.false c.loop-var.invariant in
    all.most

pub returns-clause-below : goal.returns-clause-below
returns-clause-below c =
    let all : AreAll c.args.task.now c.args.order.now c.requires c.loop-var.places.items =
    all_there c.args.task.now c.args.order.now c.requires c.loop-var.places.items c.loop-var.var
    c.as_slice-count.result.now c.parts.result.now c.as_slice-count.ensures c.parts.ensures.value
    c.loop-var.auto.var-end c.loop-var-test.false c.loop-var.invariant in
    all.below

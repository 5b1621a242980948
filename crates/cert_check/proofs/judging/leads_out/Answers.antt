use Rattle.cert_check.proofs.Answering.{over, leads_says}
use Rattle.cert_check.proofs.judging.leads_out.Goals as goal

pub image-requires-clause-over : goal.image-requires-clause-over
image-requires-clause-over c = (
  c.args.order.now,
  over c.args.task.now c.args.order.now c.parts.ensures.fits c.requires.order c.args.op c.args.ops.now
      c.relation.new.ops c.args.members c.in_ok-relation.relation.touched.items c.in_ok-relation.relation.root
      c.requires.members c.requires.set c.in_ok-relation.ensures.kept c.in_ok-relation.ensures.relates,
)

pub returns-clause-says : goal.returns-clause-says
returns-clause-says c =
    let there = over c.args.task.now c.args.order.now c.parts.ensures.fits c.requires.order c.args.op c.args.ops.now
    c.relation.new.ops c.args.members c.in_ok-relation.relation.touched.items c.in_ok-relation.relation.root
    c.requires.members c.requires.set c.in_ok-relation.ensures.kept c.in_ok-relation.ensures.relates in
    leads_says c.args.task.now c.args.order.now c.parts.ensures.fits c.requires.order c.args.op c.args.ops.now
    c.relation.new.ops c.args.members c.in_ok-relation.relation.touched.items c.in_ok-relation.relation.root
    c.requires.members c.requires.set c.in_ok-relation.ensures.kept c.in_ok-relation.ensures.relates
    c.image.new.ops c.minus.new.self c.in_ok-reached.reached c.in_ok-out.out c.in_ok-reached.ensures.kept
    c.in_ok-out.ensures.reduced (c.in_ok-reached.ensures.names c.args.order.now there)
    c.in_ok-out.ensures.known c.in_ok-out.ensures.meaning

use Rattle.cert_check.proofs.Answering.{members_made}
use Rattle.cert_check.proofs.judging.members_of.Goals as goal

pub returns-clause-set : goal.returns-clause-set
returns-clause-set c =
    let m = members_made c.args.task.now c.args.order.now c.parts.ensures.fits c.requires.order c.conj.new.self
    c.args.set c.in_ok-valid.valid c.in_ok-conj.field-0 c.requires.known c.requires.states
    c.in_ok-valid.ensures.kept c.in_ok-valid.ensures.meaning c.in_ok-conj.ensures.known c.in_ok-conj.ensures.meaning in
    m.is_set

pub returns-clause-same : goal.returns-clause-same
returns-clause-same c =
    let m = members_made c.args.task.now c.args.order.now c.parts.ensures.fits c.requires.order c.conj.new.self
    c.args.set c.in_ok-valid.valid c.in_ok-conj.field-0 c.requires.known c.requires.states
    c.in_ok-valid.ensures.kept c.in_ok-valid.ensures.meaning c.in_ok-conj.ensures.known c.in_ok-conj.ensures.meaning in
    m.same

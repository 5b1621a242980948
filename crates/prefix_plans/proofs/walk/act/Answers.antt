use Rattle.prefix_plans.proofs.Turning.{learned_goes}
use Rattle.prefix_plans.proofs.walk.act.Goals as goal

pub returns-clause-ok : goal.returns-clause-ok
returns-clause-ok g c =
    let v = g.S.Space.view c.args.space.now in
    let more = c.is_outdated.ensures.0 c.if-not-is_outdated.false in
    learned_goes v c.args.search.now c.args.front.now c.learn.new.queue c.args.entry c.requires.first c.if-entry.false
    more c.requires.ready (rw c.deref.ensures.value at c.in_ok-learn.ensures.ok)

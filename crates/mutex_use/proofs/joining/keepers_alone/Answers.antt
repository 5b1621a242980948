use Rattle.mutex_use.proofs.Alone.{alone_given}
use Rattle.mutex_use.proofs.joining.keepers_alone.Goals as goal

pub returns-in-Ok-true-clause-ok : goal.returns-in-Ok-true-clause-ok
returns-in-Ok-true-clause-ok g c =
    let view = g.S.Space.view in
    alone_given c.args.task.now (view c.args.space.now) (view c.kept_more.new.space) c.args.all c.in_ok-kept.kept
    c.args.group c.facts_of.result.now c.requires.task c.facts_of.ensures.value c.requires.all
    c.in_ok-kept.ensures.ok
    (view c.stands-stands.new.space) c.in-Ok-true.ensures.stays (c.in-Ok-true.ensures.ok.0 c.in-Ok-true.field-0-test)

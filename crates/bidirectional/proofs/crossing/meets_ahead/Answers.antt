use Rattle.bidirectional.proofs.Least.{met_ahead}
use Rattle.bidirectional.proofs.crossing.meets_ahead.Goals as goal

pub returns-clause-ok : goal.returns-clause-ok
returns-clause-ok g c = met_ahead (g.S.Space.view c.args.space.now) (g.S.Space.view c.image_cost.new.self)
    c.in_ok-image.ensures.kept c.args.w c.args.from c.args.to c.in_ok-image.image c.meets-some.result c.requires.to
    c.in_ok-image.ensures.ok c.meets-some.ensures.ok

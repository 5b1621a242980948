use Rattle.prefix_tree.specs.Entries.{queued_entries}
use Rattle.prefix_plans.proofs.Dearest.{tells_leading}
use Rattle.prefix_plans.proofs.Dropping.{drops_none}
use Rattle.prefix_plans.proofs.range.is_left.Goals as goal

pub some_goes_on-left-requires-clause-tells : goal.some_goes_on-left-requires-clause-tells
some_goes_on-left-requires-clause-tells g c = tells_leading (g.S.Space.view c.args.space.now)
    (g.S.Space.view c.reach.new.space) c.args.within c.in_ok-leading.leading c.in_ok-leading.ensures.kept.system
    c.requires.wide c.in_ok-leading.ensures.ok

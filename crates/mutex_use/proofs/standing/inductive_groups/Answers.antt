use Rattle.mutex_use.proofs.Narrowing.{all_states}
use Rattle.mutex_use.proofs.standing.inductive_groups.Goals as goal

pub greatest-groups-requires-clause-all : goal.greatest-groups-requires-clause-all
greatest-groups-requires-clause-all g c = all_states (g.S.Space.view c.args.space.now) (g.S.Space.view c.all.new.self)
    c.in_ok-all.all (g.met.S.Space.of_task c.args.space.now) c.all.ensures.makes.task c.in_ok-all.ensures.makes.ok

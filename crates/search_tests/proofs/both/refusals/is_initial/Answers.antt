use Rattle.space_api.proofs.Keeping.{stays_refl}
use Rattle.cost_layers.proofs.Making.{seed_back}
use Rattle.search_tests.proofs.both.refusals.is_initial.Goals as goal

pub returns : goal.returns
returns g c =
    let view = g.S.Space.view in
    seed_back (view c.args.space.now) (view c.init.new.self) (view c.init.new.self) (view c.forget.new.self) c.in_ok-initial.initial c.init.ensures.kept c.in_ok-initial.ensures.ok (stays_refl (view c.init.new.self)) c.forget.ensures

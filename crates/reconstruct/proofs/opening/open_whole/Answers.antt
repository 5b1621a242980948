use Rattle.std.proofs.Common.{refl}
use Rattle.reconstruct.proofs.Opens.{whole_opened}
use Rattle.reconstruct.proofs.opening.open_whole.Goals as goal

pub returns : goal.returns
returns g c front =
    whole_opened (g.S.Space.view c.args.space.now) front c.args.back.now c.args.cost
    (record {
      state = c.in_ok-state.state;
      cost = c.args.cost;
      ring =
          c.first_ring-ring.result;
      operators = c.new.result;
    })
    c.in_ok-state.ensures.is refl c.new.ensures.items c.first_ring-ring.ensures

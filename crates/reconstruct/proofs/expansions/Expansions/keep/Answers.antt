use Rattle.std.proofs.Common.{sym}
use Rattle.reconstruct.proofs.Remembering.{then_put}
use Rattle.reconstruct.proofs.expansions.Expansions.keep.Goals as goal

pub returns-in-Ok : goal.returns-in-Ok
returns-in-Ok c = then_put c.args.self.now c.make_places.new.self c.put.new.self c.args.cost c.args.state.now
    c.args.all.moves.items c.args.all.ends c.make_places.ensures (rw (sym c.in-Ok.ensures) c.put.ensures)

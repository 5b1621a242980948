use Rattle.reconstruct.proofs.Remembering.{back_first, back_next, back_all}
use Rattle.reconstruct.proofs.expansions.Expansions.put_back.Goals as goal

pub places-init : goal.places-init
places-init c = back_first c.args.self.now c.args.places.items

pub places-preserved : goal.places-preserved
places-preserved c = back_next c.args.self.now c.places.self c.put_expansion.new.self c.args.places.items
    c.places.left.items c.pop.new.self.items c.in-Some.place (rw c.in-Some.is at c.pop.ensures.items)
    c.places.invariant c.put_expansion.ensures

pub returns : goal.returns
returns c = back_all c.args.self.now c.places.self c.args.places.items c.places.left.items c.places.invariant

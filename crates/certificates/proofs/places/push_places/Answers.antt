use Rattle.std.proofs.Common.{◌∙◌, ◌++◌, ◌∷◌, [], List, ℕ, ap}
use Rattle.certificates.proofs.Listed.{place_more, place_none}
use Rattle.certificates.proofs.places.push_places.Goals as goal

pub loop-bit-preserved : goal.loop-bit-preserved
loop-bit-preserved c =
    place_more c.args.order.now c.args.var c.loop-bit.bit c.args.places.now.items c.loop-bit.places.items c.push.new.self.items c.loop-bit.invariant
    (c.in_ok-push.ensures.items ∙ ap (λ (p : ℕ). c.loop-bit.places.items ++ p ∷ []) c.place.ensures.value)

-- What a search from both ends gives to reconstruction: right layers, and that it stands where all sets stay.
use Rattle.space_api.specs.View.{View}
use Rattle.space_api.specs.Frames.{Kept}
use Rattle.bidirectional.specs.Both.{IsBoth, front_layers, back_layers}
use Rattle.bidirectional.specs.declared.search.Both.{Both}
use Rattle.bidirectional.proofs.Known.{front_right, rear_right}
use Rattle.bidirectional.proofs.Ends.{valid_ends, kept_ends}
use Rattle.reconstruct.specs.Sides.{AreRightLayers}

pub right_ends : {Set P : Type 0} (v : View Set) (h : Both Set P) → IsBoth v h → AreRightLayers v (front_layers h) (back_layers h)
right_ends v h z = record {
  front_held = z.sides.pair.one.search.held;
  back_held = z.sides.pair.two.search.held;
  front_right = front_right v h.sides z.sides;
  back_right = rear_right v h.sides z.sides;
  begun = (z.f, z.b);
}

-- it stands where all sets stay
pub stays_ends : {Set P : Type 0} (v w : View Set) (h : Both Set P) → Kept v w → IsBoth v h → IsBoth w h
stays_ends v w h k z = kept_ends v w k.system h z (λ a u. let ok = valid_ends v h z a u in (k.valid a ok, k.same a ok))

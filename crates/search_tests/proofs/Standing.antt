-- Both searches, and layers, stand where calls keep all sets.
use Rattle.std.proofs.Common.{◌≡◌, sym, subst}
use Rattle.space_api.specs.View.{View, Valid}
use Rattle.space_api.specs.Frames.{Kept}
use Rattle.cost_layers.specs.declared.layers.Layers.{Layers}
use Rattle.cost_layers.specs.Layers.{rings_at, union_at, Held}
use Rattle.cost_layers.proofs.Holding.{holds_kept}
use Rattle.cost_search.specs.Search.{within_of}
use Rattle.cost_search.specs.Directed.{Forward, Backward, IsForward, IsBackward, search_of}
use Rattle.cost_search.proofs.Directing.{directed_kept}

pub forward_stays : {Set : Type 0} (v w : View Set) (f : Forward Set) → Kept v w → IsForward v f → IsForward w f
forward_stays = directed_kept

pub backward_stays : {Set : Type 0} (v w : View Set) (f : Backward Set) → Kept v w → IsBackward v f → IsBackward w f
backward_stays = directed_kept

pub layers_stay : {Set : Type 0} (v w : View Set) (l : Layers Set) → Kept v w → Held v l → Held w l
layers_stay v w l = holds_kept v w (rings_at l) (union_at l)

pub within_valid : {Set : Type 0} (v : View Set) (f : Backward Set) (a : Set) → IsBackward v f → a ≡ within_of (search_of f) → Valid v a
within_valid v f a z e = subst (Valid v) (sym e) z.search.within

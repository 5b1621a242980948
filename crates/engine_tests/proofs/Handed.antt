-- A set of all states that is handed over to an engine.
use Rattle.std.proofs.Common.{◌≡◌, IsFalse, Some, inl, inr}
use Rattle.task_system.specs.System.{Listed}
use Rattle.run_graph.proofs.Listed.{all_useful}
use Rattle.space_api.specs.View.{View}
use Rattle.space_api.specs.Frames.{Gives}
use Rattle.space_api.specs.Listing.{ListsReached}
use Rattle.reconstruct.specs.Engine.{IsReadyFor}
use Rattle.space_api.proofs.Trading.{valid_clash}

-- it alone is valid, and has each useful state
pub ready : {Set : Type 0} (v w : View Set) (all : Set) → ListsReached v.system → w.system ≡ v.system → Gives v w (Listed v.system.states) all → ((a : Set) → IsFalse (v.valid a)) → IsReadyFor w (Some all)
ready v w all lists same gives none = (gives.valid, (λ a h. elim (gives.only a h) [ inl old ↦ absurd (valid_clash old (none a)) | inr e ↦ e ]), all_useful v w all lists same gives)

-- A walk, by the parts of an engine.
use Rattle.std.proofs.Common.{◌≡◌, Bool, true, false, List, inr, Some, sym, subst}
use Rattle.task_system.specs.System.{System}
use Rattle.space_api.specs.View.{View, Valid}
use Rattle.space_api.specs.Owned.{Trades}
use Rattle.cost_layers.specs.Layers.{known_of}
use Rattle.cost_layers.specs.declared.layers.Layers.{Layers}
use Rattle.reconstruct.specs.Entries.{SetIn}
use Rattle.reconstruct.specs.Turned.{IsQueue}
use Rattle.reconstruct.specs.Expansions.{AreRightExpansions}
use Rattle.reconstruct.specs.declared.entries.Entry.{Entry}
use Rattle.plan_cuts.specs.Drawing.{undrawn}
use Rattle.reconstruct.specs.Walked.{IsLawful}
use Rattle.bidirectional.specs.Both.{IsBeneath, IsBoth, front_layers, back_layers}
use Rattle.bidirectional.specs.declared.search.Both.{Both}
use Rattle.reconstruct.specs.Listing.{AreReadyAt, IsListing, Lists}
use Rattle.reconstruct.specs.Working.{IsWorking}
use Rattle.reconstruct.specs.declared.drawing.Place.{Place}
use Rattle.reconstruct.specs.declared.next_plan.Agenda.{Agenda}
use Rattle.bidirectional.proofs.Ends.{valid_ends, kept_ends}

clash : (b : Bool) → b ≡ true → b ≡ false → ⊥
clash b e f = cc

module _ {Set : Type 0} (v w : View Set) (Uses : Set → Type 0) (front back : Layers Set) (place : Place)
    (queue queue2 : List (Entry Set)) (valid : (a : Set) → Uses a → Valid v a)
    (l : IsListing v Uses front back place queue) (t : Trades v w (SetIn queue) (SetIn queue2)) where
  pub walked_listing : IsQueue w queue2 → IsLawful w front back place.cost queue2 (undrawn place.left place.after) → IsListing w Uses front back place queue2
  walked_listing q lawful = record {
    queue_is = q;
    apart = λ a s u. clash (v.valid a) (valid a u) (t.fresh a s (λ o. l.apart a o u));
    settled = l.settled;
    lawful = lawful;
    ready = subst (λ (y : System). AreReadyAt y (known_of back) place) (sym t.system) l.ready;
  }

-- the search stands on, since the queue's sets are none that it stands on
pub walked_working : {Set P : Type 0} {v w : View Set} {both : Both Set P} {place : Place} {queue : List (Entry Set)}
    (new : Agenda Set) → new.listed ≡ Some place → IsBoth v both → Lists v both place queue
    → Trades v w (SetIn queue) (SetIn new.queue) → IsQueue w new.queue
    → IsLawful w (front_layers both) (back_layers both) place.cost new.queue (undrawn place.left place.after)
    → AreRightExpansions w (back_layers both) new.memo
    → IsWorking w both new
walked_working {v = v} {w = w} {both = both} {place = place} {queue = queue} new is z l t q lawful right = record {
  stands = kept_ends v w t.system both z (λ a u. let ok = valid_ends v both z a u in (t.others a ok (λ s. l.apart a s u), t.same a ok (λ s. l.apart a s u)));
  at = rw is (inr (walked_listing v w (IsBeneath both) (front_layers both) (back_layers both) place queue new.queue (valid_ends v both z) l t q lawful));
  moves = right;
}

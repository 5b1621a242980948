-- An engine in a view in which all sets stay.
use Rattle.std.proofs.Common.{◌≡◌, ℕ, ◌↔◌, Bool, ◌∙◌, ap, inl, inr, List, [], Option, Some, None, refl, sym, subst}
use Rattle.task_system.specs.System.{State, System, IsSystemPlan}
use Rattle.space_api.specs.View.{View}
use Rattle.space_api.specs.Frames.{Stays}
use Rattle.cost_layers.specs.Layers.{known_of}
use Rattle.cost_layers.specs.declared.layers.Layers.{Layers}
use Rattle.plan_cuts.specs.Entries.{PlainEntry, Owed, Lawful}
use Rattle.reconstruct.specs.Entries.{plains, member_in}
use Rattle.reconstruct.specs.declared.entries.Entry.{Entry}
use Rattle.reconstruct.proofs.Sets.{all_kept}
use Rattle.reconstruct.proofs.Kept.{member_kept, plains_kept}
use Rattle.plan_cuts.specs.Drawing.{undrawn}
use Rattle.reconstruct.specs.Sides.{AreRightLayers}
use Rattle.reconstruct.specs.Listing.{AreReadyAt, IsListing, OwedAt}
use Rattle.reconstruct.specs.declared.drawing.Place.{Place}
use Rattle.reconstruct.proofs.Placing.{lawful_on, owed_on}
use Rattle.reconstruct.specs.Working.{IsAt, OwesByCuts}
use Rattle.reconstruct.proofs.AgendaMoves.{same_way}

module _ {Set : Type 0} (v w : View Set) (Uses : Set → Type 0) (front back : Layers Set) (r : AreRightLayers v front back) (s : Stays v w) where
  listing_kept : (place : Place) (queue : List (Entry Set)) → IsListing v Uses front back place queue → IsListing w Uses front back place queue
  listing_kept place queue l = record {
    queue_is = record { each = all_kept v w queue s.kept l.queue_is.each; distinct = l.queue_is.distinct };
    apart = l.apart;
    settled = l.settled;
    lawful = subst (λ (es : List PlainEntry). Lawful w.system (member_in w front) (member_in w back) (known_of front)
        (known_of back) place.cost es (undrawn place.left place.after))
        (sym (ap (λ (p : ℕ → State → Bool). plains w p queue) (member_kept v w s.kept front r.front_held)
        ∙ plains_kept v w s.kept (member_in v front) queue l.queue_is.each))
        (lawful_on v w front back s.kept r.front_held r.back_held place.cost (plains v (member_in v front) queue)
        (undrawn place.left place.after) l.lawful);
    ready = subst (λ (y : System). AreReadyAt y (known_of back) place) (sym s.kept.system) l.ready;
  }

  pub at_kept : (listed : Option Place) (queue : List (Entry Set)) → IsAt v Uses front back listed queue → IsAt w Uses front back listed queue
  at_kept None queue at = at
  at_kept (Some place) queue (inl at) = inl at
  at_kept (Some place) queue (inr l) = inr (listing_kept place queue l)

  owed_kept : (place : Place) (queue : List (Entry Set)) → plains w (member_in w front) queue ≡ plains v (member_in v front) queue → (p : List ℕ)
      → OwedAt w front back place queue p ↔ OwedAt v front back place queue p
  owed_kept place queue same p = subst (λ (es : List PlainEntry). Owed w.system (known_of back) place.cost es
      (undrawn place.left place.after) p ↔ OwedAt v front back place queue p) (sym same)
      (owed_on v w front back s.kept r.front_held r.back_held (known_of back) place.cost (plains v (member_in v front) queue)
      (undrawn place.left place.after) p)

  none_kept : (queue : List (Entry Set)) → queue ≡ [] → plains w (member_in w front) queue ≡ plains v (member_in v front) queue
  none_kept queue e = rw e refl

  plan_kept : (p : List ℕ) → IsSystemPlan w.system p ↔ IsSystemPlan v.system p
  plan_kept p = subst (λ (y : System). IsSystemPlan y p ↔ IsSystemPlan v.system p) (sym s.kept.system) (same_way (IsSystemPlan v.system p))

  pub owes_kept : (listed : Option Place) (queue : List (Entry Set)) → IsAt v Uses front back listed queue
      → (p : List ℕ) → OwesByCuts w front back listed queue p ↔ OwesByCuts v front back listed queue p
  owes_kept None queue at p = plan_kept p
  owes_kept (Some place) queue (inl at) p = owed_kept place queue (none_kept queue at.1) p
  owes_kept (Some place) queue (inr l) p = owed_kept place queue (ap (λ (p : ℕ → State → Bool). plains w p queue) (member_kept v w s.kept front r.front_held)
      ∙ plains_kept v w s.kept (member_in v front) queue l.queue_is.each) p

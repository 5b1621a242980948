use Rattle.std.proofs.Common.{◌∙◌, sym, ap}
use Rattle.transitions.specs.Touched.{is_touched}
use Rattle.transitions.proofs.TouchedPlaces.{kept_next, left_next}
use Rattle.transitions.proofs.touched.touched_places.Goals as goal
use Rattle.transitions.proofs.touched.touched_places.Goals.{then-is_touched+in_ok-push, else-is_touched}

pub loop-place-preserved : goal.loop-place-preserved
loop-place-preserved c =
    let test = is_touched c.args.order.now c.args.effects.now in
    let before = c.loop-place.invariant in
    elim c.if-is_touched.branch [
      | then-is_touched+in_ok-push w ↦ ap (λ (v : _). v.items) w.places-is ∙ w.in_ok-push.ensures.items
          ∙ kept_next test c.loop-place.place c.loop-place.places.items before
          (sym c.is_touched.ensures ∙ w.if-is_touched.true)
      | else-is_touched w ↦ ap (λ (v : _). v.items) w.places-is
          ∙ left_next test c.loop-place.place c.loop-place.places.items before
          (sym c.is_touched.ensures ∙ w.if-is_touched.false)
    ]

use Rattle.std.proofs.Common.{◌∙◌, ◌||◌, sym, ap}
use Rattle.bdd_ops.specs.Quantified.{is_in}
use Rattle.transitions.proofs.TouchedPlaces.{kept_next, left_next}
use Rattle.trans_merge.proofs.Among.{either_of}
use Rattle.trans_merge.proofs.places.united.Goals as goal
use Rattle.trans_merge.proofs.places.united.Goals.{then-touched+in_ok-push, else-touched}

pub loop-place-preserved : goal.loop-place-preserved
loop-place-preserved c =
    let a = c.args.a.now in
    let b = c.args.b.now in
    let before = c.loop-place.invariant in
    let test = either_of a b c.loop-place.place c.is_among.result c.is_among-in-loop-place.result c.is_among.ensures c.is_among-in-loop-place.ensures in
    elim c.if-touched.branch [
      | then-touched+in_ok-push w ↦ ap (λ (v : _). v.items) w.places-is ∙ w.in_ok-push.ensures.items
          ∙ kept_next (λ p. is_in a p || is_in b p) c.loop-place.place c.loop-place.places.items before
          (sym test ∙ w.if-touched.true)
      | else-touched w ↦ ap (λ (v : _). v.items) w.places-is
          ∙ left_next (λ p. is_in a p || is_in b p) c.loop-place.place c.loop-place.places.items before
          (sym test ∙ w.if-touched.false)
    ]

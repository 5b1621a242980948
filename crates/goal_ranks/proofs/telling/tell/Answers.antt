use Rattle.std.proofs.Common.{◌≡◌, ℕ, ◌+◌, ◌<◌, ◌≤◌, ◌^◌, sym, ◌∙◌, ap, subst}
use Rattle.space_api.specs.View.{Has}
use Rattle.space_api.proofs.Keeping.{stays_trans}
use Rattle.cost_layers.specs.declared.layers.Layers.{Layers}
use Rattle.cost_search.specs.Meeting.{IsLayerMeeting}
use Rattle.goal_ranks.specs.Ahead.{bound_of, IsKeyOf}
use Rattle.goal_ranks.proofs.Keys.{ahead_kept, key_kept, told_kept, later_next}
use Rattle.goal_ranks.proofs.Uniting.{all_kept}
use Rattle.goal_ranks.proofs.telling.tell.Goals as goal

pub tell_by_rings-requires-clause-ahead : goal.tell_by_rings-requires-clause-ahead
tell_by_rings-requires-clause-ahead g c =
    let view = g.S.Space.view in
    ahead_kept (view c.args.space.now) (view c.ring_between.new.space) c.args.ahead.now c.ring_between.ensures.stays.kept c.requires.ahead

pub tell_by_rings-requires-clause-rings : goal.tell_by_rings-requires-clause-rings
tell_by_rings-requires-clause-rings g c =
    let view = g.S.Space.view in
    all_kept (view c.args.space.now) (view c.ring_between.new.space) c.args.ahead.now c.args.rings.now
    c.ring_between.ensures.stays.kept c.requires.ahead c.requires.rings

pub tell_by_rings-requires-clause-set : goal.tell_by_rings-requires-clause-set
tell_by_rings-requires-clause-set g c = c.ring_between.ensures.stays.kept.valid c.args.set c.requires.set

pub tell_by_rings-requires-clause-key : goal.tell_by_rings-requires-clause-key
tell_by_rings-requires-clause-key g c =
    let view = g.S.Space.view in
    let v = view c.args.space.now in
    let u = view c.ring_between.new.space in
    let set = c.args.set in
    let kept = c.ring_between.ensures.stays.kept in
    key_kept v u (Has v set) (Has u set) c.args.cost c.args.key kept.system (λ s h. sym (kept.same set c.requires.set s) ∙ h) c.requires.key

pub returns-in-None-2-clause-stays : goal.returns-in-None-2-clause-stays
returns-in-None-2-clause-stays g c = stays_trans c.ring_between.ensures.stays c.tell_by_rings.ensures.stays

pub returns-in-None-2-clause-ok : goal.returns-in-None-2-clause-ok
returns-in-None-2-clause-ok g c =
    let view = g.S.Space.view in
    told_kept (view c.args.space.now) (view c.ring_between.new.space) c.args.ahead.now c.args.set c.args.cost
    c.args.key c.ring_between.ensures.stays.kept c.requires.ahead c.requires.set c.tell_by_rings.result
    c.tell_by_rings.ensures.ok

pub returns-in-None-clause-ok : goal.returns-in-None-clause-ok
returns-in-None-clause-ok g c =
    let v = g.S.Space.view c.args.space.now in
    let f = c.args.ahead.now in
    let x = c.args.cost in
    let one = ap (λ (n : ℕ). x + n) (sym c.bound_ahead-bound.ensures) ∙ c.if-cost-bound-2.true in
    subst (λ (n : ℕ). (c.args.key < x + n) × (x + n ≤ x + bound_of f) × IsKeyOf v.system (Has v c.args.set) x (x + n)) (sym c.bound_ahead-bound.ensures)
    (later_next v f c.requires.ahead c.args.set x c.args.key c.requires.key one
    (subst (λ (l : Layers _). (d : ℕ) → d < 2 ^ 64 → x + d ≡ c.args.key → ¬ IsLayerMeeting v l c.args.set d)
    c.layers.ensures.value (c.in_ok-ring.ensures.none c.in-None.is)))

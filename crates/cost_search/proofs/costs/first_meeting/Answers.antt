use Rattle.std.proofs.Common.{◌≤◌, subst}
use Rattle.space_api.proofs.Keeping.{stays_trans}
use Rattle.cost_layers.specs.Layers.{rings_at, union_at}
use Rattle.cost_layers.proofs.Holding.{holds_kept}
use Rattle.cost_search.specs.Meeting.{IsLayerMeeting, NoneMeetsFrom}
use Rattle.cost_search.proofs.Coming.{bound_of, is_next, next_past}
use Rattle.cost_search.proofs.Meeting.{meeting_kept, none_there, test_clash}
use Rattle.cost_search.proofs.costs.first_meeting.Goals as goal

pub layer_meets-requires-clause-held : goal.layer_meets-requires-clause-held
layer_meets-requires-clause-held g c = holds_kept (g.S.Space.view c.args.space.now) (g.S.Space.view c.costs.space)
    (rings_at c.args.layers.now) (union_at c.args.layers.now) c.costs.invariant.stays.kept c.requires.held

pub returns-then-branch-clause-ok : goal.returns-then-branch-clause-ok
returns-then-branch-clause-ok g c =
    let v = g.S.Space.view c.args.space.now in
    let l = c.args.layers.now in
    let k = c.costs.invariant.stays.kept in
    let m = c.in_ok-layer_meets.ensures.ok.0 c.if-branch.true in (
      (meeting_kept v (g.S.Space.view c.costs.space) l c.args.set c.in-Some.cost k c.requires.held c.requires.set).0 m,
      subst (λ (o : _). NoneMeetsFrom v l c.args.set c.args.low (bound_of o)) c.in-Some.is c.costs.invariant.none,
    )

pub costs-preserved : goal.costs-preserved
costs-preserved g c =
    let v = g.S.Space.view c.args.space.now in
    let u = g.S.Space.view c.costs.space in
    let l = c.args.layers.now in
    let k = c.costs.invariant.stays.kept in
    let below = subst (λ (o : _). NoneMeetsFrom v l c.args.set c.args.low (bound_of o)) c.in-Some.is c.costs.invariant.none in
    let past = next_past (union_at l) (λ d. c.args.low ≤ d → ¬ IsLayerMeeting v l c.args.set d)
    (λ d e ge. none_there v l c.args.set d c.requires.held e) c.in-Some.cost c.cost_after-next.result
    (λ d lt ge. below d ge lt)
    (λ ge h. test_clash (c.in_ok-layer_meets.ensures.ok.1
    ((meeting_kept v u l c.args.set c.in-Some.cost k c.requires.held c.requires.set).1 h)) c.if-branch.false)
    c.cost_after-next.ensures in
    record {
      stays = stays_trans c.costs.invariant.stays c.layer_meets.ensures.stays;
      next = is_next (union_at l) c.in-Some.cost c.cost_after-next.result c.cost_after-next.ensures;
      none = λ d ge lt. past d lt ge;
    }

pub returns-clause-ok : goal.returns-clause-ok
returns-clause-ok g c = subst (λ (o : _). NoneMeetsFrom (g.S.Space.view c.args.space.now) c.args.layers.now c.args.set
    c.args.low (bound_of o)) c.in_default.is c.costs.invariant.none

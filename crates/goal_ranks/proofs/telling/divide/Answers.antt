use Rattle.std.proofs.Common.{sym, subst}
use Rattle.space_api.specs.View.{Has, Meets}
use Rattle.space_api.specs.Frames.{Gives, Stays}
use Rattle.run_graph.specs.Layering.{InLayer}
use Rattle.space_api.proofs.Keeping.{kept_trans, given_back, gives_stays}
use Rattle.cost_layers.specs.Layers.{Held, Stands}
use Rattle.cost_layers.specs.declared.layers.Layers.{Layers}
use Rattle.cost_search.specs.Search.{layers_of}
use Rattle.cost_search.specs.Meeting.{IsLayerMeeting}
use Rattle.cost_search.proofs.Meeting.{meeting_kept}
use Rattle.goal_ranks.specs.Least.{least_search}
use Rattle.goal_ranks.specs.Ahead.{RingsTell}
use Rattle.goal_ranks.specs.declared.telling.Told.{Told}
use Rattle.goal_ranks.proofs.Keys.{ahead_kept, key_kept}
use Rattle.goal_ranks.proofs.Uniting.{all_kept}
use Rattle.goal_ranks.proofs.Dividing.{lists_reached, spent, later, ring, on_err}
use Rattle.goal_ranks.proofs.telling.divide.Goals as goal

pub returns-then-is_empty-clause-ok : goal.returns-then-is_empty-clause-ok
returns-then-is_empty-clause-ok g c =
    let view = g.S.Space.view in
    spent (view c.args.space.now) (view c.meet.new.self) c.args.ahead.now c.args.waiting c.args.left
    c.in_ok-fresh.fresh c.meet.ensures.kept c.in_ok-fresh.ensures.ok
    (c.is_empty.ensures.empty.0 c.if-is_empty.true) (view c.forget.new.self) c.forget.ensures

pub tell-requires-clause-ahead : goal.tell-requires-clause-ahead
tell-requires-clause-ahead g c = ahead_kept (g.S.Space.view c.args.space.now) (g.S.Space.view c.meet.new.self)
    c.args.ahead.now c.meet.ensures.kept c.requires.ahead

pub tell-requires-clause-rings : goal.tell-requires-clause-rings
tell-requires-clause-rings g c = all_kept (g.S.Space.view c.args.space.now) (g.S.Space.view c.meet.new.self)
    c.args.ahead.now c.args.rings.now c.meet.ensures.kept c.requires.ahead c.requires.rings

pub tell-requires-clause-key : goal.tell-requires-clause-key
tell-requires-clause-key g c =
    let v = g.S.Space.view c.args.space.now in
    let u = g.S.Space.view c.meet.new.self in
    key_kept v u (Meets v c.args.waiting.set c.args.left) (Has u c.in_ok-fresh.fresh) c.args.waiting.cost
    c.args.waiting.key c.meet.ensures.kept.system (λ s h. (c.in_ok-fresh.ensures.ok.means s).0 h) c.requires.key

pub in_layer-near-requires-clause-held : goal.in_layer-near-requires-clause-held
in_layer-near-requires-clause-held g c =
    let view = g.S.Space.view in
    let a = ahead_kept (view c.args.space.now) (view c.tell.new.space) c.args.ahead.now
    (kept_trans c.meet.ensures.kept c.tell.ensures.stays.kept) c.requires.ahead in
    subst (λ (l : Layers _). Held (view c.tell.new.space) l) (sym c.layers.ensures.value) a.least.search.held

pub in_layer-near-requires-clause-meets : goal.in_layer-near-requires-clause-meets
in_layer-near-requires-clause-meets g c =
    let view = g.S.Space.view in
    let u = view c.meet.new.self in
    let x = view c.tell.new.space in
    let f = c.args.ahead.now in
    let fresh = c.in_ok-fresh.fresh in
    let a = ahead_kept (view c.args.space.now) u f c.meet.ensures.kept c.requires.ahead in
    let t = subst (λ (o : Told). RingsTell u f fresh c.args.waiting.cost c.args.waiting.key o) c.in-Ok-Ring.field-0-is c.in-Ok-Ring.ensures.ok in
    subst (λ (l : Layers _). IsLayerMeeting x l fresh c.in-Ok-Ring.cost) (sym c.layers.ensures.value)
    ((meeting_kept u x (layers_of (least_search f)) fresh c.in-Ok-Ring.cost c.tell.ensures.stays.kept a.least.search.held c.in_ok-fresh.ensures.ok.valid).1 t.1)

pub returns-in_err-near-in-Ok-Ring-clause-err : goal.returns-in_err-near-in-Ok-Ring-clause-err
returns-in_err-near-in-Ok-Ring-clause-err g c =
    let view = g.S.Space.view in
    let x = view c.tell.new.space in
    let y = view c.in_layer-near.new.space in
    let s : Stays x y = record { kept = c.in_layer-near.ensures.kept; only = c.in_err-near-in-Ok-Ring.ensures.err } in
    on_err c.from_residual-in_err-near-in-Ok-Ring.result
    (given_back (kept_trans (kept_trans c.meet.ensures.kept c.tell.ensures.stays.kept) s.kept)
    (gives_stays (gives_stays c.in_ok-fresh.ensures.ok c.tell.ensures.stays) s) c.forget-in-Ok-Ring.ensures)

pub returns-in_ok-near-in-Ok-Ring-clause-ok : goal.returns-in_ok-near-in-Ok-Ring-clause-ok
returns-in_ok-near-in-Ok-Ring-clause-ok g c =
    let view = g.S.Space.view in
    let v = view c.args.space.now in
    let u = view c.meet.new.self in
    let x = view c.tell.new.space in
    let y = view c.in_layer-near.new.space in
    let f = c.args.ahead.now in
    let fresh = c.in_ok-fresh.fresh in
    let near = c.in_ok-near-in-Ok-Ring.field-0 in
    let cost = c.in-Ok-Ring.cost in
    let a = ahead_kept v u f c.meet.ensures.kept c.requires.ahead in
    let t = subst (λ (o : Told). RingsTell u f fresh c.args.waiting.cost c.args.waiting.key o) c.in-Ok-Ring.field-0-is c.in-Ok-Ring.ensures.ok in
    let lists = lists_reached x c.task-task.result.now c.parts.ensures.fits (g.met.S.Space.of_task c.tell.new.space) c.task-task.ensures in
    let h = subst (λ (l : Layers _). Gives x y (λ s. Has x fresh s × InLayer (Stands x l) cost s) near)
    c.layers.ensures.value c.in_ok-near-in-Ok-Ring.ensures.ok in (
      ring v u f c.args.waiting c.args.left fresh c.meet.ensures.kept c.in_ok-fresh.ensures.ok cost
          c.tell.ensures.stays lists t a c.in_layer-near.ensures.kept h
          c.forget-in-Ok-Ring.ensures,
      (λ e. cc),
    )

pub returns-in-Ok-Later-clause-ok : goal.returns-in-Ok-Later-clause-ok
returns-in-Ok-Later-clause-ok g c =
    let view = g.S.Space.view in
    let u = view c.meet.new.self in
    let f = c.args.ahead.now in
    let t = subst (λ (o : Told). RingsTell u f c.in_ok-fresh.fresh c.args.waiting.cost c.args.waiting.key o) c.in-Ok-Later.field-0-is c.in-Ok-Later.ensures.ok in
    later (view c.args.space.now) u f c.args.waiting c.args.left c.in_ok-fresh.fresh c.meet.ensures.kept
    c.in_ok-fresh.ensures.ok (view c.tell.new.space) (view c.forget-in-Ok-Later.new.self) c.in-Ok-Later.key
    c.tell.ensures.stays c.forget-in-Ok-Later.ensures t

pub returns-in-Err-clause-err : goal.returns-in-Err-clause-err
returns-in-Err-clause-err g c = given_back (kept_trans c.meet.ensures.kept c.tell.ensures.stays.kept)
    (gives_stays c.in_ok-fresh.ensures.ok c.tell.ensures.stays) c.forget-in-Err.ensures

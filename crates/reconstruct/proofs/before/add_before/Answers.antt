use Rattle.std.proofs.Common.{◌++◌}
use Rattle.cost_layers.specs.Layers.{rings_at, union_at}
use Rattle.cost_layers.proofs.Holding.{holds_kept}
use Rattle.space_api.proofs.Keeping.{kept_refl, kept_trans}
use Rattle.reconstruct.specs.declared.entries.Entry.TheVariants.{Before}
use Rattle.reconstruct.proofs.Sets.{makes_stays, new_stays, new_back}
use Rattle.reconstruct.proofs.Adding.{none_added, none_nowhere, no_layer, before_made, before_added, only_within}
use Rattle.reconstruct.proofs.before.add_before.Goals as goal

pub returns-in_default-clause-added : goal.returns-in_default-clause-added
returns-in_default-clause-added g c back held =
    let v = g.S.Space.view c.args.space.now in
    let e = Before c.args.prefix.now in
    let level = c.args.children.now.level.items in
    let falling = c.args.children.now.falling.items in
    none_added v c.args.front.now back e c.args.op level falling v (kept_refl v) c.requires.op c.requires.entry
    (none_nowhere v c.args.front.now back e c.args.op level falling c.args.way.cost c.requires.cost
    (no_layer c.args.front.now c.args.prefix.now.cost c.args.way.cost c.args.way.layer
    c.in_default.not-Some c.requires.way))

pub put_grown-requires-clause-fits : goal.put_grown-requires-clause-fits
put_grown-requires-clause-fits g c = (rw c.in-Some.is at c.requires.way).0

pub put_grown-requires-clause-front : goal.put_grown-requires-clause-front
put_grown-requires-clause-front g c =
    let view = g.S.Space.view in
    let l = c.args.front.now in
    holds_kept (view c.args.space.now) (view c.set_before.new.space) (rings_at l) (union_at l) c.set_before.ensures.kept c.requires.front

pub returns-in_err-set_before-clause-makes : goal.returns-in_err-set_before-clause-makes
returns-in_err-set_before-clause-makes g c u m =
    let view = g.S.Space.view in
    let old = c.args.children.now in
    makes_stays u (view c.args.space.now) (view c.set_before.new.space) (old.level.items ++ old.falling.items) m c.in_err-set_before.ensures.err

pub returns-in-None-clause-makes : goal.returns-in-None-clause-makes
returns-in-None-clause-makes g c u m =
    let view = g.S.Space.view in
    let old = c.args.children.now in
    makes_stays u (view c.args.space.now) (view c.set_before.new.space) (old.level.items ++ old.falling.items) m
    (rw c.in-None.is at c.in_ok-set_before.ensures.ok).0

pub returns-in-None-clause-added : goal.returns-in-None-clause-added
returns-in-None-clause-added g c back held =
    let view = g.S.Space.view in
    let v = view c.args.space.now in
    let e = Before c.args.prefix.now in
    let level = c.args.children.now.level.items in
    let falling = c.args.children.now.falling.items in
    let none = (rw c.in-None.is at c.in_ok-set_before.ensures.ok).1 in
    let at = (rw c.in-Some.is at c.requires.way).1 in
    none_added v c.args.front.now back e c.args.op level falling (view c.set_before.new.space) c.set_before.ensures.kept c.requires.op c.requires.entry
    (only_within v c.args.front.now back e c.args.op level falling c.in-Some.within c.args.way.cost c.requires.cost at none)

pub returns-in-Ok-clause-makes : goal.returns-in-Ok-clause-makes
returns-in-Ok-clause-makes g c =
    let old = c.args.children.now in
    let new = c.put_grown.new.children in
    let found = rw c.in-Some-2.is at c.in_ok-set_before.ensures.ok in
    before_made old.level.items old.falling.items new.level.items new.falling.items c.requires.op c.requires.cost
    c.requires.entry (rw c.in-Some.is at c.requires.way) c.requires.front
    c.set_before.ensures.kept found c.put_grown.ensures.stays c.in-Ok.ensures.ok

pub returns-in-Ok-clause-added : goal.returns-in-Ok-clause-added
returns-in-Ok-clause-added g c =
    let old = c.args.children.now in
    let new = c.put_grown.new.children in
    let found = rw c.in-Some-2.is at c.in_ok-set_before.ensures.ok in
    before_added old.level.items old.falling.items new.level.items new.falling.items c.requires.op c.requires.cost
    c.requires.entry (rw c.in-Some.is at c.requires.way) c.requires.front
    c.set_before.ensures.kept found c.put_grown.ensures.stays c.in-Ok.ensures.ok

pub returns-in-Err-clause-makes : goal.returns-in-Err-clause-makes
returns-in-Err-clause-makes g c u m =
    let view = g.S.Space.view in
    let v = view c.args.space.now in
    let v1 = view c.set_before.new.space in
    let v2 = view c.put_grown.new.space in
    let old = c.args.children.now in
    let found = rw c.in-Some-2.is at c.in_ok-set_before.ensures.ok in
    let stays = new_back v v2 (view c.forget.new.self) c.in-Some-2.set
    (kept_trans c.set_before.ensures.kept c.put_grown.ensures.stays.kept)
    (new_stays v v1 v2 c.in-Some-2.set found.new c.put_grown.ensures.stays) c.forget.ensures in
    rw (c.in-Err.ensures.level, c.in-Err.ensures.falling) (makes_stays u v (view c.forget.new.self) (old.level.items ++ old.falling.items) m stays)

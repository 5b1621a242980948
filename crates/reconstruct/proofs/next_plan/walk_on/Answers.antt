use Rattle.std.proofs.Common.{arith, inl, inr, Some}
use Rattle.space_api.proofs.Trading.{trades_beside}
use Rattle.lazy_plans.proofs.Shells.{memory_stops}
use Rattle.bidirectional.specs.Both.{IsBeneath, IsOwnOf, front_layers, back_layers}
use Rattle.reconstruct.specs.Working.{OwesByCuts}
use Rattle.plan_cuts.specs.Drawing.{undrawn}
use Rattle.bidirectional.proofs.Ends.{valid_ends, owned_ends, keeps_ends}
use Rattle.reconstruct.proofs.Ends.{right_ends}
use Rattle.reconstruct.proofs.Placing.{sides_of}
use Rattle.reconstruct.proofs.AgendaMoves.{listing_some}
use Rattle.reconstruct.proofs.Walked.{walked_working}
use Rattle.reconstruct.proofs.next_plan.walk_on.Goals as goal

pub walk-requires-clause-sides : goal.walk-requires-clause-sides
walk-requires-clause-sides g c =
    let v = g.S.Space.view c.args.space.now in
    let x = c.args.both.now in
    rw (c.forward_layers.ensures.value, c.backward_layers.ensures.value)
    (sides_of v (front_layers x) (back_layers x) (right_ends v x c.requires.working.stands))

pub walk-requires-clause-lawful : goal.walk-requires-clause-lawful
walk-requires-clause-lawful g c =
    let v = g.S.Space.view c.args.space.now in
    let x = c.args.both.now in
    let place = c.in-Some.field-0 in
    let l = listing_some v (IsBeneath x) (front_layers x) (back_layers x) place c.args.agenda.now.queue
    c.requires.some.0 (rw c.in-Some.is at c.requires.working.at) in
    rw (c.forward_layers.ensures.value, c.backward_layers.ensures.value) (place.cost, undrawn place.left place.after, l.lawful)

pub walk-requires-clause-front_apart : goal.walk-requires-clause-front_apart
walk-requires-clause-front_apart g c =
    let v = g.S.Space.view c.args.space.now in
    let x = c.args.both.now in
    let l = listing_some v (IsBeneath x) (front_layers x) (back_layers x) c.in-Some.field-0 c.args.agenda.now.queue
    c.requires.some.0 (rw c.in-Some.is at c.requires.working.at) in
    rw c.forward_layers.ensures.value (λ a s k. l.apart a s (keeps_ends x a (inl k)))

pub walk-requires-clause-back_apart : goal.walk-requires-clause-back_apart
walk-requires-clause-back_apart g c =
    let v = g.S.Space.view c.args.space.now in
    let x = c.args.both.now in
    let l = listing_some v (IsBeneath x) (front_layers x) (back_layers x) c.in-Some.field-0 c.args.agenda.now.queue
    c.requires.some.0 (rw c.in-Some.is at c.requires.working.at) in
    rw c.backward_layers.ensures.value (λ a s k. l.apart a s (keeps_ends x a (inr k)))

pub walk-requires-clause-memo : goal.walk-requires-clause-memo
walk-requires-clause-memo g c = rw c.backward_layers.ensures.value c.requires.working.moves

pub returns-in-Ok-clause-working : goal.returns-in-Ok-clause-working
returns-in-Ok-clause-working g c =
    let view = g.S.Space.view in
    let v = view c.args.space.now in
    let x = c.args.both.now in
    let z = c.requires.working in
    let place = c.in-Some.field-0 in
    let queue = c.args.agenda.now.queue in
    let l = listing_some v (IsBeneath x) (front_layers x) (back_layers x) place queue c.requires.some.0 (rw c.in-Some.is at z.at) in
    let e = c.walk.ensures in
    let gave = rw (c.forward_layers.ensures.value, c.backward_layers.ensures.value) at c.in-Ok.ensures.gave in
    let right = rw c.backward_layers.ensures.value at e.memo in
    walked_working (record c.args.agenda.now { queue = c.walk.new.queue; memo = c.walk.new.memo }) c.in-Some.is z.stands l e.trades e.queue
    (gave place.cost (Some place.cost) (omega arith) (undrawn place.left place.after) l.lawful).0 right

pub returns-in-Ok-clause-turned : goal.returns-in-Ok-clause-turned
returns-in-Ok-clause-turned g c most range =
    let v = g.S.Space.view c.args.space.now in
    let x = c.args.both.now in
    let place = c.in-Some.field-0 in
    let l = listing_some v (IsBeneath x) (front_layers x) (back_layers x) place c.args.agenda.now.queue
    c.requires.some.0 (rw c.in-Some.is at c.requires.working.at) in
    let wanted = rw c.in-Some.is at range in
    let gave = rw (c.forward_layers.ensures.value, c.backward_layers.ensures.value) at c.in-Ok.ensures.gave in
    rw (c.in-Some.is, c.of.ensures) ((gave place.cost most wanted (undrawn place.left place.after) l.lawful).1)

pub returns-in-Err-clause-working : goal.returns-in-Err-clause-working
returns-in-Err-clause-working g c =
    let view = g.S.Space.view in
    let v = view c.args.space.now in
    let x = c.args.both.now in
    let z = c.requires.working in
    let place = c.in-Some.field-0 in
    let queue = c.args.agenda.now.queue in
    let l = listing_some v (IsBeneath x) (front_layers x) (back_layers x) place queue c.requires.some.0 (rw c.in-Some.is at z.at) in
    let e = c.walk.ensures in
    let owes = rw (c.forward_layers.ensures.value, c.backward_layers.ensures.value) at c.in-Err.ensures.owes in
    let right = rw c.backward_layers.ensures.value at e.memo in
    walked_working (record c.args.agenda.now { queue = c.walk.new.queue; memo = c.walk.new.memo }) c.in-Some.is z.stands l e.trades e.queue
    (owes place.cost (undrawn place.left place.after) l.lawful).0 right

pub returns-in-Err-clause-turned : goal.returns-in-Err-clause-turned
returns-in-Err-clause-turned g c most range =
    let v = g.S.Space.view c.args.space.now in
    let x = c.args.both.now in
    let place = c.in-Some.field-0 in
    let queue = c.args.agenda.now.queue in
    let l = listing_some v (IsBeneath x) (front_layers x) (back_layers x) place queue c.requires.some.0 (rw c.in-Some.is at c.requires.working.at) in
    let owes = rw (c.forward_layers.ensures.value, c.backward_layers.ensures.value) at c.in-Err.ensures.owes in
    rw c.in-Some.is (
      memory_stops v.system most (OwesByCuts v (front_layers x) (back_layers x) (Some place) queue),
      (owes place.cost (undrawn place.left place.after) l.lawful).1,
    )

pub returns-in-Ok-clause-trades : goal.returns-in-Ok-clause-trades
returns-in-Ok-clause-trades g c =
    let v = g.S.Space.view c.args.space.now in
    let x = c.args.both.now in
    let z = c.requires.working in
    let l = listing_some v (IsBeneath x) (front_layers x) (back_layers x) c.in-Some.field-0 c.args.agenda.now.queue c.requires.some.0 (rw c.in-Some.is at z.at) in
    trades_beside (IsOwnOf x) c.walk.ensures.trades (λ a o. let u = owned_ends x a o in (valid_ends v x z.stands a u, λ s. l.apart a s u))

pub returns-in-Err-clause-trades : goal.returns-in-Err-clause-trades
returns-in-Err-clause-trades g c =
    let v = g.S.Space.view c.args.space.now in
    let x = c.args.both.now in
    let z = c.requires.working in
    let l = listing_some v (IsBeneath x) (front_layers x) (back_layers x) c.in-Some.field-0 c.args.agenda.now.queue c.requires.some.0 (rw c.in-Some.is at z.at) in
    trades_beside (IsOwnOf x) c.walk.ensures.trades (λ a o. let u = owned_ends x a o in (valid_ends v x z.stands a u, λ s. l.apart a s u))

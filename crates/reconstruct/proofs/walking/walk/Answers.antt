use Rattle.std.proofs.Common.{arith, List, length, sym, ap, subst}
use Rattle.space_api.proofs.Trading.{trades_trans}
use Rattle.plan_cuts.specs.Entries.{PlainEntry, height, entry_weight}
use Rattle.plan_cuts.proofs.Queue.{last_by}
use Rattle.reconstruct.specs.Entries.{member_in}
use Rattle.reconstruct.specs.Walked.{OwesOn}
use Rattle.reconstruct.proofs.Staying.{held_in, traded, right_there, right_before, right_on}
use Rattle.reconstruct.proofs.Walks.{WalkedTo, walked_first, turn_goes, turn_left, turn_gives, turn_refused, walk_left, some_stand, same_stand, still_apart, err_of, none_traded}
use Rattle.reconstruct.proofs.walking.walk.Goals as goal

pub turns-init : goal.turns-init
turns-init g c =
    let u = g.S.Space.view c.args.space.now in
    record {
      trades = none_traded u c.args.queue.now c.requires.queue;
      queue = c.requires.queue;
      some = c.requires.some;
      single = c.requires.single;
      walked = walked_first u c.args.front.now c.args.back.now c.args.queue.now c.requires.lawful;
      memo = c.requires.memo;
      from = omega arith;
      steps = omega arith;
    }

pub turn-requires-clause-front : goal.turn-requires-clause-front
turn-requires-clause-front g c =
    let view = g.S.Space.view in
    let u = view c.args.space.now in
    let v = view c.turns.space in
    held_in u v c.args.front.now c.requires.front (traded u v c.args.queue.now c.turns.queue c.turns.invariant.trades
    c.args.front.now c.requires.front c.requires.front_apart)

pub turn-requires-clause-back : goal.turn-requires-clause-back
turn-requires-clause-back g c =
    let view = g.S.Space.view in
    let u = view c.args.space.now in
    let v = view c.turns.space in
    held_in u v c.args.back.now c.requires.back (traded u v c.args.queue.now c.turns.queue c.turns.invariant.trades
    c.args.back.now c.requires.back c.requires.back_apart)

pub returns-in_err-plan-clause-owes : goal.returns-in_err-plan-clause-owes
returns-in_err-plan-clause-owes g c =
    let view = g.S.Space.view in
    let r = c.requires in
    let i = c.turns.invariant in
    let start = c.args.queue.now in
    let e = c.in_err-plan.ensures in
    let t = rw e.err at (trades_trans i.trades e.trades) in
    let owes = turn_refused start c.turns.queue r.front r.back r.front_apart r.back_apart t i.walked i.queue e.stays in
    err_of c.from_residual.result (OwesOn (view c.args.space.now) (view c.turn.new.space) c.args.front.now
    c.args.back.now start c.turn.new.queue) (rw e.err owes)

pub returns-in-Some-clause-gave : goal.returns-in-Some-clause-gave
returns-in-Some-clause-gave g c =
    let r = c.requires in
    let i = c.turns.invariant in
    let e = c.in_ok-plan.ensures in
    (turn_gives c.args.queue.now c.turns.queue c.turn.new.queue r.front r.back r.front_apart r.back_apart r.sides
    i.trades (trades_trans i.trades e.trades) i.walked c.in-Some.plan.items (rw c.in-Some.is at e.ok)).0

pub returns-in-Some-clause-steps : goal.returns-in-Some-clause-steps
returns-in-Some-clause-steps g c =
    let r = c.requires in
    let i = c.turns.invariant in
    let e = c.in_ok-plan.ensures in
    let weight = (turn_gives c.args.queue.now c.turns.queue c.turn.new.queue r.front r.back r.front_apart r.back_apart
    r.sides i.trades (trades_trans i.trades e.trades) i.walked c.in-Some.plan.items
    (rw c.in-Some.is at e.ok)).1 in
    (omega (arith, e.counted, i.from), omega (arith, e.counted, i.steps, weight))

pub single_out-requires-clause-front : goal.single_out-requires-clause-front
single_out-requires-clause-front g c =
    let view = g.S.Space.view in
    let u = view c.args.space.now in
    let w = view c.turn.new.space in
    let t = trades_trans c.turns.invariant.trades c.in_ok-plan.ensures.trades in
    held_in u w c.args.front.now c.requires.front (traded u w c.args.queue.now c.turn.new.queue t c.args.front.now
    c.requires.front c.requires.front_apart)

pub single_out-requires-clause-apart : goal.single_out-requires-clause-apart
single_out-requires-clause-apart g c =
    still_apart c.args.front.now c.args.queue.now c.turn.new.queue c.requires.front c.requires.front_apart
    (trades_trans c.turns.invariant.trades c.in_ok-plan.ensures.trades)

pub turns-smaller : goal.turns-smaller
turns-smaller g c =
    let r = c.requires in
    let i = c.turns.invariant in
    let e = c.in_ok-plan.ensures in
    let start = c.args.queue.now in
    let t = trades_trans i.trades e.trades in
    let on = turn_goes start c.turns.queue c.turn.new.queue r.front r.back r.front_apart r.back_apart r.sides i.trades t
    i.walked (rw c.in-None.is at e.ok) in
    let stand = same_stand c.args.front.now start c.turn.new.queue r.front r.front_apart t (g.S.Space.view c.single_out.new.space) c.single_out.new.queue c.single_out.ensures.same in
    omega (arith, on.1, ap (last_by height) stand)

pub turns-preserved : goal.turns-preserved
turns-preserved g c =
    let view = g.S.Space.view in
    let u = view c.args.space.now in
    let z = view c.single_out.new.space in
    let r = c.requires in
    let i = c.turns.invariant in
    let start = c.args.queue.now in
    let old = c.turns.queue in
    let new = c.turn.new.queue in
    let e = c.in_ok-plan.ensures in
    let s = c.single_out.ensures in
    let went = rw c.in-None.is at e.ok in
    let t = trades_trans i.trades e.trades in
    let t2 = trades_trans t s.trades in
    let on = turn_goes start old new r.front r.back r.front_apart r.back_apart r.sides i.trades t i.walked went in
    let left = turn_left start old new r.front r.back r.front_apart r.back_apart r.sides i.trades t i.walked went in
    let stand = same_stand c.args.front.now start new r.front r.front_apart t (view c.single_out.new.space) c.single_out.new.queue s.same in
    record {
      trades = t2;
      queue = s.queue;
      some = some_stand z (member_in u c.args.front.now) c.single_out.new.queue (omega (arith, left, ap length stand));
      single = c.in_ok-single_out-in-None.ensures.ok;
      walked = subst (λ (es : List PlainEntry). WalkedTo u c.args.front.now c.args.back.now start es) (sym stand) on.0;
      memo = right_before u (view c.turns.space) start old i.trades c.args.back.now r.back r.back_apart c.turn.new.memo e.memo;
      from = omega (arith, e.counted, i.from);
      steps = omega (arith, e.counted, i.steps, on.2, ap (last_by entry_weight) stand);
    }

pub returns-in_err-single_out-in-None-clause-owes : goal.returns-in_err-single_out-in-None-clause-owes
returns-in_err-single_out-in-None-clause-owes g c =
    let view = g.S.Space.view in
    let u = view c.args.space.now in
    let r = c.requires in
    let i = c.turns.invariant in
    let start = c.args.queue.now in
    let new = c.turn.new.queue in
    let e = c.in_ok-plan.ensures in
    let s = c.single_out.ensures in
    let t = trades_trans i.trades e.trades in
    let on = turn_goes start c.turns.queue new r.front r.back r.front_apart r.back_apart r.sides i.trades t i.walked (rw c.in-None.is at e.ok) in
    let stand = same_stand c.args.front.now start new r.front r.front_apart t (view c.single_out.new.space) c.single_out.new.queue s.same in
    err_of c.from_residual-in_err-single_out-in-None.result (OwesOn u (view c.single_out.new.space) c.args.front.now c.args.back.now
    start c.single_out.new.queue) (walk_left start c.single_out.new.queue r.front r.back r.front_apart r.back_apart (trades_trans t s.trades)
    (subst (λ (es : List PlainEntry). WalkedTo u c.args.front.now c.args.back.now start es) (sym stand) on.0))

pub turn-requires-clause-memo : goal.turn-requires-clause-memo
turn-requires-clause-memo g c =
    let view = g.S.Space.view in
    right_there (view c.args.space.now) (view c.turns.space) c.args.queue.now c.turns.queue c.turns.invariant.trades
    c.args.back.now c.requires.back c.requires.back_apart c.turns.memo c.turns.invariant.memo

pub returns-in_err-plan-clause-memo : goal.returns-in_err-plan-clause-memo
returns-in_err-plan-clause-memo g c =
    let e = c.in_err-plan.ensures in
    right_on c.args.queue.now c.turns.queue c.turn.new.queue c.turns.invariant.trades e.trades c.args.back.now
    c.requires.back c.requires.back_apart c.turn.new.memo e.memo

pub returns-in-Some-clause-memo : goal.returns-in-Some-clause-memo
returns-in-Some-clause-memo g c =
    let e = c.in_ok-plan.ensures in
    right_on c.args.queue.now c.turns.queue c.turn.new.queue c.turns.invariant.trades e.trades c.args.back.now
    c.requires.back c.requires.back_apart c.turn.new.memo e.memo

pub returns-in_err-single_out-in-None-clause-trades : goal.returns-in_err-single_out-in-None-clause-trades
returns-in_err-single_out-in-None-clause-trades g c =
    trades_trans (trades_trans c.turns.invariant.trades c.in_ok-plan.ensures.trades) c.single_out.ensures.trades

pub returns-in_err-single_out-in-None-clause-memo : goal.returns-in_err-single_out-in-None-clause-memo
returns-in_err-single_out-in-None-clause-memo g c =
    let t = trades_trans c.turns.invariant.trades c.in_ok-plan.ensures.trades in
    right_there (g.S.Space.view c.args.space.now) (g.S.Space.view c.single_out.new.space) c.args.queue.now c.single_out.new.queue
    (trades_trans t c.single_out.ensures.trades) c.args.back.now c.requires.back c.requires.back_apart c.turn.new.memo
    (right_before (g.S.Space.view c.args.space.now) (g.S.Space.view c.turns.space) c.args.queue.now c.turns.queue
    c.turns.invariant.trades c.args.back.now c.requires.back c.requires.back_apart c.turn.new.memo c.in_ok-plan.ensures.memo)

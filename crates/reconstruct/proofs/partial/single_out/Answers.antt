use Rattle.std.proofs.Common.{◌≡◌, ℕ, Bool, None, false, refl, ◌∙◌, subst}
use Rattle.task_system.specs.System.{State}
use Rattle.space_api.proofs.Trading.{trades_trans}
use Rattle.reconstruct.specs.Entries.{plains, plains_of, member_in}
use Rattle.reconstruct.specs.declared.entries.Entry.{Entry}
use Rattle.reconstruct.specs.declared.entries.Entry.TheVariants.{Partial}
use Rattle.reconstruct.proofs.Kept.{plains_kept}
use Rattle.reconstruct.proofs.Staying.{held_in, traded, member_same}
use Rattle.reconstruct.proofs.Turning.{queue_stays, trades_none, same_last, replaced_queue, replaced_trades, stands_same}
use Rattle.reconstruct.proofs.Walks.{none_traded}
use Rattle.reconstruct.proofs.SingleOut.{parts_fewer, last_ok}
use Rattle.reconstruct.proofs.partial.single_out.Goals as goal

pub parts-init : goal.parts-init
parts-init g c = record {
  trades = none_traded (g.S.Space.view c.args.space.now) c.args.queue.now c.requires.queue;
  queue = c.requires.queue;
  same = refl;
}

pub find_parts-requires-clause-front : goal.find_parts-requires-clause-front
find_parts-requires-clause-front g c =
    let view = g.S.Space.view in
    let u = view c.args.space.now in
    let v = view c.parts.space in
    held_in u v c.args.front.now c.requires.front (traded u v c.args.queue.now c.parts.queue c.parts.invariant.trades
    c.args.front.now c.requires.front c.requires.apart)

pub find_parts-requires-clause-entry : goal.find_parts-requires-clause-entry
find_parts-requires-clause-entry g c = last_ok {e = Partial c.in-Some.partial.now} c.parts.invariant.queue (rw c.in-Some.is at c.partial.ensures)

pub returns-in_err-entries-clause-queue : goal.returns-in_err-entries-clause-queue
returns-in_err-entries-clause-queue g c = queue_stays (g.S.Space.view c.parts.space) (g.S.Space.view c.find_parts.new.space)
    c.parts.queue c.in_err-entries.ensures.err c.parts.invariant.queue

pub returns-in_err-entries-clause-same : goal.returns-in_err-entries-clause-same
returns-in_err-entries-clause-same g c =
    let view = g.S.Space.view in
    let i = c.parts.invariant in
    plains_kept (view c.parts.space) (view c.find_parts.new.space) c.in_err-entries.ensures.err.kept
    (member_in (view c.args.space.now) c.args.front.now) c.parts.queue i.queue.each ∙ i.same

pub parts-smaller : goal.parts-smaller
parts-smaller g c =
    let view = g.S.Space.view in
    parts_fewer (view c.find_parts.new.space) (view c.replace_partial.new.space) c.parts.queue c.replace_partial.new.queue
    c.in_ok-entries.entries.items c.in-Some.partial.now None (rw c.in-Some.is at c.partial.ensures)
    c.in_ok-replace_partial.ensures.ok c.in_ok-entries.ensures.ok.2

pub parts-preserved : goal.parts-preserved
parts-preserved g c =
    let view = g.S.Space.view in
    let u = view c.args.space.now in
    let v = view c.parts.space in
    let x = view c.find_parts.new.space in
    let w = view c.replace_partial.new.space in
    let fr = c.args.front.now in
    let i = c.parts.invariant in
    let old = c.parts.queue in
    let new = c.replace_partial.new.queue in
    let es = c.in_ok-entries.entries.items in
    let p = c.in-Some.partial.now in
    let m = c.in_ok-entries.ensures.ok in
    let r = c.in_ok-replace_partial.ensures.ok in
    let last = rw c.in-Some.is at c.partial.ensures in
    let mf : member_in v fr ≡ member_in u fr =
    member_same u v fr c.requires.front (traded u v c.args.queue.now old i.trades fr c.requires.front c.requires.apart) in
    let one = subst (λ (q : ℕ → State → Bool). plains x q es ≡ plains_of v q (Partial p)) mf m.1 in
    let taken = subst (λ (z : Entry _). plains x (member_in u fr) es ≡ plains_of v (member_in u fr) z)
    (same_last old r.0 (Partial p) r.1 last r.2) one in
    record {
      trades = trades_trans i.trades (replaced_trades v x w old new es false None i.queue m.0 r);
      queue = replaced_queue v x w old new es false None i.queue m.0 r;
      same = stands_same v x w old new es false None i.queue m.0 r (member_in u fr) taken ∙ i.same;
    }

pub returns-in_err-replace_partial-clause-queue : goal.returns-in_err-replace_partial-clause-queue
returns-in_err-replace_partial-clause-queue g c =
    let view = g.S.Space.view in
    let e = c.in_err-replace_partial.ensures in
    rw e.err (queue_stays (view c.parts.space) (view c.replace_partial.new.space) c.parts.queue
    (e.back (view c.parts.space) c.in_ok-entries.ensures.ok.0) c.parts.invariant.queue)

pub returns-in_err-replace_partial-clause-trades : goal.returns-in_err-replace_partial-clause-trades
returns-in_err-replace_partial-clause-trades g c =
    let view = g.S.Space.view in
    let e = c.in_err-replace_partial.ensures in
    rw e.err (trades_trans c.parts.invariant.trades (trades_none (view c.parts.space) (view c.replace_partial.new.space)
    c.parts.queue (e.back (view c.parts.space) c.in_ok-entries.ensures.ok.0) c.parts.invariant.queue))

pub returns-in_err-replace_partial-clause-same : goal.returns-in_err-replace_partial-clause-same
returns-in_err-replace_partial-clause-same g c =
    let view = g.S.Space.view in
    let e = c.in_err-replace_partial.ensures in
    let i = c.parts.invariant in
    rw e.err (plains_kept (view c.parts.space) (view c.replace_partial.new.space)
    (e.back (view c.parts.space) c.in_ok-entries.ensures.ok.0).kept (member_in (view c.args.space.now) c.args.front.now)
    c.parts.queue i.queue.each ∙ i.same)

use Rattle.std.proofs.Common.{ap, subst}
use Rattle.task_system.specs.System.{System}
use Rattle.prefix_tree.specs.Entries.{queued_entries, prefixes}
use Rattle.loopless.specs.declared.front.Front.{Front}
use Rattle.loopless.specs.Front.{IsLooplessFirst}
use Rattle.loopless.specs.Standing.{GoesOnLoopless}
use Rattle.loopless.proofs.Opening.{on_err}
use Rattle.loopless.proofs.Readying.{ready_informed, ready_moved, ready_queue, replaced_perm, learned_ready, learned_goes, better_as}
use Rattle.loopless.proofs.turn.learn.Goals as goal

pub refresh-requires-clause-informed : goal.refresh-requires-clause-informed
refresh-requires-clause-informed g c = ready_informed (g.S.Space.view c.args.space.now) c.args.backward.now c.args.front.now c.requires.ready

pub returns : goal.returns
returns g c =
    let v = g.S.Space.view c.args.space.now in
    let w = g.S.Space.view c.refresh.new.space in
    let b = c.refresh.new.backward in
    let f = c.args.front.now in
    let h : Front = record f { rests = c.refresh.new.rests } in
    let q = c.replace.new.self in
    let e = c.args.entry in
    let o = c.in_ok-better.better in
    let m = c.refresh.ensures.moved in
    let first : IsLooplessFirst h e = record { some = c.requires.first.some; at = c.requires.first.at } in
    let ready = ready_moved v w c.args.backward.now b f c.refresh.new.rests c.refresh.ensures.kept c.refresh.ensures.backward m c.requires.ready in
    let better = better_as v.system w.system f.tree.items e o m.trades.system (rw c.deref.ensures.value at c.in_ok-better.ensures.better) in
    let perm = rw c.in_ok-others.ensures at
    (replaced_perm f (queued_entries c.make_room.new.self) c.in_ok-others.others.items (queued_entries q) e c.make_room.ensures.same c.requires.first
    c.replace.ensures.replaces) in
    record {
      system = m.trades.system;
      ready = learned_ready w b h q e first ready o better perm;
      ok = subst (λ (y : System). GoesOnLoopless y f (record h { queue = q })) m.trades.system (learned_goes w b h q e first ready o better perm);
      err = tt;
      one = c.replace.ensures.steps;
      none = tt;
    }

pub returns-in_err-better-clause-ready : goal.returns-in_err-better-clause-ready
returns-in_err-better-clause-ready g c =
    ready_moved (g.S.Space.view c.args.space.now) (g.S.Space.view c.refresh.new.space) c.args.backward.now c.refresh.new.backward c.args.front.now
    c.refresh.new.rests c.refresh.ensures.kept c.refresh.ensures.backward c.refresh.ensures.moved c.requires.ready

pub returns-in_err-others-clause-ready : goal.returns-in_err-others-clause-ready
returns-in_err-others-clause-ready g c =
    ready_moved (g.S.Space.view c.args.space.now) (g.S.Space.view c.refresh.new.space) c.args.backward.now c.refresh.new.backward c.args.front.now
    c.refresh.new.rests c.refresh.ensures.kept c.refresh.ensures.backward c.refresh.ensures.moved c.requires.ready

pub returns-in_err-make_room-clause-ready : goal.returns-in_err-make_room-clause-ready
returns-in_err-make_room-clause-ready g c =
    let w = g.S.Space.view c.refresh.new.space in
    let b = c.refresh.new.backward in
    let f = c.args.front.now in
    let ready = ready_moved (g.S.Space.view c.args.space.now) w c.args.backward.now b f c.refresh.new.rests c.refresh.ensures.kept
    c.refresh.ensures.backward c.refresh.ensures.moved c.requires.ready in
    ready_queue w b (record f { rests = c.refresh.new.rests }) c.make_room.new.self c.make_room.ensures.same ready

pub returns-in_err-make_room-clause-err : goal.returns-in_err-make_room-clause-err
returns-in_err-make_room-clause-err g c =
    on_err c.from_residual-in_err-make_room.result (ap (prefixes c.args.front.now.tree.items) c.make_room.ensures.same)

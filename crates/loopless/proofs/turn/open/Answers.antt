use Rattle.prefix_tree.specs.Entries.{queued_entries}
use Rattle.loopless.proofs.Opening.{on_err, ready_grown, prefixes_grown, open_ready, open_opens}
use Rattle.loopless.proofs.Readying.{replaced_perm}
use Rattle.loopless.proofs.turn.open.Goals as goal

pub returns : goal.returns
returns g c =
    let v = g.S.Space.view c.args.space.now in
    let b = c.args.backward.now in
    let f = c.args.front.now in
    let h = c.expand.new.front in
    let q = c.replace.new.self in
    let kids = c.in_ok-children.children.items in
    let e = c.args.entry in
    let first = c.requires.first in
    let grown = c.expand.ensures.grown in
    let perm = replaced_perm f (queued_entries h.queue) kids (queued_entries q) e grown.queue first c.replace.ensures.replaces in
    let children = c.in_ok-children.ensures.children in
    let plan = rw c.deref.ensures.value at c.in_ok-plan.ensures in
    record {
      ready = open_ready v b f h grown c.requires.ready q kids e first children perm;
      ok = open_opens v b f h grown c.requires.ready q kids e first children perm c.in_ok-plan.plan plan;
      err = tt;
      one = c.replace.ensures.steps;
      none = tt;
    }

pub returns-in_err-children-clause-ready : goal.returns-in_err-children-clause-ready
returns-in_err-children-clause-ready g c =
    ready_grown (g.S.Space.view c.args.space.now) c.args.backward.now c.args.front.now c.expand.new.front c.expand.ensures.grown c.requires.ready

pub returns-in_err-children-clause-err : goal.returns-in_err-children-clause-err
returns-in_err-children-clause-err g c = on_err c.from_residual-in_err-children.result
    (prefixes_grown (g.S.Space.view c.args.space.now) c.args.backward.now c.args.front.now c.expand.new.front c.expand.ensures.grown c.requires.ready)

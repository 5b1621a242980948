use Rattle.reconstruct.proofs.Remembering.{right_too}
use Rattle.reconstruct.proofs.after.find_after.Goals as goal

pub returns-clause-memo : goal.returns-clause-memo
returns-clause-memo g c =
    right_too (g.S.Space.view c.args.space.now) c.args.back.now c.args.memo.now c.keep.new.self c.args.suffix.now.cost
    c.args.suffix.now.state c.in_ok-all.all.moves.items c.in_ok-all.all.ends c.requires.memo
    c.in_ok-all.ensures c.keep.ensures

pub returns-in_err-add_all-clause-makes : goal.returns-in_err-add_all-clause-makes
returns-in_err-add_all-clause-makes g c =
    c.add_all.ensures.makes (g.S.Space.view c.args.space.now) c.args.back.now c.requires.entry (rw c.deref.ensures.value c.in_ok-all.ensures.all)

pub returns-clause-makes : goal.returns-clause-makes
returns-clause-makes g c =
    c.add_all.ensures.makes (g.S.Space.view c.args.space.now) c.args.back.now c.requires.entry (rw c.deref.ensures.value c.in_ok-all.ensures.all)

pub returns-clause-ok : goal.returns-clause-ok
returns-clause-ok g c =
    c.in_ok-add_all.ensures.ok (g.S.Space.view c.args.space.now) c.args.back.now c.requires.entry (rw c.deref.ensures.value c.in_ok-all.ensures.all)

use Rattle.reconstruct.proofs.Adding.{on_ok}
use Rattle.reconstruct.proofs.after.gather_after.Goals as goal

pub returns-in-Some-clause-makes : goal.returns-in-Some-clause-makes
returns-in-Some-clause-makes g c =
    let e = c.args.suffix.now in
    let all = (c.requires.memo e.cost e.state c.in-Some.moves.now c.in-Some.ensures.0 c.in-Some.ensures.1).all in
    c.add_all.ensures.makes (g.S.Space.view c.args.space.now) c.args.back.now c.requires.entry all

pub returns-in-Some-clause-ok : goal.returns-in-Some-clause-ok
returns-in-Some-clause-ok g c =
    let e = c.args.suffix.now in
    let all = (c.requires.memo e.cost e.state c.in-Some.moves.now c.in-Some.ensures.0 c.in-Some.ensures.1).all in
    on_ok c.add_all.result _ _ (λ h. h (g.S.Space.view c.args.space.now) c.args.back.now c.requires.entry all) c.add_all.ensures.ok

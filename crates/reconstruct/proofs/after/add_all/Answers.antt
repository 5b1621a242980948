use Rattle.std.proofs.Common.{arith}
use Rattle.reconstruct.specs.Moves.{ops_of}
use Rattle.reconstruct.specs.declared.entries.Entry.TheVariants.{After}
use Rattle.reconstruct.proofs.Moving.{move_at, ops_many, one_move, moved_made, moved_added, misses_no_move}
use Rattle.reconstruct.proofs.Gathering.{sofar_next, sofar_end, sofar_all}
use Rattle.reconstruct.proofs.after.add_all.Goals as goal

pub moves-preserved : goal.moves-preserved
moves-preserved g c =
    let i = c.moves.invariant in
    let e = c.args.suffix.now in
    let moves = c.args.moves.now in
    let step = c.step-item.result in
    let n = c.moves.step-index in
    let lt = c.moves-test.true in
    let level = c.moves.children.level.items in
    let falling = c.moves.children.falling.items in
    let new = c.put_grown.new.children in
    let at = move_at moves step n lt c.step-item.is in
    let put = c.in_ok-put_grown.ensures.ok in
    record {
      makes = λ v back ok all. moved_made e (one_move e all step n lt c.step-item.is) ok level falling new.level.items
          new.falling.items put v (i.makes v back ok all);
      sofar = λ v front back ok all. sofar_next v front back (After e) (ops_of moves) n level falling new.level.items
          new.falling.items at.0 (i.makes v back ok all).each (i.sofar v front back ok all)
          (rw at.1 at (moved_added e (one_move e all step n lt c.step-item.is) ok level falling new.level.items new.falling.items put front));
    }

pub returns-in_err-put_grown-clause-makes : goal.returns-in_err-put_grown-clause-makes
returns-in_err-put_grown-clause-makes g c = rw (c.in_err-put_grown.ensures.level, c.in_err-put_grown.ensures.falling) c.moves.invariant.makes

pub returns-clause-ok : goal.returns-clause-ok
returns-clause-ok g c v back ok all front =
    let e = c.args.suffix.now in
    let moves = c.args.moves.now in
    let level = c.moves.children.level.items in
    let falling = c.moves.children.falling.items in
    sofar_end v v front back (After e) (ops_of moves) level falling (λ f b listed ready. misses_no_move e all front f b listed ok ready)
    (sofar_all v v front back (After e) (ops_of moves) c.moves.step-index level falling
    (ops_many moves c.moves.step-index (omega (arith, c.moves-test.false)))
    (c.moves.invariant.sofar v front back ok all))

use Rattle.std.proofs.Common.{arith}
use Rattle.reconstruct.proofs.Sets.{next_back, one_back, all_back}
use Rattle.reconstruct.proofs.entries.give_back_entries.Goals as goal

pub give_back-requires : goal.give_back-requires
give_back-requires g c =
    next_back c.args.entries.now c.loop-entry.entry-index c.entry-item.result c.loop-entry-test.true c.entry-item.is
    c.requires.distinct c.requires.valid c.loop-entry.invariant

pub loop-entry-preserved : goal.loop-entry-preserved
loop-entry-preserved g c =
    let view = g.S.Space.view in
    let u = view c.args.space.now in
    let v = view c.loop-entry.space in
    let w = view c.give_back.new.space in
    one_back u v w c.args.entries.now c.loop-entry.entry-index c.entry-item.result c.loop-entry-test.true
    c.entry-item.is c.loop-entry.invariant c.give_back.ensures

pub returns : goal.returns
returns g c =
    let view = g.S.Space.view in
    all_back (view c.args.space.now) (view c.loop-entry.space) c.args.entries.now c.loop-entry.entry-index
    (omega (arith, c.loop-entry-test.false)) c.loop-entry.invariant

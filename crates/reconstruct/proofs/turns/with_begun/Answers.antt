use Rattle.std.proofs.Common.{append-nil, sym}
use Rattle.reconstruct.proofs.Sets.{in_valid, made_back}
use Rattle.reconstruct.proofs.turns.with_begun.Goals as goal

pub returns-in-None-clause-ok : goal.returns-in-None-clause-ok
returns-in-None-clause-ok g c = rw c.in-None.is (sym (append-nil c.args.entries.items))

pub give_back_entries-requires-clause-valid : goal.give_back_entries-requires-clause-valid
give_back_entries-requires-clause-valid g c = rw (c.deref.ensures.value, c.in-Err.ensures.items)
    (λ a h. in_valid (g.S.Space.view c.args.space.now) c.args.entries.items a c.requires.made.1.each h)

pub returns-in-Err-clause-back : goal.returns-in-Err-clause-back
returns-in-Err-clause-back g c u m =
    let view = g.S.Space.view in
    let t = rw (c.deref.ensures.value, c.in-Err.ensures.items) at c.give_back_entries.ensures in
    made_back u (view c.args.space.now) (view c.give_back_entries.new.space) c.args.entries.items m t

use Rattle.std.proofs.Common.{false}
use Rattle.reconstruct.proofs.Sets.{in_valid, made_back}
use Rattle.reconstruct.proofs.Turning.{taken_valid, taken_out}
use Rattle.reconstruct.proofs.partial.replace_partial.Goals as goal

pub give_back_entries-requires-clause-valid : goal.give_back_entries-requires-clause-valid
give_back_entries-requires-clause-valid g c = rw (c.deref.ensures.value, c.in-Err.ensures.found)
    (λ a h. in_valid (g.S.Space.view c.args.space.now) c.args.entries.items a c.requires.made.1.each h)

pub give_back-requires : goal.give_back-requires
give_back-requires g c = taken_valid c.requires.made.0 (g.S.Space.view c.args.space.now) c.args.queue.now
    c.part.new.self c.args.entries.items c.in-Ok.entry c.in-Ok.ensures.ok c.requires.made.2 c.requires.made.1

pub returns-in-Ok-clause-ok : goal.returns-in-Ok-clause-ok
returns-in-Ok-clause-ok g c =
    let view = g.S.Space.view in
    taken_out (view c.args.space.now) (view c.give_back.new.space) c.args.queue.now c.part.new.self c.args.entries.items
    c.in-Ok.entry false c.in-Ok.ensures.ok c.give_back.ensures

pub returns-clause-back : goal.returns-clause-back
returns-clause-back g c u m =
    let view = g.S.Space.view in
    made_back u (view c.args.space.now) (view c.give_back_entries.new.space) c.args.entries.items m
    (rw (c.deref.ensures.value, c.in-Err.ensures.found) at c.give_back_entries.ensures)

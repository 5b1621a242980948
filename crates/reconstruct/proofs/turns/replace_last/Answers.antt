use Rattle.reconstruct.proofs.Sets.{in_valid, made_back}
use Rattle.reconstruct.proofs.Turning.{taken_valid, taken_out, told}
use Rattle.reconstruct.proofs.turns.replace_last.Goals as goal

pub give_back_entries-requires-clause-valid : goal.give_back_entries-requires-clause-valid
give_back_entries-requires-clause-valid g c = rw (c.deref.ensures.value, c.in-Err.ensures.next)
    (λ a h. in_valid (g.S.Space.view c.args.space.now) c.args.next.entries.items a c.requires.made.1.each h)

pub give_back-requires : goal.give_back-requires
give_back-requires g c = taken_valid c.requires.made.0 (g.S.Space.view c.args.space.now) c.args.queue.now
    c.take.new.self c.args.next.entries.items c.in-Ok.entry c.in-Ok.ensures.ok c.requires.made.2 c.requires.made.1

pub returns-in-Ok-clause-ok : goal.returns-in-Ok-clause-ok
returns-in-Ok-clause-ok g c =
    let view = g.S.Space.view in
    let v = view c.args.space.now in
    let w = view c.give_back.new.space in
    let r = taken_out v w c.args.queue.now c.take.new.self c.args.next.entries.items c.in-Ok.entry c.args.next.done c.in-Ok.ensures.ok c.give_back.ensures in
    told (λ p. p.items) c.args.queue.now c.take.new.self c.args.next.entries.items c.args.next.done c.in-Ok.entry
    c.plan_of.result c.into_operators-operators.ensures c.plan_of.ensures r

pub returns-clause-back : goal.returns-clause-back
returns-clause-back g c u m =
    let view = g.S.Space.view in
    made_back u (view c.args.space.now) (view c.give_back_entries.new.space) c.args.next.entries.items m
    (rw (c.deref.ensures.value, c.in-Err.ensures.next) at c.give_back_entries.ensures)

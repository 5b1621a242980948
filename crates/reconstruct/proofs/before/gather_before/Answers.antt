use Rattle.std.proofs.Common.{[]}
use Rattle.space_api.proofs.Keeping.{kept_trans}
use Rattle.reconstruct.specs.Grown.{GathersBefore}
use Rattle.reconstruct.specs.Parts.{PutsPartial}
use Rattle.reconstruct.proofs.Adding.{on_ok}
use Rattle.reconstruct.proofs.Parting.{partial_earlier, partial_gathers}
use Rattle.reconstruct.proofs.before.gather_before.Goals as goal

pub returns-then-is_partial-clause-ok : goal.returns-then-is_partial-clause-ok
returns-then-is_partial-clause-ok g c =
    let view = g.S.Space.view in
    let u = view c.args.space.now in
    let v = view c.all_listed.new.space in
    let w = view c.put_partial.new.space in
    let e = c.args.prefix.now in
    let new = c.put_partial.new.entries.items in
    let s = c.in_ok-all_listed.ensures.stays in
    on_ok c.put_partial.result (PutsPartial v w e c.in_ok-ops.ops.items [] new)
    (GathersBefore u w c.args.front.now e c.args.children.now.level.items new)
    (λ put. rw (c.requires.level, put.2) (partial_gathers {front = c.args.front.now} put.0 (kept_trans s.kept c.put_partial.ensures.kept)
    (partial_earlier s c.requires.entry.0 put.1) c.requires.entry c.in_ok-ops.ensures c.in_ok-all_listed.ensures.lists
    (c.is_partial.ensures c.if-is_partial.true)))
    (rw (c.requires.falling, c.deref-then-is_partial.ensures.value) at c.put_partial.ensures.ok)

use Rattle.std.proofs.Common.{List, [], ◌∷◌, ◌++◌, subst}
use Rattle.std.specs.List.Sorted.{IsPermutation}
use Rattle.prefix_tree.specs.Entries.{queued_entries}
use Rattle.prefix_tree.specs.declared.entry.Entry.{Entry}
use Rattle.prefix_plans.specs.Left.{known_to_go}
use Rattle.prefix_plans.proofs.Replacing.{replaced_perm}
use Rattle.member_plans.specs.Front.{opened, waiting_members}
use Rattle.member_plans.proofs.Beside.{perm_beside}
use Rattle.member_plans.proofs.Turning.{dropped_covers, dropped_each, less_dropped}
use Rattle.member_plans.proofs.Walking.{follows_requeued}
use Rattle.member_plans.proofs.front.Front.drop_joined.Goals as goal

pub returns-clause-follows : goal.returns-clause-follows
returns-clause-follows g c =
    let v = g.S.Space.view c.args.space.now in
    let f = c.args.search.now in
    let x = c.args.self.now in
    let z = c.requires.steady in
    let e = c.args.entry in
    let q = queued_entries x.queue in
    let o = queued_entries x.other in
    let new = queued_entries c.replace.new.self in
    let all = replaced_perm q (queued_entries c.make_room.new.self) c.new.result.items new e c.make_room.ensures.same c.requires.first c.replace.ensures.replaces in
    let perm = perm_beside q o [] new e (subst (λ (l : List Entry). IsPermutation (q ++ l) (e ∷ new)) c.new.ensures.items all) in
    follows_requeued v f c.args.most x c.replace.new.self x.other z
    (dropped_each v f x.graph x.tree.items (waiting_members x) (new ++ o) e (opened x) z.covers z.ready.each perm)
    (dropped_covers v f x.graph x.tree.items (waiting_members x) (new ++ o) e (opened x) z.covers
    c.requires.joined perm)

pub returns-clause-less : goal.returns-clause-less
returns-clause-less g c =
    let x = c.args.self.now in
    let e = c.args.entry in
    let q = queued_entries x.queue in
    let o = queued_entries x.other in
    let new = queued_entries c.replace.new.self in
    let all = replaced_perm q (queued_entries c.make_room.new.self) c.new.result.items new e c.make_room.ensures.same c.requires.first c.replace.ensures.replaces in
    let perm = perm_beside q o [] new e (subst (λ (l : List Entry). IsPermutation (q ++ l) (e ∷ new)) c.new.ensures.items all) in
    less_dropped (known_to_go c.args.search.now) (waiting_members x) (new ++ o) e perm

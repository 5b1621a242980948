use Rattle.std.proofs.Common.{List, ◌++◌, ◌∙◌, subst}
use Rattle.std.specs.List.Sorted.{IsPermutation}
use Rattle.prefix_tree.specs.Entries.{queued_entries}
use Rattle.prefix_tree.specs.declared.entry.Entry.{Entry}
use Rattle.prefix_plans.proofs.Replacing.{replaced_perm, on_err}
use Rattle.member_plans.proofs.Beside.{some_beside, first_beside, both_same, perm_parted}
use Rattle.member_plans.proofs.Opening.{grown_steady, grown_same, open_steady, open_opened, open_more, retold_steady, retold_opened}
use Rattle.member_plans.proofs.front.Front.open.Goals as goal

pub returns-clause-steady : goal.returns-clause-steady
returns-clause-steady g c =
    let v = g.S.Space.view c.args.space.now in
    let x = c.args.self.now in
    let w = c.expand.new.self in
    let e = c.expand.ensures in
    let q = queued_entries x.queue in
    let o = queued_entries x.other in
    let here = c.in_ok-here.here.items in
    let there = c.in_ok-here.there.items in
    let new = queued_entries c.replace.new.self in
    let rest = queued_entries c.add.new.self in
    let one = replaced_perm q (queued_entries w.queue) here new c.args.entry e.queue c.requires.first c.replace.ensures.replaces in
    let two = subst (λ (l : List Entry). IsPermutation (l ++ there) rest) e.other c.add.ensures in
    let perm = perm_parted q o here there new rest c.args.entry one two in
    open_steady v c.args.search.now c.args.most x w c.requires.steady e.graph e.serves e.grows
    (both_same q o (queued_entries w.queue) (queued_entries w.other) e.queue e.other) e.opened c.args.entry
    (some_beside q o c.requires.some) (first_beside q o c.args.entry c.requires.some c.requires.first)
    c.requires.cheap (here ++ there) c.in_ok-here.ensures.children c.replace.new.self c.add.new.self perm
    c.put.new.self (rw c.deref.ensures.value at c.in_ok-put.ensures.ok)

pub returns-clause-ok : goal.returns-clause-ok
returns-clause-ok g c =
    let v = g.S.Space.view c.args.space.now in
    let x = c.args.self.now in
    let w = c.expand.new.self in
    let e = c.expand.ensures in
    let q = queued_entries x.queue in
    let o = queued_entries x.other in
    let here = c.in_ok-here.here.items in
    let there = c.in_ok-here.there.items in
    let new = queued_entries c.replace.new.self in
    let rest = queued_entries c.add.new.self in
    let one = replaced_perm q (queued_entries w.queue) here new c.args.entry e.queue c.requires.first c.replace.ensures.replaces in
    let two = subst (λ (l : List Entry). IsPermutation (l ++ there) rest) e.other c.add.ensures in
    let perm = perm_parted q o here there new rest c.args.entry one two in
    open_opened v c.args.search.now c.args.most x w c.requires.steady e.graph e.serves e.grows
    (both_same q o (queued_entries w.queue) (queued_entries w.other) e.queue e.other) e.opened c.args.entry
    (some_beside q o c.requires.some) (first_beside q o c.args.entry c.requires.some c.requires.first)
    c.requires.cheap (here ++ there) c.in_ok-here.ensures.children c.replace.new.self c.add.new.self perm
    c.put.new.self (rw c.deref.ensures.value at c.in_ok-put.ensures.ok)

pub returns-clause-more : goal.returns-clause-more
returns-clause-more g c =
    let v = g.S.Space.view c.args.space.now in
    let x = c.args.self.now in
    let w = c.expand.new.self in
    let e = c.expand.ensures in
    let q = queued_entries x.queue in
    let o = queued_entries x.other in
    let here = c.in_ok-here.here.items in
    let there = c.in_ok-here.there.items in
    let new = queued_entries c.replace.new.self in
    let rest = queued_entries c.add.new.self in
    let one = replaced_perm q (queued_entries w.queue) here new c.args.entry e.queue c.requires.first c.replace.ensures.replaces in
    let two = subst (λ (l : List Entry). IsPermutation (l ++ there) rest) e.other c.add.ensures in
    let perm = perm_parted q o here there new rest c.args.entry one two in
    open_more v c.args.search.now c.args.most x w c.requires.steady e.graph e.serves e.grows
    (both_same q o (queued_entries w.queue) (queued_entries w.other) e.queue e.other) e.opened c.args.entry
    (some_beside q o c.requires.some) (first_beside q o c.args.entry c.requires.some c.requires.first)
    c.requires.cheap (here ++ there) c.in_ok-here.ensures.children c.replace.new.self c.add.new.self perm
    c.put.new.self (rw c.deref.ensures.value at c.in_ok-put.ensures.ok)

pub returns-in_err-here-clause-steady : goal.returns-in_err-here-clause-steady
returns-in_err-here-clause-steady g c =
    let e = c.expand.ensures in
    grown_steady (g.S.Space.view c.args.space.now) c.args.search.now c.args.most c.args.self.now c.expand.new.self
    c.requires.steady e.graph e.serves e.grows (both_same (queued_entries c.args.self.now.queue)
    (queued_entries c.args.self.now.other) (queued_entries c.expand.new.self.queue)
    (queued_entries c.expand.new.self.other) e.queue e.other) e.opened

pub returns-in_err-here-clause-err : goal.returns-in_err-here-clause-err
returns-in_err-here-clause-err g c =
    let e = c.expand.ensures in
    on_err c.from_residual.result (grown_same (g.S.Space.view c.args.space.now) c.args.search.now c.args.most
    c.args.self.now c.expand.new.self c.requires.steady e.graph e.serves e.grows
    (both_same (queued_entries c.args.self.now.queue) (queued_entries c.args.self.now.other)
    (queued_entries c.expand.new.self.queue) (queued_entries c.expand.new.self.other) e.queue e.other) e.opened)

pub returns-in_err-put-clause-steady : goal.returns-in_err-put-clause-steady
returns-in_err-put-clause-steady g c =
    let e = c.expand.ensures in
    let w = c.expand.new.self in
    let z = grown_steady (g.S.Space.view c.args.space.now) c.args.search.now c.args.most c.args.self.now w
    c.requires.steady e.graph e.serves e.grows (both_same (queued_entries c.args.self.now.queue)
    (queued_entries c.args.self.now.other) (queued_entries c.expand.new.self.queue)
    (queued_entries c.expand.new.self.other) e.queue e.other) e.opened in
    retold_steady (g.S.Space.view c.args.space.now) c.args.search.now c.args.most w c.put.new.self c.in_err-put.ensures.places c.in_err-put.ensures.keys z

pub returns-in_err-put-clause-err : goal.returns-in_err-put-clause-err
returns-in_err-put-clause-err g c =
    let e = c.expand.ensures in
    let w = c.expand.new.self in
    let z = grown_steady (g.S.Space.view c.args.space.now) c.args.search.now c.args.most c.args.self.now w
    c.requires.steady e.graph e.serves e.grows (both_same (queued_entries c.args.self.now.queue)
    (queued_entries c.args.self.now.other) (queued_entries c.expand.new.self.queue)
    (queued_entries c.expand.new.self.other) e.queue e.other) e.opened in
    on_err c.from_residual-in_err-put.result (retold_opened (g.S.Space.view c.args.space.now) c.args.search.now
    c.args.most w c.put.new.self c.in_err-put.ensures.places c.in_err-put.ensures.keys z
    ∙ grown_same (g.S.Space.view c.args.space.now) c.args.search.now c.args.most c.args.self.now w
    c.requires.steady e.graph e.serves e.grows (both_same (queued_entries c.args.self.now.queue)
    (queued_entries c.args.self.now.other) (queued_entries c.expand.new.self.queue)
    (queued_entries c.expand.new.self.other) e.queue e.other) e.opened)

use Rattle.std.proofs.Common.{◌≡◌, List, [], ◌∷◌, ◌++◌, sym, subst}
use Rattle.prefix_tree.specs.Entries.{queued_entries, prefixes}
use Rattle.prefix_tree.specs.declared.entry.Entry.{Entry}
use Rattle.prefix_tree.proofs.EmptyPrefix.{prefixes_first}
use Rattle.prefix_plans.specs.EndStanding.{IsEndReady}
use Rattle.prefix_plans.proofs.EndsFirst.{ready_empty}
use Rattle.member_plans.proofs.Beside.{beside_none}
use Rattle.member_plans.proofs.beginning.first_front.Goals as goal

pub returns-clause-ready : goal.returns-clause-ready
returns-clause-ready g c =
    let v = g.S.Space.view c.args.space.now in
    let b = c.args.search.now in
    let x = c.in_ok-graph in
    let es = queued_entries x.queue in
    let both : es ++ queued_entries c.new-2.result ≡ es = beside_none es (queued_entries c.new-2.result) c.new-2.ensures in
    subst (IsEndReady v b x.graph x.tree.items) (sym both) (ready_empty v b x.graph x.tree.items es x.ensures c.requires.alone)

pub returns-clause-first : goal.returns-clause-first
returns-clause-first g c =
    let x = c.in_ok-graph in
    let es = queued_entries x.queue in
    let both : es ++ queued_entries c.new-2.result ≡ es = beside_none es (queued_entries c.new-2.result) c.new-2.ensures in
    subst (λ (l : List Entry). prefixes x.tree.items l ≡ [] ∷ []) (sym both)
    (prefixes_first (g.S.Space.view c.args.space.now).system x.graph x.tree.items es x.ensures)

use Rattle.std.proofs.Common.{sym}
use Rattle.space_api.proofs.Trading.{kept_made}
use Rattle.prefix_tree.specs.Entries.{queued_entries}
use Rattle.prefix_tree.proofs.EmptyPrefix.{prefixes_first}
use Rattle.prefix_plans.proofs.EndsFirst.{ready_empty}
use Rattle.prefix_plans.proofs.Moving.{alone_fresh}
use Rattle.prefix_plans.proofs.First.{begun, begun_all}
use Rattle.prefix_plans.proofs.engine.PrefixPlans.begin.Goals as goal

pub returns-clause-lawful : goal.returns-clause-lawful
returns-clause-lawful g c =
    let view = g.S.Space.view in
    let v = view c.new.new.space in
    let b = c.in_ok-search.search in
    let x = c.in_ok-graph in
    let es = queued_entries x.queue in
    let alone = alone_fresh (view c.args.space) v b c.args.within c.requires.alone c.in_ok-search.ensures.within
    c.in_ok-search.ensures.stands c.in_ok-search.ensures.trades in
    begun v b c.args.within _ c.args.most c.new-shell.result (sym c.in_ok-search.ensures.within)
    (ready_empty v b x.graph x.tree.items es x.ensures alone)
    (prefixes_first v.system x.graph x.tree.items es x.ensures) c.new-shell.ensures

pub returns-clause-all : goal.returns-clause-all
returns-clause-all g c p i =
    let view = g.S.Space.view in
    let v = view c.new.new.space in
    let x = c.in_ok-graph in
    let es = queued_entries x.queue in
    begun_all v.system (view c.args.space).system _ c.new-shell.result
    (prefixes_first v.system x.graph x.tree.items es x.ensures)
    (kept_made c.in_ok-search.ensures.trades).system p i

pub returns-clause-most : goal.returns-clause-most
returns-clause-most g c = c.new-shell.ensures.wanted

pub returns-clause-last : goal.returns-clause-last
returns-clause-last g c = c.new-shell.ensures.goes_on

use Rattle.std.proofs.Common.{◌∙◌}
use Rattle.space_api.proofs.Trading.{kept_made}
use Rattle.prefix_tree.specs.StateGraph.{states_of}
use Rattle.prefix_tree.specs.Entries.{queued_entries}
use Rattle.prefix_tree.proofs.EmptyPrefix.{waits_grown}
use Rattle.loopless.specs.declared.front.Front.{Front}
use Rattle.loopless.proofs.First.{begun, begun_all}
use Rattle.loopless.proofs.Inside.{alone_fresh}
use Rattle.loopless.proofs.engine.LooplessPlans.begin.Goals as goal

pub find_rests-requires : goal.find_rests-requires
find_rests-requires g c = c.in_ok-graph.ensures.graph

pub keep_to_reached-requires-clause-alone : goal.keep_to_reached-requires-clause-alone
keep_to_reached-requires-clause-alone g c =
    let view = g.S.Space.view in
    alone_fresh (view c.args.space) (view c.new.new.space) c.in_ok-backward.backward c.args.within c.requires.alone
    c.requires.within c.requires.wide c.in_ok-backward.ensures.backward c.in_ok-backward.ensures.ok.within_is
    c.in_ok-backward.ensures.trades

pub returns : goal.returns
returns g c =
    let view = g.S.Space.view in
    let y = (view c.args.space).system in
    let v = view c.keep_to_reached.new.space in
    let b = c.in_ok-backward-2.backward in
    let x = c.in_ok-graph in
    let f : Front = record { graph = c.find_rests.new.graph; rests = c.found_or_none-rests.result; tree = x.tree; queue = x.queue } in
    let same = c.in_ok-backward-2.ensures.system ∙ (kept_made c.in_ok-backward.ensures.trades).system in
    let z = waits_grown y x.graph f.graph x.tree.items (queued_entries x.queue) x.ensures c.find_rests.ensures.graph c.find_rests.ensures.prolongs in
    let kept = c.found_or_none-rests.ensures y (states_of f.graph) c.in_ok-found.ensures.kept in
    let alone = c.in_ok-backward-2.ensures.alone in
    record {
      lawful = begun y v b f same alone z kept c.args.most c.new-shell.result c.new-shell.ensures;
      system = same;
      all = begun_all y v b f same alone z kept c.new-shell.result;
      most = c.new-shell.ensures.wanted;
      last = c.new-shell.ensures.goes_on;
    }

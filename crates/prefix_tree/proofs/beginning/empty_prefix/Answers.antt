use Rattle.std.proofs.Common.{false, List, [], ◌∷◌, ◌++◌, refl, ◌∙◌, ap, subst, IsTrue}
use Rattle.std.specs.Bool.{Decides}
use Rattle.std.specs.List.Sorted.{IsPermutation}
use Rattle.task_system.specs.System.{State}
use Rattle.prefix_tree.specs.Entries.{queued_entries}
use Rattle.prefix_tree.specs.declared.tree.Node.{Node}
use Rattle.prefix_tree.specs.declared.entry.Entry.{Entry}
use Rattle.prefix_tree.proofs.First.{only}
use Rattle.prefix_tree.proofs.beginning.empty_prefix.Goals as goal

pub number_of_start-requires : goal.number_of_start-requires
number_of_start-requires g c = c.new-graph.ensures.graph (g.S.Space.view c.args.space.now).system

pub returns : goal.returns
returns g c =
    let y = (g.S.Space.view c.args.space.now).system in
    let n : Node = record { parent = 0; op = 0; state = c.in_ok-start.start } in
    let e : Entry = record { bound = record { 0 = 0 }; cost = 0; ring = record { 0 = 0 }; node = 0; settled = false; at_goal = c.in_ok-at_goal.at_goal } in
    let es = queued_entries c.push-2.new.self in
    record {
      node = n;
      entry = e;
      graph = c.number_of_start.ensures.graph;
      within = c.in_ok-start.ensures.within;
      starts = c.in_ok-start.ensures.is;
      tree = c.in_ok-push.ensures.items ∙ ap (λ (l : List Node). l ++ n ∷ []) c.new-tree.ensures.items;
      queue = only e es (subst (λ (l : List Entry). IsPermutation (e ∷ l) es) c.new-queue.ensures c.in_ok-push-2.ensures.ok);
      bound = refl;
      cost = refl;
      ring = refl;
      place = refl;
      unsettled = refl;
      goal = subst (λ (s : State). Decides c.in_ok-at_goal.at_goal (IsTrue (y.goal s))) (c.state.ensures ∙ c.in_ok-start.ensures.is)
          c.in_ok-at_goal.ensures;
    }

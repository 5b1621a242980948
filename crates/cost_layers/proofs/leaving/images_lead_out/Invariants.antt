use Rattle.std.proofs.Common.{ℕ, ◌<◌, slice_index}
use Rattle.task_system.specs.System.{State}
use Rattle.space_api.specs.Frames.{Stays}
use Rattle.space_api.specs.Costs.{costs_of}
use Rattle.run_graph.specs.Graph.{seen_from}
use Rattle.cost_layers.specs.Arcs.{AlongOut}
use Rattle.cost_layers.proofs.leaving.images_lead_out.Given as goal

abbrev pub invariant-costs : goal.invariant-costs
invariant-costs g l =
    let view = g.S.Space.view in
    let v = view l.fn.space in
    record {
      stays : Stays v (view l.space);
      none : (k : ℕ) (s : State) → k < l.i → ¬ AlongOut (seen_from l.side v.system) v (slice_index (costs_of v.system) k) l.part l.set l.within s;
    }

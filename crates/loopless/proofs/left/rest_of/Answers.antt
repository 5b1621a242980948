use Rattle.std.proofs.Common.{Some, sym, ◌∙◌, subst}
use Rattle.task_system.specs.System.{State}
use Rattle.space_api.specs.States.{IsReached}
use Rattle.prefix_tree.specs.StateGraph.{states_of}
use Rattle.loopless.specs.Left.{RestCostsAtLeast}
use Rattle.loopless.specs.Told.{IsTold}
use Rattle.loopless.proofs.Resting.{kept_put}
use Rattle.loopless.proofs.left.rest_of.Goals as goal

pub returns-in-Some-clause-told : goal.returns-in-Some-clause-told
returns-in-Some-clause-told g c =
    let h = c.requires.informed.kept c.args.number c.in-Some.rest (sym c.at.ensures ∙ c.in-Some.is) in
    h.1

pub rest_in_layers-told-requires-clause-reached : goal.rest_in_layers-told-requires-clause-reached
rest_in_layers-told-requires-clause-reached g c =
    subst (IsReached (g.S.Space.view c.args.heuristic.now.space.now).system) (sym c.state.ensures)
    (c.requires.informed.graph.reached c.args.number c.requires.number)

pub rest_in_layers-told-requires-clause-low : goal.rest_in_layers-told-requires-clause-low
rest_in_layers-told-requires-clause-low g c =
    subst (λ (s : State). RestCostsAtLeast (g.S.Space.view c.args.heuristic.now.space.now).system s c.args.low) (sym c.state.ensures) c.requires.low

pub returns-in-Some-told-clause-informed : goal.returns-in-Some-told-clause-informed
returns-in-Some-told-clause-informed g c =
    let y = (g.S.Space.view c.args.heuristic.now.space.now).system in
    let ss = states_of c.args.heuristic.now.graph.now in
    let told = subst (λ (s : State). IsTold y c.args.heuristic.now.backward.now s (Some c.in-Some-told.rest)) c.state.ensures
    (rw c.in-Some-told.is at c.rest_in_layers-told.ensures) in
    let informed = c.requires.informed in
    record {
      backward = informed.backward;
      wide = informed.wide;
      graph = informed.graph;
      kept = kept_put y ss c.args.rests.now c.keep.new.self c.args.number c.in-Some-told.rest c.keep.ensures c.requires.number told informed.kept;
    }

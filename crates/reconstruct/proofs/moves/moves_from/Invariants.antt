use Rattle.reconstruct.specs.Ways.{IsWay}
use Rattle.reconstruct.proofs.Moving.{MovesBelow}
use Rattle.reconstruct.proofs.moves.moves_from.Given as goal

abbrev pub invariant-operators : goal.invariant-operators
invariant-operators g l =
    let v = g.S.Space.view l.space in
    record {
      way : IsWay l.back l.node.cost l.way;
      found : MovesBelow v l.back l.node.cost l.node.state.now l.op l.moves.items;
    }

use Rattle.std.proofs.Common.{arith}
use Rattle.reconstruct.proofs.Moving.{moves_none, moves_next, moves_all}
use Rattle.reconstruct.proofs.moves.moves_from.Goals as goal

pub operators-init : goal.operators-init
operators-init g c =
    let v = g.S.Space.view c.args.space.now in
    record {
      way = c.way_for-way.ensures.way;
      found = moves_none v c.args.back.now c.args.node.cost c.args.node.state.now c.new-moves.result.items c.new-moves.ensures.items;
    }

pub operators-preserved : goal.operators-preserved
operators-preserved g c =
    let v = g.S.Space.view c.args.space.now in
    let i = c.operators.invariant in
    record {
      way = c.way_after-way.ensures.way;
      found = moves_next v c.args.back.now c.args.node.cost c.args.node.state.now c.operators.op
          c.operators.moves.items i.found c.in_ok-found.found c.put_move.new.moves.items
          c.in_ok-put_move.ensures c.in_ok-found.ensures;
    }

pub returns : goal.returns
returns g c =
    let v = g.S.Space.view c.args.space.now in
    moves_all v c.args.back.now c.args.node.cost c.args.node.state.now c.operators.op c.operators.moves.items
    c.operators.invariant.found
    (omega (arith, c.operators.auto.op-end, c.operators-test.false, c.operators-op-end.ensures))

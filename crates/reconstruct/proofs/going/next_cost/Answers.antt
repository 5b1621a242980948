use Rattle.std.proofs.Common.{IfOk, subst}
use Rattle.task_system.specs.System.{System}
use Rattle.space_api.proofs.Trading.{trades_trans}
use Rattle.bidirectional.specs.Both.{front_layers, back_layers}
use Rattle.bidirectional.proofs.Again.{again_stands, again_gave}
use Rattle.reconstruct.specs.Sides.{AdvancesCost}
use Rattle.reconstruct.proofs.going.next_cost.Goals as goal

pub advance_up_to-requires : goal.advance_up_to-requires
advance_up_to-requires g c = again_stands c.restart_if_long.ensures.goes_on

pub returns-clause-trades : goal.returns-clause-trades
returns-clause-trades g c = trades_trans (again_gave c.restart_if_long.ensures.goes_on) c.advance_up_to.ensures.trades

pub returns-clause-ok : goal.returns-clause-ok
returns-clause-ok g c =
    let h = c.advance_up_to.new.both in
    subst (λ (y : System). IfOk c.advance_up_to.result (AdvancesCost y c.args.above c.args.most (front_layers h) (back_layers h)))
    (again_gave c.restart_if_long.ensures.goes_on).system c.advance_up_to.ensures.ok

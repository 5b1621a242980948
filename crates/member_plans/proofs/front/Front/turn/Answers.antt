use Rattle.std.proofs.Common.{refl}
use Rattle.member_plans.proofs.Beside.{swapped}
use Rattle.member_plans.proofs.front.Front.turn.Goals as goal

pub returns-clause-rearranged : goal.returns-clause-rearranged
returns-clause-rearranged c = record {
  graph = refl;
  moves = refl;
  tree = refl;
  opened = refl;
  entries = swapped c.args.self.now.queue c.args.self.now.other c.swap.new.x c.swap.new.y c.swap.ensures.x_after c.swap.ensures.y_after;
}

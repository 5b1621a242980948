use Rattle.std.proofs.Common.{refl}
use Rattle.task_system.specs.Computed.{system_of}
use Rattle.space_api.proofs.Listing.{task_lists}
use Rattle.member_plans.proofs.Keeping.{none_kept}
use Rattle.member_plans.proofs.moves.Moves.new.Goals as goal

pub returns : goal.returns
returns c = record {
  system = refl;
  lists = task_lists c.args.task.now c.parts.ensures.fits;
  rules = c.in_ok-of.ensures;
  sets = c.in_ok-new.ensures;
  kept = none_kept (system_of c.args.task.now) c.new-2.result.items c.new-2.ensures.items;
}

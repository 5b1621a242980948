use Rattle.std.proofs.Common.{◌≡◌, ◌<◌, ◌^◌, All, take}
use Rattle.plan_out.specs.Lists.{plans_of}
use Rattle.symk_cli.specs.Goes.{last_stated}
use Rattle.symk_cli.proofs.continuing.earlier_of.Given as goal

-- the plans of the blocks so far, and what the last one states to cost
abbrev pub invariant-each : goal.invariant-each
invariant-each l = record {
  gathered : l.plans.items ≡ plans_of (take l.block-index l.fn.blocks.list);
  last : l.dearest ≡ last_stated (take l.block-index l.fn.blocks.list);
  cheap : All (λ b. b.cost < 2 ^ 64) (take l.block-index l.fn.blocks.list);
  held : l.dearest < 2 ^ 64;
}

use Rattle.std.proofs.Common.{◌≡◌, length, All}
use Rattle.plan_out.specs.declared.blocks.ReadBlock.{ReadBlock}
use Rattle.engine_tests.proofs.costs.blocks_of.Given as goal

-- each block so far has a name for each operator
abbrev pub invariant-plans : goal.invariant-plans
invariant-plans l = record { each : All (λ (r : ReadBlock). length r.names ≡ length r.ops) l.blocks.items }

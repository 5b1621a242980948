use Rattle.std.proofs.Common.{◌≡◌, ◌≤◌, All, length, take, vec_len, vec_capacity}
use Rattle.lazy_plans.specs.SelectorsOwe.{AreKeysOf}
use Rattle.selectors.proofs.after.engine.keys_of.Given as goal

abbrev pub invariant-loop-plan : goal.invariant-loop-plan
invariant-loop-plan l = record {
  keys : AreKeysOf l.fn.mode (take l.plan-index l.fn.plans) l.keys;
  short : All (λ key. length key ≤ vec_capacity l.room) l.keys;
  empty : vec_len l.room ≡ 0;
}

use Rattle.std.proofs.Common.{◌≡◌, ℕ, ◌<◌, length, get_or}
use Rattle.cert_check.proofs.room.put_roots.Given as goal

abbrev pub invariant-variables : goal.invariant-variables
invariant-variables l = record {
  count : length l.derived ≡ length l.fn.derived;
  each : (k : ℕ) → k < l.var → get_or l.derived k 0 ≡ get_or l.roots k 0;
}

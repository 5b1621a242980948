use Rattle.std.proofs.Common.{◌≡◌, ◌<◌, ◌≤◌, ◌-◌, ℕ, false, get_or, length}
use Rattle.sas_reader.specs.Numbers.{is_blank_byte}
use Rattle.sas_reader.proofs.numbers.first_word.Given as goal

abbrev pub invariant-loop-count : goal.invariant-loop-count
invariant-loop-count l = record {
  within : l.count ≤ length l.line;
  passed : (k : ℕ) → k < l.count → is_blank_byte (get_or l.line k 0) ≡ false;
}

abbrev pub decreases-loop-count : goal.decreases-loop-count
decreases-loop-count l = length l.line - l.count

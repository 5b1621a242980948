use Rattle.std.proofs.Common.{◌≡◌, ◌<◌, ◌^◌, drop}
use Rattle.std.specs.List.{fold}
use Rattle.symk_text.specs.Numbers.{value_of}
use Rattle.symk_text.proofs.Digits.{next}
use Rattle.symk_text.proofs.numbers.value_of.Given as goal

abbrev pub invariant-loop-digit : goal.invariant-loop-digit
invariant-loop-digit l = record {
  fits : l.value < 2 ^ 64;
  so_far : fold next l.value (drop l.digit-index l.digits) ≡ value_of l.digits;
}

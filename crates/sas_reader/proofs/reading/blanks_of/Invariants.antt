use Rattle.std.proofs.Common.{◌≡◌, ◌+◌, length}
use Rattle.sas_reader.proofs.Blanks.{blanks_at}
use Rattle.sas_reader.proofs.reading.blanks_of.Given as goal

abbrev pub invariant-loop : goal.invariant-loop
invariant-loop l = record {
  left : length l.rest + l.counter ≡ length l.fn.lines;
  so_far : blanks_at l.rest ≡ blanks_at l.fn.lines;
}

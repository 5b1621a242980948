use Rattle.std.proofs.Common.{arith}
use Rattle.std.proofs.lemmas.Grind.{common_steps}
use Rattle.symk_io.proofs.Growth.{given_front}
use Rattle.symk_io.proofs.mem_files.give_bytes.Goals as goal

pub returns-then-n-gt0-clause-bytes : goal.returns-then-n-gt0-clause-bytes
returns-then-n-gt0-clause-bytes c =
    given_front c.args.bytes.now c.copy_from_slice.new.self _ c.args.at c.min-n.result (grind (arith, common_steps)) (grind (arith, common_steps))

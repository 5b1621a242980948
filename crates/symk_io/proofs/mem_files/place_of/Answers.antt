use Rattle.std.proofs.Common.{rules}
use Rattle.symk_io.proofs.Finding.{found}
use Rattle.symk_io.proofs.mem_files.place_of.Goals as goal

pub returns-then-eq-clause-some : goal.returns-then-eq-clause-some
returns-then-eq-clause-some c =
    found c.args.files.now c.args.name.now c.loop-i.i c.index-files-i.result (search rules) (search rules) (search rules) c.loop-i.invariant

use Rattle.stubborn_sets.proofs.KeptLaw.{conflicts_put}
use Rattle.stubborn_sets.proofs.conflicts.Conflicts.find.Goals as goal

pub returns-clause-known : goal.returns-clause-known
returns-clause-known c = conflicts_put c.args.task.now c.args.self.now c.keep.new.self c.args.one
    c.in_ok-ops.ops.items c.requires.known c.keep.ensures.puts c.in_ok-ops.ensures

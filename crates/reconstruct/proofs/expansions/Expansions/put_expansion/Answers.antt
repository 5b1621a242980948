use Rattle.reconstruct.proofs.Remembering.{one_from}
use Rattle.reconstruct.proofs.expansions.Expansions.put_expansion.Goals as goal

pub returns-in-Some : goal.returns-in-Some
returns-in-Some c = one_from c.args.self.now c.put.new.self c.in-Some.expansion c.args.place c.in-Some.is c.put.ensures

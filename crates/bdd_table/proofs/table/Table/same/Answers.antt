use Rattle.std.proofs.Common.{subst}
use Rattle.bdd_table.specs.Diagram.{IsReduced}
use Rattle.bdd_table.proofs.Canonical.{same_is}
use Rattle.bdd_table.proofs.CanonicalByLists.{same_by_lists}
use Rattle.bdd_table.proofs.table.Table.same.Goals as goal

pub returns-clause-bits : goal.returns-clause-bits
returns-clause-bits c = same_is c.args.self.now (subst IsReduced c.self.view_is c.self.invariant) c.args.f c.args.g c.requires.f c.requires.g

pub returns-clause-lists : goal.returns-clause-lists
returns-clause-lists c = same_by_lists c.args.self.now (subst IsReduced c.self.view_is c.self.invariant) c.args.f c.args.g c.requires.f c.requires.g

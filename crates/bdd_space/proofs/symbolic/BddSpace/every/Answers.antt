use Rattle.std.proofs.Common.{subst}
use Rattle.task_system.specs.System.{Listed}
use Rattle.task_system.specs.Computed.{system_of}
use Rattle.space_api.specs.Listing.{ListsReached}
use Rattle.space_api.proofs.Listing.{task_lists}
use Rattle.bdd_space.specs.Symbolic.{Symbolic, Makes}
use Rattle.bdd_space.proofs.Made.{all_made}
use Rattle.bdd_space.proofs.symbolic.BddSpace.every.Goals as goal

pub returns-clause-made : goal.returns-clause-made
returns-clause-made c = subst (λ (x : Symbolic). Makes x (Listed (system_of x.task).states) c.self.inside.own.all)
    c.self.view_is (all_made _ _ c.self.invariant)

pub returns-clause-reached : goal.returns-clause-reached
returns-clause-reached c = subst (λ (x : Symbolic). ListsReached (system_of x.task)) c.self.view_is (task_lists _ c.self.invariant.fits)

use Rattle.std.proofs.Common.{◌≡◌, subst}
use Rattle.task_system.specs.Computed.{system_of}
use Rattle.bdd_space.specs.Symbolic.{Symbolic, Makes}
use Rattle.bdd_space.proofs.Made.{start_made}
use Rattle.bdd_space.proofs.symbolic.BddSpace.start.Goals as goal

pub returns : goal.returns
returns c = subst (λ (x : Symbolic). Makes x (λ s. s ≡ (system_of x.task).initial) c.self.inside.own.start) c.self.view_is (start_made _ _ c.self.invariant)

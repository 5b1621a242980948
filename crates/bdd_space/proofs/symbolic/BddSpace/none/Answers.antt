use Rattle.std.proofs.Common.{subst}
use Rattle.bdd_space.specs.Symbolic.{Symbolic, Makes}
use Rattle.bdd_space.proofs.Made.{none_made}
use Rattle.bdd_space.proofs.symbolic.BddSpace.none.Goals as goal

pub returns : goal.returns
returns c = subst (λ (x : Symbolic). Makes x (λ s. ⊥) 0) c.self.view_is (none_made _ _ c.self.invariant)

use Rattle.member_laws.proofs.Pending.{opening_gives}
use Rattle.member_laws.proofs.laws.opening_gives_the_plan.Goals as goal

pub returns : goal.returns
returns c = λ y most bound e opened queue lists covers all plan free le fits. opening_gives y opened queue lists covers most bound e all plan free le fits

use Rattle.std.proofs.lemmas.Slice.Eq.{bytes_eq-Decides}
use Rattle.selectors.proofs.Present.{present_told}
use Rattle.member_plans.proofs.opened.Opened.has.Goals as goal

pub returns : goal.returns
returns c = rw c.contains.ensures (present_told _ c.args.key.now (λ k. bytes_eq-Decides c.args.key.now k.items) c.args.self.now.plans.keys)

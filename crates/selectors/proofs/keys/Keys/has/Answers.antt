use Rattle.std.proofs.lemmas.Slice.Eq.{bytes_eq-Decides}
use Rattle.selectors.proofs.Present.{present_told}
use Rattle.selectors.proofs.keys.Keys.has.Goals as goal

pub returns : goal.returns
returns c = rw (← c.self.view_is, c.contains.ensures) (present_told _ c.args.key.now (λ k. bytes_eq-Decides c.args.key.now k.items) c.self.inside.set.keys)

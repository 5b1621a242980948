use Rattle.std.proofs.lemmas.Slice.Eq.{bytes_eq-Decides}
use Rattle.selectors.proofs.Present.{present_told, found}
use Rattle.selectors.proofs.keys.Keys.note.Goals as goal

pub returns-clause-found : goal.returns-clause-found
returns-clause-found c = rw (← c.self.view_is) (found _ c.in_ok-fresh.fresh
    (present_told _ c.args.key.items (λ k. bytes_eq-Decides c.args.key.items k.items) c.self.inside.set.keys)
    c.in_ok-fresh.ensures.added)

use Rattle.reconstruct.proofs.Parting.{finds_of, some_parts}
use Rattle.reconstruct.proofs.partial.find_parts.Goals as goal

pub returns-in-Some-clause-ok : goal.returns-in-Some-clause-ok
returns-in-Some-clause-ok g c =
    finds_of c.parted.result (λ es parts kept. some_parts c.args.front.now c.args.partial.now c.requires.entry
    c.in-Some.found (rw c.in-Some.is at c.in_ok-last_child.ensures.ok) c.last_child.ensures.kept kept es.items parts)
    c.parted.ensures.ok c.parted.ensures.kept

use Rattle.reconstruct.proofs.expansions.Expansions.moves_of.Goals as goal

pub returns-in-Some : goal.returns-in-Some
returns-in-Some c = (c.in-Some.expansion.now.ends, rw c.as_slice.ensures.value c.in-Some.ensures)

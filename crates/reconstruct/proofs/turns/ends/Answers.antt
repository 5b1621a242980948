use Rattle.reconstruct.proofs.turns.ends.Goals as goal

pub returns-in-Some : goal.returns-in-Some
returns-in-Some g c = c.requires.memo c.args.suffix.now.cost c.args.suffix.now.state c.in-Some.ensures.0 c.in-Some.ends c.in-Some.ensures.1

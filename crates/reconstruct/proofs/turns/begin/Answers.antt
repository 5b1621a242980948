use Rattle.reconstruct.proofs.turns.begin.Goals as goal

pub reached-requires : goal.reached-requires
reached-requires g c = rw c.deref.ensures.value (c.requires.prefix.1 (g.S.Space.view c.args.space.now).system.initial c.requires.starts.1)

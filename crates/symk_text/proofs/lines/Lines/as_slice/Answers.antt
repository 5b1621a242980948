use Rattle.symk_text.proofs.lines.Lines.as_slice.Goals as goal

pub returns-clause-each : goal.returns-clause-each
returns-clause-each c = rw c.deref.ensures.value c.self.invariant

use Rattle.std.proofs.Common.{refl}
use Rattle.run_status.proofs.Causes.{causes_of_end}
use Rattle.run_status.proofs.ending.end_with.Goals as goal

pub returns-in-Ok-clause-causes : goal.returns-in-Ok-clause-causes
returns-in-Ok-clause-causes g c =
    causes_of_end _ _ 0 0 (g.K.Sink.view c.args.sink.now) (g.K.Sink.view c.end.new.sink) _ c.end.ensures
    (λ e. absurd (c.requires.unreadable e)) (λ _. refl) c.requires.write

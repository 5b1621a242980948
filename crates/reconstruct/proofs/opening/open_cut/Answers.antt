use Rattle.std.proofs.lemmas.Result.{IfOk-weaker}
use Rattle.reconstruct.proofs.opening.open_cut.Goals as goal

pub returns-in-Whole-clause-ok : goal.returns-in-Whole-clause-ok
returns-in-Whole-clause-ok g c = rw c.in-Whole.is (IfOk-weaker c.open_whole.result _ _ (λ e opened. opened c.args.front.now) c.open_whole.ensures)

pub returns-in-Cross-clause-ok : goal.returns-in-Cross-clause-ok
returns-in-Cross-clause-ok g c = rw c.in-Cross.is (IfOk-weaker c.open_cross.result _ _ (λ e opened. opened c.args.cost) c.open_cross.ensures.ok)

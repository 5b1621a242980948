use Rattle.std.proofs.Common.{ℕ, Bool, List, length, subst}
use Rattle.std.proofs.lemmas.Result.{IfOk-weaker}
use Rattle.bdd_sets.specs.Leading.{AreChosen, MissNone, LeadsFrom}
use Rattle.bdd_sets.proofs.Missing.{from_missed}
use Rattle.bdd_sets.proofs.choosing.leading_from.Goals as goal

pub returns : goal.returns
returns c =
    let task = c.args.task.now in
    let o = c.args.order.now in
    let nodes = c.args.table.now in
    let steps = c.args.steps.now in
    let marks = c.in_ok-marks.marks.items in
    let lists = steps.before.items in
    IfOk-weaker c.chosen.result (λ ops. AreChosen c.deref.result.now c.deref-2.result.now c.operators.result
    ops.items) (λ ops. MissNone (length task.operators) (LeadsFrom task o nodes c.args.set) ops.items)
    (λ ops are. from_missed task o nodes c.args.set steps.places.starts.items marks c.requires.order
    c.in_ok-marks.ensures lists ops.items c.requires.steps.before
    (subst (λ (n : ℕ). AreChosen marks lists n ops.items) c.operators.ensures
    (subst (λ (fs : List (List ℕ)). AreChosen marks fs c.operators.result ops.items) c.deref-2.ensures.value
    (subst (λ (ms : List Bool). AreChosen ms c.deref-2.result.now c.operators.result ops.items) c.deref.ensures.value are)))) c.chosen.ensures

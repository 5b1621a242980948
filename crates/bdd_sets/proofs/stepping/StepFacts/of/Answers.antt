use Rattle.std.proofs.Common.{List, ◌∙◌, ap, subst}
use Rattle.symk_task.specs.declared.parts.Operator.{Operator}
use Rattle.symk_task.specs.declared.parts.TaskParts.{TaskParts}
use Rattle.bdd_sets.specs.Steps.{IsAsked, IsLeft, AreWatched}
use Rattle.bdd_sets.proofs.Missing.{watched_of}
use Rattle.bdd_sets.proofs.stepping.StepFacts.of.Goals as goal

pub returns : goal.returns
returns c =
    let o = c.args.order.now in
    let starts = c.in_ok-places.places.starts.items in
    let operators = c.as_slice-operators.result.now in
    let same = c.as_slice-operators.ensures ∙ ap (λ (t : TaskParts). t.operators) c.parts.ensures.value in
    record {
      places = c.in_ok-places.ensures;
      before = subst (λ (xs : List Operator). AreWatched o starts IsAsked xs c.in_ok-before.before.items) same
          (watched_of o starts IsAsked operators c.in_ok-asked.asked.items c.in_ok-before.before.items
          c.in_ok-asked.ensures (rw (c.deref.ensures.value, c.deref-2.ensures.value) at c.in_ok-before.ensures));
      after = subst (λ (xs : List Operator). AreWatched o starts IsLeft xs c.in_ok-after.after.items) same
          (watched_of o starts IsLeft operators c.in_ok-left.left.items c.in_ok-after.after.items
          c.in_ok-left.ensures (rw (c.deref-3.ensures.value, c.deref-4.ensures.value) at c.in_ok-after.ensures));
    }

use Rattle.std.proofs.Common.{List, sym, subst}
use Rattle.std.specs.List.{All}
use Rattle.symk_task.specs.declared.parts.Fact.{Fact}
use Rattle.symk_task.specs.declared.parts.Effect.{Effect}
use Rattle.symk_task.specs.Steps.{Holds, Allows}
use Rattle.bdd_table.proofs.Adding.{ok_by}
use Rattle.transitions.proofs.conditions.applies_set.Goals as goal

pub returns-clause-meaning : goal.returns-clause-meaning
returns-clause-meaning c = ok_by c.all_allowed.result _ _ c.all_allowed.ensures.meaning (λ id m s b state code.
    let task = c.args.task.now in
    let first = c.in_ok-prevail.ensures.meaning s b state code in
    let both = m s b state code in (
      (λ h. (let x = both.0 h in (
        subst (λ (facts : List Fact). All (Holds task s) facts) c.as_slice.ensures (first.0 x.0),
        subst (λ (effects : List Effect). All (Allows task s) effects) c.as_slice-2.ensures x.1,
      ))),
      (λ h. both.1 (
        first.1 (subst (λ (facts : List Fact). All (Holds task s) facts) (sym c.as_slice.ensures) h.0),
        subst (λ (effects : List Effect). All (Allows task s) effects) (sym c.as_slice-2.ensures) h.1,
      )),
    ))

use Rattle.std.proofs.Common.{◌↔◌, ◌⊎◌, List, IsFalse, subst}
use Rattle.std.specs.List.{Contains}
use Rattle.std.specs.Ordering.{nat_cmp}
use Rattle.std.specs.BTreeSet.{contains}
use Rattle.symk_task.specs.declared.parts.Fact.{Fact}
use Rattle.symk_task.specs.declared.parts.Effect.{Effect}
use Rattle.bdd_sets.specs.Steps.{AreLast}
use Rattle.bdd_sets.proofs.FactLists.{left_all}
use Rattle.bdd_sets.proofs.stepping.left.Goals as goal

pub returns : goal.returns
returns c =
    let o = c.args.operator.now in
    let last = c.add_effects.new.facts in
    let on = c.add_effects.new.on in
    let facts = c.add_others.new.facts in
    left_all o last facts on
    (subst (λ (es : List Effect). AreLast es last on) c.as_slice.ensures c.in_ok-add_effects.ensures)
    (subst (λ (ps : List Fact). (f : Fact) → Contains facts f
    ↔ (Contains last f ⊎ (Contains ps f × IsFalse (contains nat_cmp on f.var)))) c.as_slice-2.ensures
    c.in_ok-add_others.ensures)

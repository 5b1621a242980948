use Rattle.std.proofs.Common.{ℕ, List, ◌⊎◌, ◌↔◌, IsTrue, get_or, Contains, subst}
use Rattle.std.specs.Ordering.{nat_cmp}
use Rattle.std.specs.BTreeSet.{contains}
use Rattle.std.proofs.lemmas.List.{get_or_default}
use Rattle.mutex_use.proofs.Lists.{none, whole}
use Rattle.mutex_use.proofs.Noting.{no_key, touching_next}
use Rattle.mutex_use.proofs.writers.writers_in.Goals as goal

pub variables-init : goal.variables-init
variables-init c op = ((λ h. absurd (no_key c.new-operators.result op c.new-operators.ensures.empty h)), (λ h. absurd (none c.args.variables.now h.0 h.1)))

pub variables-preserved : goal.variables-preserved
variables-preserved c op =
    let var = get_or c.args.variables.now c.variables.i 0 in
    touching_next c.args.variables.now c.args.writers.now c.variables.i var op
    (contains nat_cmp c.variables.operators op) (contains nat_cmp c.insert_all.new.set op) c.variables-test.true
    (get_or_default c.args.variables.now c.variables.i var 0 c.variables-test.true)
    (subst (λ (z : List ℕ). IsTrue (contains nat_cmp c.insert_all.new.set op)
    ↔ (IsTrue (contains nat_cmp c.variables.operators op) ⊎ Contains z op)) c.writers_at.ensures
    (c.in_ok-insert_all.ensures op))
    (c.variables.invariant op)

pub returns : goal.returns
returns c op =
    let i = c.variables.invariant op in (
      (λ h. let k = i.0 h in (k.0, (whole c.args.variables.now c.variables.i k.0 c.variables-test.false).0 k.1, k.2)),
      (λ h. i.1 (h.0, (whole c.args.variables.now c.variables.i h.0 c.variables-test.false).1 h.1, h.2)),
    )

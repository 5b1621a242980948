use Rattle.std.proofs.Common.{◌≡◌, ◌↔◌, ℕ, get_or, Contains}
use Rattle.std.specs.Ordering.{nat_cmp}
use Rattle.std.specs.BTreeSet.{contains}
use Rattle.std.proofs.lemmas.List.{get_or_default}
use Rattle.std.proofs.lemmas.Result.{IfOk-weaker}
use Rattle.symk_task.specs.declared.parts.Fact.{Fact}
use Rattle.mutex_use.proofs.Lists.{none}
use Rattle.mutex_use.proofs.Noting.{no_key, variable_next, variables_end}
use Rattle.mutex_use.proofs.writers.variables_of.Goals as goal

pub facts-init : goal.facts-init
facts-init c var = ((λ h. absurd (no_key c.new-set.result var c.new-set.ensures.empty h)), (λ h. absurd (none c.args.facts.now h.0 h.1)))

pub facts-preserved : goal.facts-preserved
facts-preserved c var =
    let zero : Fact = record { var = 0; val = 0 } in
    let f = get_or c.args.facts.now c.facts.i zero in
    variable_next c.args.facts.now c.facts.i f var (contains nat_cmp c.facts.set var) (contains nat_cmp c.insert.new.self var) c.facts-test.true
    (get_or_default c.args.facts.now c.facts.i f zero c.facts-test.true) (c.in_ok-insert.ensures.updates.0 var) (c.facts.invariant var)

pub returns : goal.returns
returns c =
    IfOk-weaker c.members.result (λ numbers. numbers.items ≡ c.facts.set.keys)
    (λ numbers. (var : ℕ) → Contains numbers.items var
    ↔ ((fact : Fact) × Contains c.args.facts.now fact × (fact.var ≡ var)))
    (λ numbers e. variables_end c.args.facts.now c.facts.i c.facts.set numbers.items c.facts-test.false e c.facts.invariant) c.members.ensures

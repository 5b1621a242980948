use Rattle.std.proofs.Common.{ℕ, List, ◌≡◌, ◌↔◌, IsTrue, Contains, subst}
use Rattle.std.specs.Ordering.{nat_cmp}
use Rattle.std.specs.BTreeSet.{contains}
use Rattle.std.proofs.lemmas.Result.{IfOk-weaker}
use Rattle.symk_task.specs.declared.parts.Fact.{Fact}
use Rattle.mutex_use.specs.Groups.{mutex_group_at}
use Rattle.mutex_use.specs.Writers.{writers_at, HaveTouching}
use Rattle.mutex_use.proofs.Noting.{touching_end}
use Rattle.mutex_use.proofs.writers.touching.Goals as goal

pub returns : goal.returns
returns c =
    let set = c.in_ok-operators.operators in
    let task = c.args.task.now in
    let variables = c.in_ok-variables.variables.items in
    IfOk-weaker c.members.result (λ numbers. numbers.items ≡ set.keys) (λ numbers. HaveTouching task (mutex_group_at task c.args.group) numbers.items)
    (λ numbers e. touching_end task (mutex_group_at task c.args.group) c.args.writers.now variables numbers.items set c.requires.writers
    (subst (λ (z : List Fact). (var : ℕ) → Contains variables var
    ↔ ((fact : Fact) × Contains z fact × (fact.var ≡ var))) c.facts_of.ensures.value c.in_ok-variables.ensures)
    (subst (λ (z : List ℕ). (op : ℕ) → IsTrue (contains nat_cmp set op)
    ↔ ((var : ℕ) × Contains z var × Contains (writers_at c.args.writers.now var) op)) c.deref.ensures.value
    c.in_ok-operators.ensures) e)
    c.members.ensures

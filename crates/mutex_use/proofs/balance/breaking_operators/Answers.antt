use Rattle.std.proofs.Common.{ℕ, List, ◌∙◌, ap, subst}
use Rattle.std.proofs.lemmas.Result.{IfOk-weaker}
use Rattle.symk_task.specs.declared.parts.Fact.{Fact}
use Rattle.symk_task.specs.declared.parts.Operator.{Operator}
use Rattle.symk_task.specs.declared.parts.TaskParts.{TaskParts}
use Rattle.mutex_use.specs.Groups.{mutex_group_at}
use Rattle.mutex_use.specs.Balance.{HaveUnbalanced, HaveBreaking}
use Rattle.mutex_use.proofs.Balancing.{breaking_end}
use Rattle.mutex_use.proofs.balance.breaking_operators.Goals as goal

pub returns : goal.returns
returns c =
    let task = c.args.task.now in
    let facts = mutex_group_at task c.args.group in
    let among = c.in_ok-among.among.items in
    let operators = c.as_slice-operators.result.now in
    let same = c.as_slice-operators.ensures ∙ ap (λ (t : TaskParts). t.operators) c.parts.ensures.value in
    IfOk-weaker c.unbalanced.result (λ left. HaveUnbalanced operators c.facts_of.result.now c.deref.result.now
    left.items) (λ left. HaveBreaking task facts left.items)
    (λ left h. breaking_end task facts among left.items c.requires.group.1 c.in_ok-among.ensures
    (subst (λ (z : List Operator). HaveUnbalanced z facts among left.items) same
    (subst (λ (z : List Fact). HaveUnbalanced operators z among left.items) c.facts_of.ensures.value
    (subst (λ (z : List ℕ). HaveUnbalanced operators c.facts_of.result.now z left.items) c.deref.ensures.value h)))) c.unbalanced.ensures

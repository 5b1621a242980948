use Rattle.std.proofs.Common.{rules, subst}
use Rattle.std.proofs.lemmas.List.Sorted.{IsNonDecreasingBy-from_sort_by_key, All-permutation, Contains-permutation}
use Rattle.symk_task.specs.declared.parts.TaskParts.{TaskParts}
use Rattle.task_run.specs.declared.counting.Counting.{Counting}
use Rattle.task_run.specs.Counted.{IsCounting, AreRulesOf}
use Rattle.task_run.proofs.rules.Rules.of.Goals as goal

pub returns : goal.returns
returns c =
    let parts = c.parts.result.now in
    let old = c.in_ok-counting.counting.items in
    let new = c.sort_by_key.new.self.items in
    let same = c.in_ok-sort_by_key.ensures.permutation in
    subst (λ (z : TaskParts). AreRulesOf z new) c.parts.ensures.value (record {
      counting = All-permutation (IsCounting parts) old new same c.in_ok-counting.ensures.counting;
      each = λ x h. Contains-permutation old new x same (c.in_ok-counting.ensures.each x h);
      by_layer = IsNonDecreasingBy-from_sort_by_key (λ (x : Counting). x.layer) _ c.in_ok-sort_by_key.ensures.sorted (λ a r q k. search rules);
    })

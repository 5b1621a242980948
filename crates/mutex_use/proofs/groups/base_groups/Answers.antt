use Rattle.std.proofs.Common.{ℕ, ◌≡◌, ◌+◌, ◌<◌, ◌↔◌, List, length, Contains, sym, ◌∙◌, ap, subst, arith, Vec, Global}
use Rattle.symk_task.specs.declared.parts.TaskParts.{TaskParts}
use Rattle.std.specs.List.Sorted.{IsStrictlyIncreasing}
use Rattle.space_api.proofs.Trading.{valid_clash}
use Rattle.mutex_use.specs.Groups.{AreBaseFacts, mutex_group_at}
use Rattle.mutex_use.proofs.Lists.{rising_none, rising_push, found_none, found_more, found_same}
use Rattle.mutex_use.proofs.groups.base_groups.Goals as goal
use Rattle.mutex_use.proofs.groups.base_groups.Goals.{then-are_base+in_ok-push, else-are_base}

pub groups-init : goal.groups-init
groups-init c =
    let task = c.args.task.now in
    record {
      each = found_none c.new-groups.result.items (λ g. AreBaseFacts task (mutex_group_at task g)) c.new-groups.ensures.items;
      rising = rising_none c.new-groups.result.items c.new-groups.ensures.items;
    }

pub groups-preserved : goal.groups-preserved
groups-preserved c =
    let task = c.args.task.now in
    let xs = c.groups.groups.items in
    let x = c.groups.group in
    let P : ℕ → Type 0 = λ g. AreBaseFacts task (mutex_group_at task g) in
    let i = c.groups.invariant in
    let here = c.facts_of.ensures.value in
    let Found : List ℕ → Type 0 = λ z. (g : ℕ) → Contains z g ↔ ((g < x + 1) × P g) in
    elim c.if-are_base.branch [
      | then-are_base+in_ok-push w ↦ (
          let same = sym (ap (λ (v : Vec ℕ Global). v.items) w.groups-is ∙ w.in_ok-push.ensures.items) in
          record {
            each = subst Found same (found_more xs x P i.each (subst (AreBaseFacts task) here (c.are_base.ensures.0 w.if-are_base.true)));
            rising = subst IsStrictlyIncreasing same (rising_push xs x i.rising (λ y h. ((i.each y).0 h).0));
          })
      | else-are_base w ↦ (
          let same = sym (ap (λ (v : Vec ℕ Global). v.items) w.groups-is) in
          record {
            each = subst Found same (found_same xs x P i.each
                (λ p. valid_clash (c.are_base.ensures.1 (subst (AreBaseFacts task) (sym here) p)) w.if-are_base.false));
            rising = subst IsStrictlyIncreasing same i.rising;
          })
    ]

pub returns-clause-each : goal.returns-clause-each
returns-clause-each c g =
    let task = c.args.task.now in
    let count : c.len-group-end.result ≡ length task.mutexes = c.len-group-end.ensures ∙ ap (λ (t : TaskParts). length t.mutexes) c.parts.ensures.value in
    let end : c.groups.group ≡ length task.mutexes = omega (arith, count, c.groups-test.false, c.groups.auto.group-end) in
    subst (λ (n : ℕ). Contains c.groups.groups.items g ↔ ((g < n) × AreBaseFacts task (mutex_group_at task g))) end (c.groups.invariant.each g)

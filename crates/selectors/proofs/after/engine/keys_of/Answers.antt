use Rattle.std.proofs.Common.{◌∙◌, take, length, ◌≤◌, vec_capacity, arith}
use Rattle.std.proofs.lemmas.List.{take_more}
use Rattle.lazy_plans.proofs.Keyed.{keys_of_more}
use Rattle.selectors.proofs.Noting.{short_more}
use Rattle.selectors.proofs.after.engine.keys_of.Goals as goal

pub loop-plan-preserved : goal.loop-plan-preserved
loop-plan-preserved c =
    let i = c.loop-plan.invariant in
    let plans = c.args.plans.now in
    let at = c.loop-plan.plan-index in
    let plan = c.plan-item.result in
    let within = rw c.as_slice-plan-items.ensures at c.loop-plan-test.true in
    let is = rw c.as_slice-plan-items.ensures at c.plan-item.is in
    let noted = c.in_ok-note.ensures.noted in
    let fits : length c.in_ok-key.key.items ≤ vec_capacity c.reserve.new.self =
    omega (arith, c.in_ok-reserve.ensures.ok, c.len.ensures, c.in_ok-key.key.ok.0) in
    record {
      keys = rw (take_more plans at plan within, ← is) (keys_of_more c.args.mode (take at plans) c.loop-plan.keys
          c.note.new.self plan c.in_ok-key.key.items c.in_ok-note.field-0 i.keys c.in_ok-key.ensures noted
          c.in_ok-note.ensures.found);
      short = short_more _ _ c.loop-plan.keys c.note.new.self c.in_ok-key.key.items c.in_ok-note.field-0 i.short c.in_ok-reserve.ensures.capacity fits noted;
      empty = c.in_ok-reserve.ensures.len ∙ i.empty;
    }

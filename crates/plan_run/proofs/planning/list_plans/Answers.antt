use Rattle.std.proofs.Common.{◌≡◌, ◌∙◌, ap, subst, ℕ, ◌+◌, ◌<◌, ◌≤◌, length, refl, inl, inr, arith, rules}
use Rattle.symk_task.specs.Plans.{cost_of}
use Rattle.lazy_plans.specs.declared.stop.Stop.TheVariants.{CostRange}
use Rattle.plan_out.specs.declared.end.End.TheVariants as end
use Rattle.plan_out.specs.Texts.{block, end_line}
use Rattle.run_status.specs.Ends.{EndsWithText}
use Rattle.run_status.specs.Sent.{TookPiece, TookFront}
use Rattle.run_status.specs.declared.status.Status.TheVariants as status
use Rattle.plan_run.specs.Lists.{aim_after, all_end, asked}
use Rattle.plan_run.proofs.Given.{held, listable_plan}
use Rattle.plan_run.proofs.Going.{Owed, owed_plan}
use Rattle.plan_run.proofs.Listed.{listed_none}
use Rattle.plan_run.proofs.Ended.{off_by_not, on_by_not, ended_as, asked_more, asked_next, given_stops, reached_ends, more_ends, none_ends, range_ends, gave_gap, given_goes_on, given_breaks}
use Rattle.plan_run.proofs.Serving.{first_of, limit_gave, limit_none, limit_range, stands_more, stands_first, begun_first}
use Rattle.plan_run.proofs.planning.list_plans.Goals as goal

pub plans-init : goal.plans-init
plans-init g c =
    let e = g.I.LazyPlans in
    let task = c.args.job.task.now in
    let mode = c.args.job.mode in
    let wanted = c.args.job.wanted in
    let limit = c.args.job.limit in
    let earlier = c.args.job.earlier.now in
    let fits = c.parts.ensures.fits in
    let bound = held limit c.requires.lawful.limit in
    let old = g.K.Sink.view c.args.sink.now in
    let first = c.new-plans.ensures ∙ ap (λ n. first_of e.system e.mode e.most e.pends e.lawful e.last task mode limit n c.args.engine) c.asked.ensures in
    record {
      stands = stands_first e.system e.mode e.most e.pends e.lawful e.last task mode limit (asked wanted) c.args.engine c.new-plans.result first c.requires.owes.serves;
      listed = listed_none (aim_after task mode wanted limit earlier.plans) (Owed task mode limit earlier (e.pends c.new-plans.result.inner)) old
          (inl (refl, begun_first e.system e.mode e.most e.pends e.lawful e.last task mode limit (asked wanted) c.args.engine c.new-plans.result earlier first c.requires.owes c.requires.lawful.earlier));
      quiet = refl;
    }

pub plan_cost-cost-requires : goal.plan_cost-cost-requires
plan_cost-cost-requires g c =
    let e = g.I.LazyPlans in
    let task = c.args.job.task.now in
    let mode = c.args.job.mode in
    let wanted = c.args.job.wanted in
    let limit = c.args.job.limit in
    let earlier = c.args.job.earlier.now in
    let fits = c.parts.ensures.fits in
    let bound = held limit c.requires.lawful.limit in
    let old = g.K.Sink.view c.args.sink.now in
    let below : c.plans.number < wanted.count = omega arith in
    let within = asked_more wanted c.plans.number below in
    let so = c.plans.invariant.listed in
    let here = e.pends c.plans.plans.inner in
    let there = e.pends c.next.new.self.inner in
    let mid = g.K.Sink.view c.plans.sink in
    let plan = c.in-Some-Ok.plan in
    let gave = limit_gave e.system e.mode e.most e.pends e.lawful e.last task mode limit (asked wanted) c.plans.number c.plans.plans c.next.new.self c.in-Some-Ok.field-0 plan c.in-Some-Ok.field-0-is c.plans.invariant.stands within c.in-Some-Ok.ensures.steps in
    let printed = listable_plan task mode limit here there plan bound (owed_plan task mode limit earlier fits here there plan gave so.plans so.holds) gave in
    printed.operators

pub overflow_cast-cost : goal.overflow_cast-cost
overflow_cast-cost g c =
    let e = g.I.LazyPlans in
    let task = c.args.job.task.now in
    let mode = c.args.job.mode in
    let wanted = c.args.job.wanted in
    let limit = c.args.job.limit in
    let earlier = c.args.job.earlier.now in
    let fits = c.parts.ensures.fits in
    let bound = held limit c.requires.lawful.limit in
    let old = g.K.Sink.view c.args.sink.now in
    let below : c.plans.number < wanted.count = omega arith in
    let within = asked_more wanted c.plans.number below in
    let so = c.plans.invariant.listed in
    let here = e.pends c.plans.plans.inner in
    let there = e.pends c.next.new.self.inner in
    let mid = g.K.Sink.view c.plans.sink in
    let plan = c.in-Some-Ok.plan in
    let gave = limit_gave e.system e.mode e.most e.pends e.lawful e.last task mode limit (asked wanted) c.plans.number c.plans.plans c.next.new.self c.in-Some-Ok.field-0 plan c.in-Some-Ok.field-0-is c.plans.invariant.stands within c.in-Some-Ok.ensures.steps in
    let printed = listable_plan task mode limit here there plan bound (owed_plan task mode limit earlier fits here there plan gave so.plans so.holds) gave in
    let small = printed.cost in
    let same = c.plan_cost-cost.ensures in
    omega (arith, small, same)

pub put_block-requires-clause-listable : goal.put_block-requires-clause-listable
put_block-requires-clause-listable g c =
    let e = g.I.LazyPlans in
    let task = c.args.job.task.now in
    let mode = c.args.job.mode in
    let wanted = c.args.job.wanted in
    let limit = c.args.job.limit in
    let earlier = c.args.job.earlier.now in
    let fits = c.parts.ensures.fits in
    let bound = held limit c.requires.lawful.limit in
    let old = g.K.Sink.view c.args.sink.now in
    let below : c.plans.number < wanted.count = omega arith in
    let within = asked_more wanted c.plans.number below in
    let so = c.plans.invariant.listed in
    let here = e.pends c.plans.plans.inner in
    let there = e.pends c.next.new.self.inner in
    let mid = g.K.Sink.view c.plans.sink in
    let plan = c.in-Some-Ok.plan in
    let gave = limit_gave e.system e.mode e.most e.pends e.lawful e.last task mode limit (asked wanted) c.plans.number c.plans.plans c.next.new.self c.in-Some-Ok.field-0 plan c.in-Some-Ok.field-0-is c.plans.invariant.stands within c.in-Some-Ok.ensures.steps in
    let printed = listable_plan task mode limit here there plan bound (owed_plan task mode limit earlier fits here there plan gave so.plans so.holds) gave in
    printed

pub returns-then-cost-earlier-clause-lists : goal.returns-then-cost-earlier-clause-lists
returns-then-cost-earlier-clause-lists g c =
    let e = g.I.LazyPlans in
    let task = c.args.job.task.now in
    let mode = c.args.job.mode in
    let wanted = c.args.job.wanted in
    let limit = c.args.job.limit in
    let earlier = c.args.job.earlier.now in
    let fits = c.parts.ensures.fits in
    let bound = held limit c.requires.lawful.limit in
    let old = g.K.Sink.view c.args.sink.now in
    let below : c.plans.number < wanted.count = omega arith in
    let within = asked_more wanted c.plans.number below in
    let so = c.plans.invariant.listed in
    let here = e.pends c.plans.plans.inner in
    let there = e.pends c.next.new.self.inner in
    let mid = g.K.Sink.view c.plans.sink in
    let plan = c.in-Some-Ok.plan in
    let gave = limit_gave e.system e.mode e.most e.pends e.lawful e.last task mode limit (asked wanted) c.plans.number c.plans.plans c.next.new.self c.in-Some-Ok.field-0 plan c.in-Some-Ok.field-0-is c.plans.invariant.stands within c.in-Some-Ok.ensures.steps in
    let printed = listable_plan task mode limit here there plan bound (owed_plan task mode limit earlier fits here there plan gave so.plans so.holds) gave in
    gave_gap task mode wanted limit earlier fits bound here old there plan gave _ mid (g.K.Sink.view c.end_with.new.sink) c.plans.number c.plan_cost-cost.result _ so c.plan_cost-cost.ensures c.if-cost-earlier.true c.gap_text.ensures c.end_with.ensures.ends

pub returns-in-Err-clause-lists : goal.returns-in-Err-clause-lists
returns-in-Err-clause-lists g c =
    let e = g.I.LazyPlans in
    let task = c.args.job.task.now in
    let mode = c.args.job.mode in
    let wanted = c.args.job.wanted in
    let limit = c.args.job.limit in
    let earlier = c.args.job.earlier.now in
    let fits = c.parts.ensures.fits in
    let bound = held limit c.requires.lawful.limit in
    let old = g.K.Sink.view c.args.sink.now in
    let below : c.plans.number < wanted.count = omega arith in
    let within = asked_more wanted c.plans.number below in
    let so = c.plans.invariant.listed in
    let here = e.pends c.plans.plans.inner in
    let there = e.pends c.next.new.self.inner in
    let mid = g.K.Sink.view c.plans.sink in
    let plan = c.in-Some-Ok.plan in
    let gave = limit_gave e.system e.mode e.most e.pends e.lawful e.last task mode limit (asked wanted) c.plans.number c.plans.plans c.next.new.self c.in-Some-Ok.field-0 plan c.in-Some-Ok.field-0-is c.plans.invariant.stands within c.in-Some-Ok.ensures.steps in
    let printed = listable_plan task mode limit here there plan bound (owed_plan task mode limit earlier fits here there plan gave so.plans so.holds) gave in
    let same = c.plan_cost-cost.ensures in
    let cost_is : c.plan_cost-cost.result ≡ cost_of task plan = c.plan_cost-cost.ensures in
    let le : earlier.dearest ≤ cost_of task plan = omega (arith, cost_is, c.if-cost-earlier.false) in
    let new = g.K.Sink.view c.put_block.new.sink in
    let put = subst (λ (n : ℕ). TookFront (block task (n + c.plans.number + 1) plan) mid new) c.len-before.ensures c.in-Err.ensures.err in
    given_breaks task mode wanted limit earlier fits bound here old there plan gave le mid new c.plans.number _ c.in-Err.ensures.stop so below put

pub returns-in-None-clause-lists : goal.returns-in-None-clause-lists
returns-in-None-clause-lists g c =
    let e = g.I.LazyPlans in
    let task = c.args.job.task.now in
    let mode = c.args.job.mode in
    let wanted = c.args.job.wanted in
    let limit = c.args.job.limit in
    let earlier = c.args.job.earlier.now in
    let fits = c.parts.ensures.fits in
    let bound = held limit c.requires.lawful.limit in
    let old = g.K.Sink.view c.args.sink.now in
    let below : c.plans.number < wanted.count = omega arith in
    let within = asked_more wanted c.plans.number below in
    let so = c.plans.invariant.listed in
    let here = e.pends c.plans.plans.inner in
    let there = e.pends c.next.new.self.inner in
    let mid = g.K.Sink.view c.plans.sink in
    let new = g.K.Sink.view c.end_list-in-None.new.sink in
    let none = limit_none e.system e.mode e.most e.pends e.lawful e.last task mode limit (asked wanted) c.plans.number c.plans.plans c.next.new.self c.plans.invariant.stands within c.in-None.ensures.steps in
    none_ends task mode wanted limit earlier fits bound here old mid new c.plans.number _ so within none
    (ended_as c.all_listed.result _ mid new _ (c.all_listed.ensures ∙ ap (λ n. all_end limit (n + c.plans.number)) c.len-before.ensures) c.end_list-in-None.ensures.ends)

pub returns-in-Some-Err-CostRange-clause-lists : goal.returns-in-Some-Err-CostRange-clause-lists
returns-in-Some-Err-CostRange-clause-lists g c =
    let e = g.I.LazyPlans in
    let task = c.args.job.task.now in
    let mode = c.args.job.mode in
    let wanted = c.args.job.wanted in
    let limit = c.args.job.limit in
    let earlier = c.args.job.earlier.now in
    let fits = c.parts.ensures.fits in
    let bound = held limit c.requires.lawful.limit in
    let old = g.K.Sink.view c.args.sink.now in
    let below : c.plans.number < wanted.count = omega arith in
    let within = asked_more wanted c.plans.number below in
    let so = c.plans.invariant.listed in
    let here = e.pends c.plans.plans.inner in
    let there = e.pends c.next.new.self.inner in
    let mid = g.K.Sink.view c.plans.sink in
    let arm = c.in-Some-Err-CostRange in
    let range = limit_range e.system e.mode e.most e.pends e.lawful e.last task mode limit (asked wanted) c.plans.number c.plans.plans c.next.new.self arm.field-0 arm.field-0-0 arm.field-0-is arm.field-0-0-is c.plans.invariant.stands within arm.ensures.steps in
    range_ends task mode wanted limit earlier fits bound here old mid (g.K.Sink.view c.end_list.new.sink) c.plans.number _ so within range c.end_list.ensures.ends

pub returns-in-Some-Err-Memory-clause-lists : goal.returns-in-Some-Err-Memory-clause-lists
returns-in-Some-Err-Memory-clause-lists g c =
    let e = g.I.LazyPlans in
    let task = c.args.job.task.now in
    let mode = c.args.job.mode in
    let wanted = c.args.job.wanted in
    let limit = c.args.job.limit in
    let earlier = c.args.job.earlier.now in
    let fits = c.parts.ensures.fits in
    let bound = held limit c.requires.lawful.limit in
    let old = g.K.Sink.view c.args.sink.now in
    let below : c.plans.number < wanted.count = omega arith in
    let within = asked_more wanted c.plans.number below in
    let so = c.plans.invariant.listed in
    let here = e.pends c.plans.plans.inner in
    let there = e.pends c.next.new.self.inner in
    let mid = g.K.Sink.view c.plans.sink in
    given_stops task mode wanted limit earlier fits bound here old mid c.plans.number _ (inr refl) so (omega arith)

pub plans-preserved : goal.plans-preserved
plans-preserved g c =
    let e = g.I.LazyPlans in
    let task = c.args.job.task.now in
    let mode = c.args.job.mode in
    let wanted = c.args.job.wanted in
    let limit = c.args.job.limit in
    let earlier = c.args.job.earlier.now in
    let fits = c.parts.ensures.fits in
    let bound = held limit c.requires.lawful.limit in
    let old = g.K.Sink.view c.args.sink.now in
    let below : c.plans.number < wanted.count = omega arith in
    let within = asked_more wanted c.plans.number below in
    let so = c.plans.invariant.listed in
    let here = e.pends c.plans.plans.inner in
    let there = e.pends c.next.new.self.inner in
    let mid = g.K.Sink.view c.plans.sink in
    let plan = c.in-Some-Ok.plan in
    let gave = limit_gave e.system e.mode e.most e.pends e.lawful e.last task mode limit (asked wanted) c.plans.number c.plans.plans c.next.new.self c.in-Some-Ok.field-0 plan c.in-Some-Ok.field-0-is c.plans.invariant.stands within c.in-Some-Ok.ensures.steps in
    let printed = listable_plan task mode limit here there plan bound (owed_plan task mode limit earlier fits here there plan gave so.plans so.holds) gave in
    let same = c.plan_cost-cost.ensures in
    let cost_is : c.plan_cost-cost.result ≡ cost_of task plan = c.plan_cost-cost.ensures in
    let le : earlier.dearest ≤ cost_of task plan = omega (arith, cost_is, c.if-cost-earlier.false) in
    let new = g.K.Sink.view c.put_block.new.sink in
    let put = subst (λ (n : ℕ). TookPiece (block task (n + c.plans.number + 1) plan) mid new) c.len-before.ensures c.in-Ok.ensures.ok in
    record {
      stands = stands_more e.system e.mode e.most e.pends e.lawful e.last task mode limit (asked wanted) c.plans.number c.plans.plans c.next.new.self c.in-Some-Ok.field-0 plan c.in-Some-Ok.field-0-is c.plans.invariant.stands within c.in-Some-Ok.ensures.steps;
      listed = given_goes_on task mode wanted limit earlier fits bound here old there plan gave le mid new c.plans.number so put;
      quiet = search rules;
    }

pub returns-then-not-wanted-clause-lists : goal.returns-then-not-wanted-clause-lists
returns-then-not-wanted-clause-lists g c =
    let e = g.I.LazyPlans in
    let task = c.args.job.task.now in
    let mode = c.args.job.mode in
    let wanted = c.args.job.wanted in
    let limit = c.args.job.limit in
    let earlier = c.args.job.earlier.now in
    let fits = c.parts.ensures.fits in
    let bound = held limit c.requires.lawful.limit in
    let old = g.K.Sink.view c.args.sink.now in
    let whole : c.plans.number ≡ wanted.count = omega arith in
    let so = c.plans.invariant.listed in
    let here = e.pends c.plans.plans.inner in
    let mid = g.K.Sink.view c.plans.sink in
    let new = g.K.Sink.view c.end_list-then-not-wanted.new.sink in
    let ends = subst (λ (n : ℕ). EndsWithText status.Reached
    (end_line (end.Reached (n + wanted.count))) mid new c.end_list-then-not-wanted.result) c.len-before.ensures c.end_list-then-not-wanted.ensures.ends in
    reached_ends task mode wanted limit earlier fits bound here old mid new c.plans.number _ so c.requires.lawful.least whole (off_by_not wanted.more c.if-not-wanted.true) ends

pub returns-in-Some-Ok-next-clause-lists : goal.returns-in-Some-Ok-next-clause-lists
returns-in-Some-Ok-next-clause-lists g c =
    let e = g.I.LazyPlans in
    let task = c.args.job.task.now in
    let mode = c.args.job.mode in
    let wanted = c.args.job.wanted in
    let limit = c.args.job.limit in
    let earlier = c.args.job.earlier.now in
    let fits = c.parts.ensures.fits in
    let bound = held limit c.requires.lawful.limit in
    let old = g.K.Sink.view c.args.sink.now in
    let whole : c.plans.number ≡ wanted.count = omega arith in
    let so = c.plans.invariant.listed in
    let here = e.pends c.plans.plans.inner in
    let mid = g.K.Sink.view c.plans.sink in
    let more = on_by_not wanted.more c.if-not-wanted.false in
    let within = asked_next wanted c.plans.number more whole in
    let there = e.pends c.next-2.new.self.inner in
    let arm = c.in-Some-Ok-next in
    let gave = limit_gave e.system e.mode e.most e.pends e.lawful e.last task mode limit (asked wanted) c.plans.number c.plans.plans c.next-2.new.self arm.field-0 arm.field-0-0 arm.field-0-is c.plans.invariant.stands within arm.ensures.steps in
    let new = g.K.Sink.view c.end_list-in-Some-Ok-next.new.sink in
    let ends = subst (λ (n : ℕ). EndsWithText status.MoreLeft
    (end_line (end.More (n + wanted.count))) mid new c.end_list-in-Some-Ok-next.result) c.len-before.ensures c.end_list-in-Some-Ok-next.ensures.ends in
    more_ends task mode wanted limit earlier fits bound here old there arm.field-0-0 gave mid new c.plans.number _ so c.requires.lawful.least whole more ends

pub returns-in-Some-Err-CostRange-next-clause-lists : goal.returns-in-Some-Err-CostRange-next-clause-lists
returns-in-Some-Err-CostRange-next-clause-lists g c =
    let e = g.I.LazyPlans in
    let task = c.args.job.task.now in
    let mode = c.args.job.mode in
    let wanted = c.args.job.wanted in
    let limit = c.args.job.limit in
    let earlier = c.args.job.earlier.now in
    let fits = c.parts.ensures.fits in
    let bound = held limit c.requires.lawful.limit in
    let old = g.K.Sink.view c.args.sink.now in
    let whole : c.plans.number ≡ wanted.count = omega arith in
    let so = c.plans.invariant.listed in
    let here = e.pends c.plans.plans.inner in
    let mid = g.K.Sink.view c.plans.sink in
    let more = on_by_not wanted.more c.if-not-wanted.false in
    let within = asked_next wanted c.plans.number more whole in
    let arm = c.in-Some-Err-CostRange-next in
    let dear : arm.field-0-0 ≡ CostRange = rw arm.field-0-is at arm.field-0-0-is in
    let range = limit_range e.system e.mode e.most e.pends e.lawful e.last task mode limit (asked wanted) c.plans.number c.plans.plans c.next-2.new.self arm.field-0 arm.field-0-0 arm.field-0-is dear c.plans.invariant.stands within arm.ensures.steps in
    range_ends task mode wanted limit earlier fits bound here old mid (g.K.Sink.view c.end_list-in-Some-Err-CostRange-next.new.sink) c.plans.number _ so within range c.end_list-in-Some-Err-CostRange-next.ensures.ends

pub returns-in-Some-Err-Memory-next-clause-lists : goal.returns-in-Some-Err-Memory-next-clause-lists
returns-in-Some-Err-Memory-next-clause-lists g c =
    let e = g.I.LazyPlans in
    let task = c.args.job.task.now in
    let mode = c.args.job.mode in
    let wanted = c.args.job.wanted in
    let limit = c.args.job.limit in
    let earlier = c.args.job.earlier.now in
    let fits = c.parts.ensures.fits in
    let bound = held limit c.requires.lawful.limit in
    let old = g.K.Sink.view c.args.sink.now in
    let whole : c.plans.number ≡ wanted.count = omega arith in
    let so = c.plans.invariant.listed in
    let here = e.pends c.plans.plans.inner in
    let mid = g.K.Sink.view c.plans.sink in
    given_stops task mode wanted limit earlier fits bound here old mid c.plans.number _ (inr refl) so (omega arith)

pub returns-clause-lists : goal.returns-clause-lists
returns-clause-lists g c =
    let e = g.I.LazyPlans in
    let task = c.args.job.task.now in
    let mode = c.args.job.mode in
    let wanted = c.args.job.wanted in
    let limit = c.args.job.limit in
    let earlier = c.args.job.earlier.now in
    let fits = c.parts.ensures.fits in
    let bound = held limit c.requires.lawful.limit in
    let old = g.K.Sink.view c.args.sink.now in
    let whole : c.plans.number ≡ wanted.count = omega arith in
    let so = c.plans.invariant.listed in
    let here = e.pends c.plans.plans.inner in
    let mid = g.K.Sink.view c.plans.sink in
    let more = on_by_not wanted.more c.if-not-wanted.false in
    let within = asked_next wanted c.plans.number more whole in
    let new = g.K.Sink.view c.end_list-in-None-next.new.sink in
    let none = limit_none e.system e.mode e.most e.pends e.lawful e.last task mode limit (asked wanted) c.plans.number c.plans.plans c.next-2.new.self c.plans.invariant.stands within c.in-None-next.ensures.steps in
    let both : c.len-before.result + wanted.count ≡ length earlier.plans + c.plans.number = omega (arith, c.len-before.ensures, whole) in
    none_ends task mode wanted limit earlier fits bound here old mid new c.plans.number _ so within none
    (ended_as c.all_listed-in-None-next.result _ mid new _ (c.all_listed-in-None-next.ensures ∙ ap (all_end limit) both) c.end_list-in-None-next.ensures.ends)

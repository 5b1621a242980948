use Rattle.std.proofs.Common.{◌<◌, ◌∙◌, refl, sym, subst}
use Rattle.task_system.specs.System.{System}
use Rattle.symk_task.specs.declared.parts.Mode.TheVariants.{TopK}
use Rattle.cost_to_go.specs.Standing.{steps_left}
use Rattle.lazy_plans.specs.Queue.{Right}
use Rattle.prefix_tree.specs.Entries.{queued_entries}
use Rattle.prefix_plans.specs.Left.{known_to_go}
use Rattle.prefix_plans.specs.Standing.{waiting_prefixes, KeepsPending}
use Rattle.prefix_plans.specs.declared.walk.Halt.TheVariants.{Gives, Waits, Ends, OutOfRange}
use Rattle.prefix_plans.proofs.Ranging.{keeps_all}
use Rattle.prefix_plans.proofs.Walking.{keeps_trans, halts_same, law_stops}
use Rattle.prefix_plans.proofs.walk.walk.Goals as goal

pub steps-init : goal.steps-init
steps-init g c = record {
  system = refl;
  ready = c.requires.ready;
  within = c.requires.within;
  keeps = keeps_all (g.S.Space.view c.args.space.now).system c.args.most (waiting_prefixes c.args.front.now) c.requires.right;
}

pub take_turns-requires-clause-right : goal.take_turns-requires-clause-right
take_turns-requires-clause-right g c =
    subst (λ (y : System). Right y TopK c.args.most (waiting_prefixes c.steps.front)) (sym c.steps.invariant.system) c.steps.invariant.keeps.right

pub returns-in-Err-clause-right : goal.returns-in-Err-clause-right
returns-in-Err-clause-right g c =
    let i = c.steps.invariant in
    let k = subst (λ (y : System). KeepsPending y c.args.most (waiting_prefixes c.steps.front)
    (waiting_prefixes c.take_turns.new.front)) i.system c.in-Err.ensures.err in
    (keeps_trans i.keeps k).right

pub returns-in-Err-clause-law : goal.returns-in-Err-clause-law
returns-in-Err-clause-law g c =
    let i = c.steps.invariant in
    let k = subst (λ (y : System). KeepsPending y c.args.most (waiting_prefixes c.steps.front)
    (waiting_prefixes c.take_turns.new.front)) i.system c.in-Err.ensures.err in
    law_stops (keeps_trans i.keeps k)

pub returns-in-Gives-clause-right : goal.returns-in-Gives-clause-right
returns-in-Gives-clause-right g c =
    let i = c.steps.invariant in
    let h = halts_same (known_to_go c.steps.search) (waiting_prefixes c.take_turns.new.front) (Gives c.in-Gives.plan) i.system
    i.keeps (rw c.in-Gives.is at c.in-Ok.ensures.ok) in
    h.0

pub returns-in-Gives-clause-law : goal.returns-in-Gives-clause-law
returns-in-Gives-clause-law g c =
    let i = c.steps.invariant in
    let h = halts_same (known_to_go c.steps.search) (waiting_prefixes c.take_turns.new.front) (Gives c.in-Gives.plan) i.system
    i.keeps (rw c.in-Gives.is at c.in-Ok.ensures.ok) in
    h.1

pub returns-in-Ends-clause-right : goal.returns-in-Ends-clause-right
returns-in-Ends-clause-right g c =
    let i = c.steps.invariant in
    let h = halts_same (known_to_go c.steps.search) (waiting_prefixes c.take_turns.new.front) Ends i.system i.keeps (rw c.in-Ends.is at c.in-Ok.ensures.ok) in
    h.0.right

pub returns-in-Ends-clause-law : goal.returns-in-Ends-clause-law
returns-in-Ends-clause-law g c =
    let i = c.steps.invariant in
    let h = halts_same (known_to_go c.steps.search) (waiting_prefixes c.take_turns.new.front) Ends i.system i.keeps (rw c.in-Ends.is at c.in-Ok.ensures.ok) in
    (h.1, h.0.stays)

pub returns-in-OutOfRange-clause-right : goal.returns-in-OutOfRange-clause-right
returns-in-OutOfRange-clause-right g c =
    let i = c.steps.invariant in
    let h = halts_same (known_to_go c.steps.search)
    (waiting_prefixes c.take_turns.new.front) OutOfRange i.system i.keeps
    (rw c.in-OutOfRange.is at c.in-Ok.ensures.ok) in
    h.0.right

pub returns-in-OutOfRange-clause-law : goal.returns-in-OutOfRange-clause-law
returns-in-OutOfRange-clause-law g c =
    let i = c.steps.invariant in
    let h = halts_same (known_to_go c.steps.search)
    (waiting_prefixes c.take_turns.new.front) OutOfRange i.system i.keeps
    (rw c.in-OutOfRange.is at c.in-Ok.ensures.ok) in
    (h.1, h.0.stays)

pub go_on-requires-clause-alone : goal.go_on-requires-clause-alone
go_on-requires-clause-alone g c =
    c.take_turns.ensures.ready.alone

pub go_on-requires-clause-more : goal.go_on-requires-clause-more
go_on-requires-clause-more g c =
    let i = c.steps.invariant in
    let h = halts_same (known_to_go c.steps.search) (waiting_prefixes c.take_turns.new.front) Waits i.system i.keeps (rw c.in-Waits.is at c.in-Ok.ensures.ok) in
    h.1

pub returns-in-Err-go_on-clause-ready : goal.returns-in-Err-go_on-clause-ready
returns-in-Err-go_on-clause-ready g c =
    let x = c.take_turns.new.front in
    c.go_on.ensures.ready x.graph x.tree.items (queued_entries x.queue) c.take_turns.ensures.ready

pub returns-in-Err-go_on-clause-right : goal.returns-in-Err-go_on-clause-right
returns-in-Err-go_on-clause-right g c =
    let i = c.steps.invariant in
    let h = halts_same (known_to_go c.steps.search) (waiting_prefixes c.take_turns.new.front) Waits i.system i.keeps (rw c.in-Waits.is at c.in-Ok.ensures.ok) in
    h.0.right

pub returns-in-Err-go_on-clause-law : goal.returns-in-Err-go_on-clause-law
returns-in-Err-go_on-clause-law g c =
    let i = c.steps.invariant in
    let h = halts_same (known_to_go c.steps.search) (waiting_prefixes c.take_turns.new.front) Waits i.system i.keeps (rw c.in-Waits.is at c.in-Ok.ensures.ok) in
    law_stops h.0

pub steps-preserved : goal.steps-preserved
steps-preserved g c =
    let i = c.steps.invariant in
    let h = halts_same (known_to_go c.steps.search) (waiting_prefixes c.take_turns.new.front) Waits i.system i.keeps (rw c.in-Waits.is at c.in-Ok.ensures.ok) in
    let x = c.take_turns.new.front in
    record {
      system = c.go_on.ensures.system ∙ c.take_turns.ensures.system ∙ i.system;
      ready = c.go_on.ensures.ready x.graph x.tree.items (queued_entries x.queue) c.take_turns.ensures.ready;
      within = i.within ∙ sym c.go_on.ensures.within;
      keeps = h.0;
    }

pub steps-smaller : goal.steps-smaller
steps-smaller g c =
    subst (λ (y : System). steps_left y c.go_on.new.search < steps_left y c.steps.search)
    (c.take_turns.ensures.system ∙ c.steps.invariant.system) c.in-Ok-go_on.ensures.fewer

use Rattle.std.proofs.Common.{◌≡◌, ◌+◌, ◌<◌, ◌∙◌, ℕ, List, Vec, get_or, sym, ap, subst, arith}
use Rattle.space_api.specs.View.{Has}
use Rattle.space_api.specs.Frames.{Stays}
use Rattle.space_api.specs.Operators.{LeadInto}
use Rattle.task_system.specs.System.{System}
use Rattle.space_api.proofs.Keeping.{stays_trans}
use Rattle.cost_layers.specs.Layers.{Stands}
use Rattle.cost_search.proofs.Meeting.{test_clash}
use Rattle.bidirectional.specs.Cutting.{HasEach, IsFirstOp, Begin}
use Rattle.bidirectional.proofs.Carrying.{both_held}
use Rattle.bidirectional.proofs.Firsts.{cuts_listed, cuts_kept, each_kept}
use Rattle.bidirectional.proofs.Gathered.{Gathered, gathered_start, gathered_skip, gathered_push, gathered_all, gathered_one}
use Rattle.bidirectional.proofs.cutting.ops_among.Goals as goal
use Rattle.bidirectional.proofs.cutting.ops_among.Goals.{then-place-op+in_ok-op_cuts+then-branch+in_ok-push+in_default, else-place-op, else-place-op-via-then-place-op+in_ok-op_cuts+else-branch, else-place-op-via-else-place-op}

pub operators-init : goal.operators-init
operators-init g c = record {
  stays = c.meeting_costs.ensures.stays;
  found = let v = g.S.Space.view c.args.space.now in gathered_start v.system (Stands v c.args.meeting.front.now)
      (Has v c.args.to) c.args.cost c.args.meeting.b c.args.place.z c.deref-op-items.result.now c.args.place.op
      c.new-found.result.items c.new-found.ensures.items;
}

pub op_cuts-requires-clause-layers : goal.op_cuts-requires-clause-layers
op_cuts-requires-clause-layers g c = both_held c.requires.layers c.operators.invariant.stays.kept

pub op_cuts-requires-clause-costs : goal.op_cuts-requires-clause-costs
op_cuts-requires-clause-costs g c =
    let u = g.S.Space.view c.operators.space in
    subst (HasEach u.system (Stands u c.args.meeting.front.now) (Has u c.args.to) c.args.cost c.args.meeting.b c.args.place.z) (sym c.deref.ensures.value)
    (each_kept c.requires.layers c.operators.invariant.stays.kept c.args.to c.in_ok-costs.costs.items c.requires.to c.in_ok-costs.ensures.ok)

pub operators_into-requires : goal.operators_into-requires
operators_into-requires g c = c.meeting_costs.ensures.stays.kept.valid c.args.to c.requires.to

pub op_cuts-requires-clause-op : goal.op_cuts-requires-clause-op
op_cuts-requires-clause-op g c =
    let ops = c.deref-op-items.result.now in
    let x = g.S.Space.view c.meeting_costs.new.space in
    let lead : LeadInto x c.args.to ops = subst (LeadInto x c.args.to) (sym c.deref-op-items.ensures.value) c.in_ok-ops.ensures in
    let same : (g.S.Space.view c.operators.space).system ≡ x.system = c.operators.invariant.stays.kept.system ∙ sym c.meeting_costs.ensures.stays.kept.system in
    subst (λ (y : System). get_or ops c.operators.op-index 0 < y.operators) (sym same) (lead.known c.operators.op-index 0 c.operators-test.true)

pub returns-in-One-clause-ok : goal.returns-in-One-clause-ok
returns-in-One-clause-ok g c =
    let v = g.S.Space.view c.args.space.now in
    let u = g.S.Space.view c.operators.space in
    let k = c.operators.invariant.stays.kept in
    let front = Stands v c.args.meeting.front.now in
    let to = Has v c.args.to in
    let ops = c.deref-op-items.result.now in
    let x = g.S.Space.view c.meeting_costs.new.space in
    let lead : LeadInto x c.args.to ops = subst (LeadInto x c.args.to) (sym c.deref-op-items.ensures.value) c.in_ok-ops.ensures in
    let at = c.operators.op-index in
    let op = get_or ops at 0 in
    let cut = (cuts_kept c.requires.layers k c.args.to c.requires.to).0 (c.in_ok-op_cuts.ensures.ok.0 c.if-branch.true) in
    let pushed = gathered_push v.system front to c.args.cost c.args.meeting.b c.args.place.z ops
    (cuts_listed c.meeting_costs.ensures.stays.kept c.requires.to lead)
    lead.rising at c.args.place.op c.operators.found.items c.operators-test.true c.if-place-op.true cut c.operators.invariant.found in
    subst (Begin (IsFirstOp v.system front to c.args.cost c.args.meeting.b c.args.place.z) c.args.wanted c.args.place.op) (sym c.in_ok-push.ensures.items)
    (gathered_one v.system front to c.args.cost c.args.meeting.b c.args.place.z ops c.args.wanted (at + 1)
    c.args.place.op c.operators.found.items op c.in-One.is pushed)

pub operators-preserved : goal.operators-preserved
operators-preserved g c =
    let v = g.S.Space.view c.args.space.now in
    let u = g.S.Space.view c.operators.space in
    let k = c.operators.invariant.stays.kept in
    let front = Stands v c.args.meeting.front.now in
    let to = Has v c.args.to in
    let ops = c.deref-op-items.result.now in
    let x = g.S.Space.view c.meeting_costs.new.space in
    let lead : LeadInto x c.args.to ops = subst (LeadInto x c.args.to) (sym c.deref-op-items.ensures.value) c.in_ok-ops.ensures in
    let at = c.operators.op-index in
    let op = get_or ops at 0 in
    let Kept : List ℕ → Type 0 = Gathered v.system front to c.args.cost c.args.meeting.b c.args.place.z ops (at + 1) c.args.place.op in
    let skip = gathered_skip v.system front to c.args.cost c.args.meeting.b c.args.place.z ops at c.args.place.op c.operators.found.items in
    elim c.if-place-op.branch [
      | then-place-op+in_ok-op_cuts+then-branch+in_ok-push+in_default p ↦ record {
        stays = subst (λ (y : _). Stays v (g.S.Space.view y)) (sym p.space-is) (stays_trans c.operators.invariant.stays p.op_cuts.ensures.stays);
        found =
            let cut = (cuts_kept c.requires.layers k c.args.to c.requires.to).0 (p.in_ok-op_cuts.ensures.ok.0 p.if-branch.true) in
            subst Kept (sym (ap (λ (y : Vec _ _). y.items) p.found-is ∙ p.in_ok-push.ensures.items))
            (gathered_push v.system front to c.args.cost c.args.meeting.b c.args.place.z ops
            (cuts_listed c.meeting_costs.ensures.stays.kept c.requires.to lead)
            lead.rising at c.args.place.op c.operators.found.items c.operators-test.true p.if-place-op.true cut c.operators.invariant.found);
      }
      | else-place-op w ↦ elim w.else-place-op.branch [
        | else-place-op-via-then-place-op+in_ok-op_cuts+else-branch p ↦ record {
          stays = subst (λ (y : _). Stays v (g.S.Space.view y)) (sym (w.space-is ∙ p.space-is))
              (stays_trans c.operators.invariant.stays p.op_cuts.ensures.stays);
          found = subst (λ (y : Vec _ _). Kept y.items) (sym w.found-is)
              (skip (λ ge cut. test_clash (p.in_ok-op_cuts.ensures.ok.1
              ((cuts_kept c.requires.layers k c.args.to c.requires.to).1 cut)) p.if-branch.false)
              c.operators.invariant.found);
        }
        | else-place-op-via-else-place-op p ↦ record {
          stays = subst (λ (y : _). Stays v (g.S.Space.view y)) (sym (w.space-is ∙ p.space-is)) c.operators.invariant.stays;
          found = subst (λ (y : Vec _ _). Kept y.items) (sym w.found-is)
              (skip (λ ge cut. absurd (omega (arith, ge, p.if-place-op.false))) c.operators.invariant.found);
        }
      ]
    ]

pub returns-clause-ok : goal.returns-clause-ok
returns-clause-ok g c =
    let v = g.S.Space.view c.args.space.now in
    let ops = c.deref-op-items.result.now in
    let x = g.S.Space.view c.meeting_costs.new.space in
    let lead : LeadInto x c.args.to ops = subst (LeadInto x c.args.to) (sym c.deref-op-items.ensures.value) c.in_ok-ops.ensures in
    gathered_all v.system (Stands v c.args.meeting.front.now) (Has v c.args.to) c.args.cost c.args.meeting.b c.args.place.z ops
    (cuts_listed c.meeting_costs.ensures.stays.kept c.requires.to lead)
    c.args.wanted c.operators.op-index c.args.place.op c.operators.found.items (omega (arith, c.operators-test.false)) c.operators.invariant.found

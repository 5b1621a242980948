use Rattle.std.proofs.Common.{refl, sym, ◌∙◌, subst, get_or, ◌<◌}
use Rattle.std.proofs.lemmas.List.{get_or_default}
use Rattle.task_system.specs.System.{System}
use Rattle.space_api.proofs.Keeping.{stays_refl, stays_trans}
use Rattle.space_api.proofs.Trading.{valid_clash}
use Rattle.mutex_use.proofs.Lists.{none, whole}
use Rattle.mutex_use.proofs.Stable.{none_more}
use Rattle.mutex_use.proofs.standing.any_leads.Goals as goal

pub operators-init : goal.operators-init
operators-init g c = record { task = refl; stays = stays_refl (g.S.Space.view c.args.space.now); none = λ op s h. absurd (none c.args.operators.now op h) }

pub leads-requires-clause-from : goal.leads-requires-clause-from
leads-requires-clause-from g c = c.operators.invariant.stays.kept.valid c.args.from c.requires.from

pub leads-requires-clause-to : goal.leads-requires-clause-to
leads-requires-clause-to g c = c.operators.invariant.stays.kept.valid c.args.to c.requires.to

pub leads-requires-clause-op : goal.leads-requires-clause-op
leads-requires-clause-op g c =
    let op = get_or c.args.operators.now c.operators.i 0 in
    subst (λ (y : System). op < y.operators) (sym c.operators.invariant.stays.kept.system) (c.requires.operators c.operators.i 0 c.operators-test.true)

pub operators-preserved : goal.operators-preserved
operators-preserved g c =
    let view = g.S.Space.view in
    let i = c.operators.invariant in
    let op = get_or c.args.operators.now c.operators.i 0 in
    record {
      task = c.leads.ensures.task ∙ i.task;
      stays = stays_trans i.stays c.leads.ensures.stays;
      none = none_more (view c.args.space.now) (view c.operators.space) c.args.operators.now c.operators.i op
          c.args.to c.args.from c.in_ok-leads.field-0
          (record {
            within = c.operators-test.true;
            is = get_or_default c.args.operators.now c.operators.i op 0 c.operators-test.true;
            kept = i.stays.kept;
            to_valid = c.requires.to;
            from_valid = c.requires.from;
            tells = c.in_ok-leads.ensures.ok;
            fails = c.if-branch.false;
          })
          i.none;
    }

pub returns-clause-ok : goal.returns-clause-ok
returns-clause-ok g c = (
  (λ e. absurd (valid_clash e refl)),
  (λ h. absurd (c.operators.invariant.none h.0 h.2.0
      ((whole c.args.operators.now c.operators.i h.0 c.operators-test.false).1 h.1) h.2.1)),
)

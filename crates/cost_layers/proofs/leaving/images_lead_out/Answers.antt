use Rattle.std.proofs.Common.{arith}
use Rattle.space_api.proofs.Keeping.{stays_trans}
use Rattle.cost_layers.proofs.Trying.{images_none, images_more}
use Rattle.cost_layers.proofs.leaving.images_lead_out.Goals as goal

pub returns-clause-ok : goal.returns-clause-ok
returns-clause-ok g c =
    let v = g.S.Space.view c.args.space.now in (
      (λ h. cc),
      (λ h. absurd (images_none c.args.side v c.args.part c.args.set c.args.within c.costs.i
          (omega (arith, c.costs-i-end.ensures, c.costs-test.false)) c.costs.invariant.none h)),
    )

pub costs-preserved : goal.costs-preserved
costs-preserved g c =
    let view = g.S.Space.view in
    let i = c.costs.invariant in
    record {
      stays = stays_trans i.stays c.cost_leads_out.ensures.stays;
      none = images_more c.args.side (view c.args.space.now) (view c.costs.space) c.args.part c.args.set c.args.within
          i.stays.kept c.requires.part c.requires.set c.requires.within c.costs.i c.cost_at-cost.result
          c.in_ok-cost_leads_out.field-0 c.cost_at-cost.ensures i.none
          c.in_ok-cost_leads_out.ensures.ok c.if-branch.false;
    }

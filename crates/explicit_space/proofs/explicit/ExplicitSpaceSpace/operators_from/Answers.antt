use Rattle.std.proofs.Common.{◌≡◌, ℕ, IfOk, length, ap, subst, ◌∙◌}
use Rattle.std.proofs.lemmas.Result.{IfOk-weaker}
use Rattle.space_api.specs.Operators.{CountsTo, LeadFrom}
use Rattle.space_api.proofs.AllLead.{all_lead_from}
use Rattle.explicit_space.specs.Explicit.{Explicit}
use Rattle.explicit_space.specs.Seen.{explicit_view}
use Rattle.explicit_space.proofs.explicit.ExplicitSpaceSpace.operators_from.Goals as goal

pub returns : goal.returns
returns c =
    let v = explicit_view c.args.self.now in
    let count : c.operators.result ≡ v.system.operators = c.operators.ensures ∙ ap (λ (x : Explicit). length x.task.operators) c.self.view_is in
    let said = subst (λ (n : ℕ). IfOk c.all_operators.result (λ ops. CountsTo n ops.items)) count c.all_operators.ensures in
    IfOk-weaker c.all_operators.result (λ ops. CountsTo v.system.operators ops.items) (λ ops. LeadFrom v c.args.a ops.items) (λ ops h. all_lead_from v c.args.a ops.items h) said

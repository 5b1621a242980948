use Rattle.std.proofs.Common.{ap₂, ◌∙◌}
use Rattle.std.proofs.lemmas.Result.{IfOk-weaker}
use Rattle.clap.specs.Simple.{with_rule}
use Rattle.symk_words.proofs.plan_command.Goals as goal

pub returns-clause-app : goal.returns-clause-app
returns-clause-app c =
    let one = c.in_ok-command-2.ensures.app ∙ ap₂ with_rule c.in_ok-command.ensures.app c.wished.ensures.rule in
    IfOk-weaker c.with_arg-2.result _ _ (λ r h. h ∙ ap₂ with_rule one c.flag.ensures.rule) c.with_arg-2.ensures.app

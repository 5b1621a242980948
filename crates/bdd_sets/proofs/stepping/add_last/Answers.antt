use Rattle.std.proofs.Common.{sym, ◌∙◌}
use Rattle.std.proofs.lemmas.Result.{on_ok_weaker}
use Rattle.bdd_sets.proofs.FactLists.{ends_more}
use Rattle.bdd_sets.proofs.stepping.add_last.Goals as goal

pub returns-clause-facts : goal.returns-clause-facts
returns-clause-facts c =
    on_ok_weaker c.add_given.result
    (ends_more c.args.effect.now c.args.facts.now c.add_given.new.facts c.args.later.now (sym c.contains.ensures ∙ c.if-contains.false)) c.add_given.ensures

use Rattle.std.proofs.Common.{◌++◌, ◌∷◌, [], get_or, sym, ap, ◌∙◌, append_assoc}
use Rattle.std.proofs.lemmas.List.{get_or_default}
use Rattle.symk_task.specs.declared.parts.Fact.{Fact}
use Rattle.sas_writer.specs.Spelling.{fact_line}
use Rattle.sas_writer.proofs.Growth.{line_more}
use Rattle.sas_writer.proofs.facts.push_each_fact.Goals as goal

pub loop-fact-preserved : goal.loop-fact-preserved
loop-fact-preserved c =
    let facts = c.args.facts.now in
    let i = c.loop-fact.fact-index in
    let none : Fact = record { var = 0; val = 0 } in
    let fact = get_or facts i none in
    c.in_ok-push_end.ensures ∙ ap (λ t. t ++ 10 ∷ []) c.in_ok-push_fact.ensures ∙ append_assoc c.loop-fact.text (fact_line fact) (10 ∷ [])
    ∙ ap (λ t. t ++ (fact_line fact ++ 10 ∷ [])) c.loop-fact.invariant
    ∙ sym (line_more fact_line c.args.text.now facts i fact c.loop-fact-test.true (get_or_default facts i none fact c.loop-fact-test.true))

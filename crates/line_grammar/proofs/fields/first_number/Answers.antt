use Rattle.std.proofs.Common.{sym, ◌∙◌}
use Rattle.line_grammar.proofs.Fronts.{first_found, first_missing}
use Rattle.line_grammar.proofs.fields.first_number.Goals as goal

pub returns-in-Some : goal.returns-in-Some
returns-in-Some c = first_found c.args.bytes.now c.in-Some.value c.in-Some.end (sym c.in-Some.is ∙ c.number.ensures)

pub returns-in-None : goal.returns-in-None
returns-in-None c = first_missing c.args.bytes.now (sym c.in-None.is ∙ c.number.ensures)

use Rattle.std.proofs.Common.{[], ◌∷◌}
use Rattle.bdd_table.specs.Diagram.{means}
use Rattle.bdd_ops.proofs.Ignoring.{order_of_one}
use Rattle.diagram_tests.proofs.operations.renamed_literal.Goals as goal

pub rename-requires-clause-order : goal.rename-requires-clause-order
rename-requires-clause-order c = order_of_one ((c.args.from, c.args.to) ∷ []) (means c.literal.new.self c.in_ok-literal.literal) c.args.from (λ v. v) c.in_ok-literal.ensures.meaning

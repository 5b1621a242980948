use Rattle.std.proofs.Common.{◌||◌, refl}
use Rattle.bdd_table.specs.Diagram.{means}
use Rattle.bdd_table.proofs.Adding.{ok_by}
use Rattle.transitions.proofs.Using.{set_by, set_alike}
use Rattle.diagram_tests.proofs.states.states.Goals as goal

pub returns-clause-states : goal.returns-clause-states
returns-clause-states g c =
    let o = c.args.order.now in
    let first = means c.state-2.new.ops c.in_ok-first.first in
    let second = means c.state-2.new.ops c.in_ok-second.second in
    let kept = set_alike o (means c.state.new.ops c.in_ok-first.first) first (λ b. c.in_ok-second.ensures.kept.meaning c.in_ok-first.first b c.in_ok-first.ensures.known) c.in_ok-first.ensures.states in
    ok_by c.disj.result _ _ c.disj.ensures.meaning (λ id m. set_by o (λ x y. x || y) first second (means c.disj.new.self id) c.blocks-2.ensures.layout refl kept c.in_ok-second.ensures.states m)

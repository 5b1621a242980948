use Rattle.std.proofs.Common.{arith}
use Rattle.space_tests.proofs.Moving.{moves_trans}
use Rattle.space_tests.proofs.Rounding.{start_in, round_in, agree_for}
use Rattle.space_tests.proofs.agreeing.rounds.Goals as goal

pub rounds-init : goal.rounds-init
rounds-init g c = start_in c.requires.none c.in_ok-start.ensures.ok c.requires.operators c.if-not-branch.false

pub rounds-preserved : goal.rounds-preserved
rounds-preserved g c = round_in c.rounds.invariant c.round.ensures.moves c.round.ensures.some c.round.ensures.few (c.in_ok-round.ensures.round c.if-not-branch-2.false)

pub returns-in_err-round-clause-moves : goal.returns-in_err-round-clause-moves
returns-in_err-round-clause-moves g c = moves_trans c.rounds.invariant.moves c.round.ensures.moves

pub returns-then-not-branch-2-clause-moves : goal.returns-then-not-branch-2-clause-moves
returns-then-not-branch-2-clause-moves g c = moves_trans c.rounds.invariant.moves c.round.ensures.moves

pub returns-clause-rounds : goal.returns-clause-rounds
returns-clause-rounds g c = λ t. agree_for c.rounds.invariant (omega arith)

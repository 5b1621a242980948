use Rattle.std.proofs.Common.{◌≡◌, length, arith}
use Rattle.std.proofs.lemmas.Result.{IfOk-weaker}
use Rattle.space_api.specs.View.{Has}
use Rattle.mutex_use.specs.Groups.{IsPartOf}
use Rattle.mutex_use.specs.Rounds.{AreGroupsLeft, IsRound}
use Rattle.mutex_use.proofs.Leaving.{left_round, left_all}
use Rattle.mutex_use.proofs.standing.round.Goals as goal

pub standing-left-requires-clause-keeps : goal.standing-left-requires-clause-keeps
standing-left-requires-clause-keeps g c s = (c.in_ok-kept.ensures.ok.means s).0

pub returns-clause-round : goal.returns-clause-round
returns-clause-round g c =
    let task = c.args.task.now in
    let groups = c.args.groups.now in
    let From = Has (g.S.Space.view c.keep_each.new.space) c.in_ok-kept.kept in
    IfOk-weaker c.standing-left.result (λ left. AreGroupsLeft task From groups (length groups) left.items) (λ left. IsRound task groups left.items)
    (λ left l. left_round task From groups left.items (length groups) (omega arith) c.in_ok-kept.ensures.ok.means l) c.standing-left.ensures.ok

pub returns-clause-last : goal.returns-clause-last
returns-clause-last g c =
    let task = c.args.task.now in
    let groups = c.args.groups.now in
    let From = Has (g.S.Space.view c.keep_each.new.space) c.in_ok-kept.kept in
    IfOk-weaker c.standing-left.result (λ left. AreGroupsLeft task From groups (length groups) left.items)
    (λ left. length left.items ≡ length groups → IsPartOf groups left.items)
    (λ left l. left_all task From groups left.items (length groups) (omega arith) c.in_ok-kept.ensures.ok.means l) c.standing-left.ensures.ok

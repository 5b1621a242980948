use Rattle.std.proofs.Common.{ℕ, ◌+◌, get_or, sym, ◌∙◌, ap, subst, Vec, Global}
use Rattle.std.proofs.lemmas.List.{get_or_default}
use Rattle.std.proofs.lemmas.List.Elements.{Contains-get_or}
use Rattle.space_api.specs.View.{Has}
use Rattle.space_api.proofs.Keeping.{stays_trans}
use Rattle.space_api.proofs.Trading.{valid_clash}
use Rattle.mutex_use.specs.Rounds.{AreGroupsLeft}
use Rattle.mutex_use.proofs.Leaving.{left_more, left_same, from_same}
use Rattle.mutex_use.proofs.standing.standing.Goals as goal
use Rattle.mutex_use.proofs.standing.standing.Goals.{then-holds+in_ok-push, else-holds}

pub stands-requires-clause-keeps : goal.stands-requires-clause-keeps
stands-requires-clause-keeps g c s has =
    let k = c.requires.keeps s (sym (c.groups.invariant.stays.kept.same c.args.kept c.requires.kept s) ∙ has) in
    (k.0, k.1 (get_or c.args.groups.now c.groups.i 0) (Contains-get_or c.args.groups.now c.groups.i 0 c.groups-test.true))

pub groups-preserved : goal.groups-preserved
groups-preserved g c =
    let view = g.S.Space.view in
    let v = view c.args.space.now in
    let w = view c.groups.space in
    let task = c.args.task.now in
    let groups = c.args.groups.now in
    let i = c.groups.i in
    let x = get_or groups i 0 in
    let lt = c.groups-test.true in
    let here = get_or_default groups i x 0 lt in
    let inv = c.groups.invariant in
    let From = Has v c.args.kept in
    let old = c.groups.left.items in
    let told = c.in_ok-holds.ensures.ok in
    let same = from_same v w task c.args.kept x inv.stays.kept c.requires.kept in
    record {
      task = c.tidy.ensures.task ∙ (c.stands.ensures.task ∙ inv.task);
      stays = stays_trans (stays_trans inv.stays c.stands.ensures.stays) c.tidy.ensures.stays;
      left = elim c.if-holds.branch [
        | then-holds+in_ok-push w ↦ subst (AreGroupsLeft task From groups (i + 1))
            (sym (ap (λ (u : Vec ℕ Global). u.items) w.left-is ∙ w.in_ok-push.ensures.items))
            (left_more task From groups old i x c.requires.rising lt here inv.left (same.0 (told.0 w.if-holds.true)))
        | else-holds w ↦ subst (AreGroupsLeft task From groups (i + 1)) (sym (ap (λ (u : Vec ℕ Global). u.items) w.left-is))
            (left_same task From groups old i x c.requires.rising lt here inv.left (λ st. valid_clash (told.1 (same.1 st)) w.if-holds.false))
      ];
    }

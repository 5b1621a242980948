use Rattle.std.proofs.Common.{List, ℕ, ◌≡◌, length, get_or, refl, sym, ◌∙◌, subst}
use Rattle.std.proofs.lemmas.List.Elements.{All-contains, Contains-get_or}
use Rattle.space_api.proofs.Keeping.{stays_refl, stays_trans}
use Rattle.mutex_use.specs.Groups.{IsBaseGroup, IsPartOf}
use Rattle.mutex_use.specs.Rounds.{IsRound}
use Rattle.mutex_use.proofs.Holding.{round_covers, done_greatest}
use Rattle.mutex_use.proofs.standing.greatest.Goals as goal

pub rounds-init : goal.rounds-init
rounds-init g c =
    let each = c.in_ok-groups.ensures.each in
    let groups = c.in_ok-groups.groups.items in
    record {
      task = refl;
      stays = stays_refl (g.S.Space.view c.args.space.now);
      base = λ k d lt. (each (get_or groups k d)).0 (Contains-get_or groups k d lt);
      rising = c.in_ok-groups.ensures.rising;
      covers = λ others hold group h. (each group).1 (hold.base group h);
    }

pub returns-then-len-clause-greatest : goal.returns-then-len-clause-greatest
returns-then-len-clause-greatest g c =
    let task = c.args.task.now in
    let groups = c.rounds.groups.items in
    let left = c.in_ok-left.left in
    let same = c.deref-in-rounds.ensures.value in
    let round = subst (λ (z : List ℕ). IsRound task z left.items) same c.in_ok-left.ensures.round in
    let last = subst (λ (z : List ℕ). length left.items ≡ length z → IsPartOf z left.items) same c.in_ok-left.ensures.last in
    let count : left.len ≡ c.rounds.groups.len = sym c.len.ensures ∙ c.if-len.true ∙ c.len-in-rounds.ensures in
    done_greatest task groups left.items c.rounds.invariant.covers round (last (sym left.ok.0 ∙ count ∙ c.rounds.groups.ok.0))

pub rounds-preserved : goal.rounds-preserved
rounds-preserved g c =
    let task = c.args.task.now in
    let groups = c.rounds.groups.items in
    let left = c.in_ok-left.left.items in
    let round = subst (λ (z : List ℕ). IsRound task z left) c.deref-in-rounds.ensures.value c.in_ok-left.ensures.round in
    record {
      task = c.round.ensures.task ∙ c.rounds.invariant.task;
      stays = stays_trans c.rounds.invariant.stays c.round.ensures.stays;
      base = λ k d lt. All-contains (IsBaseGroup task) groups (get_or left k d) c.rounds.invariant.base
          (round.part (get_or left k d) (Contains-get_or left k d lt));
      rising = c.in_ok-left.ensures.rising;
      covers = round_covers task groups left c.rounds.invariant.covers round;
    }

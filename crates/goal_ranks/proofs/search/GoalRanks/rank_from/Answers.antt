use Rattle.std.proofs.Common.{◌<◌, ◌≤◌, length, refl, sym, ◌∙◌, arith}
use Rattle.std.proofs.lemmas.Option.{slice_get_read}
use Rattle.goal_ranks.specs.Ranks.{Rest, OfRank}
use Rattle.goal_ranks.proofs.Knowing.{none_further, none_at_all, not_both}
use Rattle.goal_ranks.proofs.search.GoalRanks.rank_from.Goals as goal

pub has_state-requires-clause-set : goal.has_state-requires-clause-set
has_state-requires-clause-set g c = c.requires.ranks.sets.valid Rest c.args.self.now.left refl

pub returns-then-has_state : goal.returns-then-has_state
returns-then-has_state g c = λ i x ge le h. c.requires.ranks.left.out i x c.args.state.now (sym c.has_state.ensures ∙ c.if-has_state.true) h

pub may_have-requires-clause-set : goal.may_have-requires-clause-set
may_have-requires-clause-set g c =
    let f = c.args.self.now in
    let lt : c.ranks.number < length f.ranks.items = grind (arith, c.ranks-test.true, c.len-number-end.ensures) in
    let at = slice_get_read f.ranks.items (length f.ranks.items) c.ranks.number c.index-ranked.result.now refl lt c.index-ranked.ensures in
    c.requires.ranks.sets.valid (OfRank c.ranks.number) c.index-ranked.result.now.set (c.index-ranked.result.now, at, refl)

pub returns-then-may_have : goal.returns-then-may_have
returns-then-may_have g c =
    let f = c.args.self.now in
    let lt : c.ranks.number < length f.ranks.items = grind (arith, c.ranks-test.true, c.len-number-end.ensures) in
    let at = slice_get_read f.ranks.items (length f.ranks.items) c.ranks.number c.index-ranked.result.now refl lt c.index-ranked.ensures in
    (c.index-ranked.result.now, at, refl, (c.may_have.ensures.0 c.if-may_have.true).1)

pub ranks-preserved : goal.ranks-preserved
ranks-preserved g c =
    let f = c.args.self.now in
    let lt : c.ranks.number < length f.ranks.items = grind (arith, c.ranks-test.true, c.len-number-end.ensures) in
    let at = slice_get_read f.ranks.items (length f.ranks.items) c.ranks.number c.index-ranked.result.now refl lt c.index-ranked.ensures in
    none_further (g.S.Space.view c.args.space.now) f.ranks.items c.args.state.now c.args.from.number c.args.from.cost
    c.ranks.number c.ranks.invariant c.index-ranked.result.now at
    (not_both c.may_have.result _ c.may_have.ensures c.if-may_have.false)

pub returns : goal.returns
returns g c =
    let f = c.args.self.now in
    let le : length f.ranks.items ≤ c.ranks.number = grind (arith, c.ranks-test.false, c.len-number-end.ensures) in
    none_at_all (g.S.Space.view c.args.space.now) f.ranks.items c.args.state.now c.args.from.number c.args.from.cost c.ranks.number c.ranks.invariant le

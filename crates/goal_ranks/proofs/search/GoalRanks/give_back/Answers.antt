use Rattle.std.proofs.Common.{ℕ, List, sym, subst}
use Rattle.space_api.specs.View.{Valid}
use Rattle.space_api.specs.Owned.{Trades}
use Rattle.goal_ranks.specs.Giving.{RankSet, SlotSet, AllOf, OnceEach}
use Rattle.goal_ranks.proofs.Giving.{rank_valid, rank_once, slot_once, slot_valid, left_valid, all_back}
use Rattle.goal_ranks.proofs.search.GoalRanks.give_back.Goals as goal

pub forget_ranks-requires-clause-valid : goal.forget_ranks-requires-clause-valid
forget_ranks-requires-clause-valid g c =
    let v = g.S.Space.view c.args.space.now in
    let f = c.args.self in
    subst (λ (xs : List _). (i : ℕ) (a : _) → RankSet xs i a → Valid v a) (sym c.deref.ensures.value)
    (rank_valid v v v v f.within f.left f.ranks.items f.slots.items c.requires.sets)

pub forget_ranks-requires-clause-once : goal.forget_ranks-requires-clause-once
forget_ranks-requires-clause-once g c =
    let v = g.S.Space.view c.args.space.now in
    let f = c.args.self in
    subst (λ (xs : List _). OnceEach (RankSet xs)) (sym c.deref.ensures.value) (rank_once v v v v f.within f.left f.ranks.items f.slots.items c.requires.sets)

pub forget_slots-requires-clause-valid : goal.forget_slots-requires-clause-valid
forget_slots-requires-clause-valid g c =
    let v = g.S.Space.view c.args.space.now in
    let u = g.S.Space.view c.forget_ranks.new.space in
    let f = c.args.self in
    let t = subst (λ (xs : List _). Trades v u (AllOf (RankSet xs)) (λ a. ⊥)) c.deref.ensures.value c.forget_ranks.ensures in
    subst (λ (xs : List _). (i : ℕ) (a : _) → SlotSet xs i a → Valid u a) (sym c.deref-2.ensures.value)
    (slot_valid v u v v f.within f.left f.ranks.items f.slots.items c.requires.sets t)

pub forget_slots-requires-clause-once : goal.forget_slots-requires-clause-once
forget_slots-requires-clause-once g c =
    let v = g.S.Space.view c.args.space.now in
    let f = c.args.self in
    subst (λ (xs : List _). OnceEach (SlotSet xs)) (sym c.deref-2.ensures.value) (slot_once v v v v f.within f.left f.ranks.items f.slots.items c.requires.sets)

pub forget-requires : goal.forget-requires
forget-requires g c =
    let v = g.S.Space.view c.args.space.now in
    let u = g.S.Space.view c.forget_ranks.new.space in
    let w = g.S.Space.view c.forget_slots.new.space in
    let f = c.args.self in
    let t = subst (λ (xs : List _). Trades v u (AllOf (RankSet xs)) (λ a. ⊥)) c.deref.ensures.value c.forget_ranks.ensures in
    let s = subst (λ (xs : List _). Trades u w (AllOf (SlotSet xs)) (λ a. ⊥)) c.deref-2.ensures.value c.forget_slots.ensures in
    left_valid v u w v f.within f.left f.ranks.items f.slots.items c.requires.sets t s

pub returns : goal.returns
returns g c =
    let v = g.S.Space.view c.args.space.now in
    let u = g.S.Space.view c.forget_ranks.new.space in
    let w = g.S.Space.view c.forget_slots.new.space in
    let f = c.args.self in
    let t = subst (λ (xs : List _). Trades v u (AllOf (RankSet xs)) (λ a. ⊥)) c.deref.ensures.value c.forget_ranks.ensures in
    let s = subst (λ (xs : List _). Trades u w (AllOf (SlotSet xs)) (λ a. ⊥)) c.deref-2.ensures.value c.forget_slots.ensures in
    all_back v u w (g.S.Space.view c.forget.new.self) f.within f.left f.ranks.items f.slots.items c.requires.sets t s c.forget.ensures

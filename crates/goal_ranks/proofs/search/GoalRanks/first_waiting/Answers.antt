use Rattle.std.proofs.Common.{◌≡◌, ℕ, List, Option, Some, None, IfSome, length, slice_get, refl, sym, ◌∙◌, ap, subst, arith}
use Rattle.std.proofs.lemmas.Option.{slice_get_read}
use Rattle.space_api.specs.View.{View, Valid}
use Rattle.goal_ranks.specs.declared.parts.Waiting.{Waiting}
use Rattle.goal_ranks.specs.declared.lists.Least.{Least}
use Rattle.goal_ranks.specs.declared.search.GoalRanks.{GoalRanks}
use Rattle.goal_ranks.specs.Agenda.{entries_of}
use Rattle.goal_ranks.specs.Lists.{slot_key, IsLeastKey, IsFirstWaiting}
use Rattle.goal_ranks.specs.Entries.{IsLeastEntry}
use Rattle.goal_ranks.specs.Ranks.{IsGoalRanks, OfSlot}
use Rattle.goal_ranks.proofs.Firsts.{slots_within}
use Rattle.goal_ranks.proofs.Settling.{same_some}
use Rattle.goal_ranks.proofs.Tidying.{least_key}
use Rattle.goal_ranks.proofs.search.GoalRanks.first_waiting.Goals as goal

-- the set of a slot is valid
slot_valid : {Set : Type 0} (v : View Set) (g : GoalRanks Set) (i : _) (o : Option (Waiting Set))
    → slice_get g.slots.items i ≡ Some o → IsGoalRanks v g → IfSome o (λ e. Valid v e.set)
slot_valid v g i None at z = tt
slot_valid v g i (Some e) at z = z.sets.valid (OfSlot i) e.set (e, at, refl)

no_key : {Set : Type 0} (k : ℕ) (o : Option (Waiting Set)) → o ≡ None → slot_key o ≡ Some k → ⊥
no_key k None e h = cc
no_key k (Some w) e h = cc

-- the slot of the least key has a set, which has that key
first_is_least : {Set : Type 0} (slots : List (Option (Waiting Set))) (p : Least) (o : Option (Waiting Set))
    → IsLeastKey slot_key slots (Some p) → slice_get slots p.index ≡ Some o → IsFirstWaiting slots o
first_is_least slots p None least at =
    absurd (no_key p.key least.0.0 (same_some least.0.0 None (sym least.0.1 ∙ at)) least.0.2)
first_is_least slots p (Some w) least at =
    let same : least.0.0 ≡ Some w = same_some least.0.0 (Some w) (sym least.0.1 ∙ at) in
    let key : w.key ≡ p.key = same_some w.key p.key (ap slot_key (sym same) ∙ least.0.2) in
    ((p.index, at), λ i k h. let m = least.1 i k h in omega (arith, m, key))

-- the least key of the slots, as it was found
least_of : {Set : Type 0} (f : GoalRanks Set) (found r : Option Least) → IsLeastEntry (entries_of f.slot_keys) found
    → found ≡ r → IsLeastKey slot_key f.slots.items r
least_of f found r is same = subst (λ (o : Option Least). IsLeastKey slot_key f.slots.items o) same
    (least_key slot_key f.slots.items (entries_of f.slot_keys) found f.slots_told is)

pub returns-in_err-least-clause-value : goal.returns-in_err-least-clause-value
returns-in_err-least-clause-value g c =
    let f = c.args.self.now in
    subst (λ (o : Option (Waiting _)). IsFirstWaiting f.slots.items o) (sym c.from_residual.ensures)
    (least_of f c.least.result None c.least.ensures c.in_err-least.was)

pub returns-then-least-len-clause-value : goal.returns-then-least-len-clause-value
returns-then-least-len-clause-value g c i k at =
    let p = c.in_ok-least.least in
    let l = least_of c.args.self.now c.least.result (Some p) c.least.ensures c.in_ok-least.was in
    let here = slots_within c.args.self.now.slots.items p.index p.key l.0 in
    omega (arith, here, c.if-least-len.true, c.len.ensures)

pub returns-clause-valid : goal.returns-clause-valid
returns-clause-valid g c v z =
    let f = c.args.self.now in
    let i = c.in_ok-least.least.index in
    let at = slice_get_read f.slots.items (length f.slots.items) i c.index.result.now refl
    (omega (arith, c.if-least-len.false, c.len.ensures)) c.index.ensures in
    slot_valid v f i c.index.result.now at z

pub returns-clause-value : goal.returns-clause-value
returns-clause-value g c =
    let f = c.args.self.now in
    let p = c.in_ok-least.least in
    let at = slice_get_read f.slots.items (length f.slots.items) p.index c.index.result.now refl
    (omega (arith, c.if-least-len.false, c.len.ensures)) c.index.ensures in
    first_is_least f.slots.items p c.index.result.now (least_of f c.least.result (Some p) c.least.ensures c.in_ok-least.was) at

-- Ranks stand where the sets of others are traded.
use Rattle.std.proofs.Common.{◌≡◌, ℕ, ◌↔◌, inl, List, Option, Bool, length, refl, sym, ◌∙◌, subst, arith}
use Rattle.task_system.specs.System.{State, System}
use Rattle.space_api.specs.View.{View, Valid, Has}
use Rattle.space_api.specs.Owned.{Trades}
use Rattle.run_graph.specs.Graph.{seen_from}
use Rattle.run_graph.specs.declared.Side.TheVariants.{Back}
use Rattle.run_graph.specs.Ranks.{AreRanks}
use Rattle.goal_ranks.specs.declared.parts.Ranked.{Ranked}
use Rattle.goal_ranks.specs.declared.parts.Waiting.{Waiting}
use Rattle.goal_ranks.specs.declared.search.GoalRanks.{GoalRanks}
use Rattle.goal_ranks.specs.Sets.{RankAt, SlotAt, HasRankAndCost, Waits}
use Rattle.goal_ranks.specs.Ranks.{AreLeft, AreGoalRanks, IsGoalRanks, IsOwnSetOfRanks, NonePast, Rest, OfRank, OfSlot, Seat, SetAt, SameRanks, rank_within}
use Rattle.goal_ranks.proofs.Keeping.{standing_same, same_right, same_left, same_past}

module _ {Set : Type 0} (v w : View Set) (within left : Set) (ranks : List (Ranked Set))
    (slots : List (Option (Waiting Set))) (sys : w.system ≡ v.system) (outer_valid : Valid w within)
    (outer_same : (s : State) → w.has within s ≡ v.has within s)
    (valid : (p : Seat) (a : Set) → SetAt left ranks slots p a → Valid w a)
    (same : (p : Seat) (a : Set) → SetAt left ranks slots p a → (s : State) → w.has a s ≡ v.has a s) where
  left_beside : (s : State) → w.has left s ≡ v.has left s
  left_beside s = same Rest left refl s

  rank_beside : (i : ℕ) (q : Ranked Set) → RankAt ranks i q → (s : State) → w.has q.set s ≡ v.has q.set s
  rank_beside i q at s = same (OfRank i) q.set (q, at, refl) s

  slot_beside : (i : ℕ) (e : Waiting Set) → SlotAt slots i e → (s : State) → w.has e.set s ≡ v.has e.set s
  slot_beside i e at s = same (OfSlot i) e.set (e, at, refl) s

  pub beside_standing : (i x : ℕ) (s : State) → HasRankAndCost w ranks i x s ↔ HasRankAndCost v ranks i x s
  beside_standing = standing_same v w within left ranks slots slots left_beside outer_same rank_beside

  right_beside : (f : ℕ) → AreRanks (seen_from Back v.system) (Has v within) f (HasRankAndCost v ranks) (length ranks) (Waits v.system v left ranks slots)
      → AreRanks (seen_from Back v.system) (Has w within) f (HasRankAndCost w ranks) (length ranks) (Waits v.system w left ranks slots)
  right_beside f right = same_right v w within left ranks slots slots left_beside outer_same rank_beside f f (omega arith)
      (λ k x s here (i, e, at, ek, ex, has). (k, (i, e, at, ek, ex, sym (slot_beside i e at s) ∙ has), inl (omega arith)))
      (λ k x s here (i, e, at, ek, ex, has). (k, (i, e, at, ek, ex, slot_beside i e at s ∙ has)))
      right

  pub beside_stands : (bound : ℕ) (beyond : Bool) → AreGoalRanks v within left ranks slots bound beyond → AreGoalRanks w within left ranks slots bound beyond
  beside_stands bound beyond r = record {
    sets = record { within = outer_valid; valid = valid; once = r.sets.once; apart = r.sets.apart };
    left = subst (λ (y : System). AreLeft y w within left ranks) (sym sys)
        (same_left v w within left ranks slots slots left_beside outer_same rank_beside r.left);
    told = r.told;
    right = subst (λ (y : System). AreRanks (seen_from Back y) (Has w within) bound (HasRankAndCost w ranks) (length ranks)
        (Waits y w left ranks slots)) (sym sys) (right_beside bound r.right);
    past = λ h. subst (λ (y : System). NonePast y w within ranks) (sym sys)
        (same_past v w within left ranks slots slots left_beside outer_same rank_beside (r.past h));
  }

module _ {Set : Type 0} (v w : View Set) (g : GoalRanks Set) (Old New : Set → Type 0) (t : Trades v w Old New)
    (own : (a : Set) → IsOwnSetOfRanks g a → ¬ Old a) (outer : ¬ Old (rank_within g)) (z : IsGoalRanks v g) where
  pub ranks_beside : IsGoalRanks w g
  ranks_beside = beside_stands v w g.within g.left g.ranks.items g.slots.items t.system
      (t.others g.within z.sets.within outer) (t.same g.within z.sets.within outer)
      (λ p a h. t.others a (z.sets.valid p a h) (own a (p, h))) (λ p a h. t.same a (z.sets.valid p a h) (own a (p, h))) g.bound g.beyond z

  pub same_beside : SameRanks v w g g
  same_beside = record {
    on = record { within = refl; states = t.same g.within z.sets.within outer };
    many = refl;
    same = beside_standing v w g.within g.left g.ranks.items g.slots.items t.system
        (t.others g.within z.sets.within outer) (t.same g.within z.sets.within outer)
        (λ p a h. t.others a (z.sets.valid p a h) (own a (p, h))) (λ p a h. t.same a (z.sets.valid p a h) (own a (p, h)));
  }

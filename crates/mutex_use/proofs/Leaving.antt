-- Which groups are left, group by group, and what a round leaves.
use Rattle.std.proofs.Common.{◌≡◌, ℕ, ◌+◌, ◌<◌, ◌≤◌, ◌⊎◌, ◌↔◌, inl, inr, List, [], ◌∷◌, ◌++◌, length, get_or, refl, sym, ◌∙◌, subst, arith}
use Rattle.std.specs.List.{Contains}
use Rattle.std.specs.List.Sorted.{IsStrictlyIncreasing}
use Rattle.std.proofs.lemmas.List.{get_or_default, length-append}
use Rattle.std.proofs.lemmas.List.Elements.{Contains-append_left, Contains-push, Contains-push_cases}
use Rattle.std.proofs.lemmas.List.Kept.{AllPairs-from_increasing}
use Rattle.symk_task.specs.declared.parts.TaskParts.{TaskParts}
use Rattle.task_system.specs.System.{State}
use Rattle.space_api.specs.View.{View, Valid, Has}
use Rattle.space_api.specs.Frames.{Kept}
use Rattle.mutex_use.specs.Groups.{IsKeeper, IsPartOf}
use Rattle.mutex_use.specs.Rounds.{StandsFrom, GroupStands, IsRound, AreGroupsLeft}
use Rattle.mutex_use.proofs.Lists.{rising_push}

at_or_below : (k n : ℕ) → k < n + 1 → (k < n) ⊎ (k ≡ n)
at_or_below k n lt = grind arith

module _ (task : TaskParts) (From : State → Type 0) (groups left : List ℕ) (i x : ℕ)
    (rising : IsStrictlyIncreasing groups) (lt : i < length groups) (is : get_or groups i x ≡ x)
    (l : AreGroupsLeft task From groups i left) where
  at_place : (k d : ℕ) → k ≡ i → get_or groups k d ≡ x
  at_place k d e = subst (λ (z : ℕ). get_or groups z d ≡ x) (sym e) (get_or_default groups i d x lt ∙ is)

  -- the group stands
  pub left_more : StandsFrom task From x → AreGroupsLeft task From groups (i + 1) (left ++ x ∷ [])
  left_more st = record {
    rising = rising_push left x l.rising (λ y h. subst (λ (z : ℕ). y < z) is (l.below y i x h (omega arith) lt));
    stand = λ g h. elim (Contains-push_cases left x g h) [
      | inl k ↦ l.stand g k
      | inr e ↦ ((i, lt, get_or_default groups i g x lt ∙ is ∙ e), subst (StandsFrom task From) e st)
    ];
    stay = λ k d low so. elim (at_or_below k i low) [
      | inl m ↦ Contains-append_left left (x ∷ []) (get_or groups k d) (l.stay k d m so)
      | inr e ↦ subst (Contains (left ++ x ∷ [])) (sym (at_place k d e)) (Contains-push left x)
    ];
    below = λ g k d h le within. elim (Contains-push_cases left x g h) [
      | inl m ↦ l.below g k d m (omega (arith, le)) within
      | inr e ↦ (let p : get_or groups i d < get_or groups k d =
          AllPairs-from_increasing groups rising i k d (omega (arith, le)) within in omega
          (arith, p, at_place i d refl, e))
    ];
    few = omega (arith, l.few, length-append left (x ∷ []));
    all = λ e k d low. elim (at_or_below k i low) [
      | inl m ↦ Contains-append_left left (x ∷ []) (get_or groups k d) (l.all (omega (arith, e, length-append left (x ∷ []))) k d m)
      | inr s ↦ subst (Contains (left ++ x ∷ [])) (sym (at_place k d s)) (Contains-push left x)
    ];
  }

  -- it fails
  pub left_same : ¬ StandsFrom task From x → AreGroupsLeft task From groups (i + 1) left
  left_same fails = record {
    rising = l.rising;
    stand = l.stand;
    stay = λ k d low so. elim (at_or_below k i low) [
      | inl m ↦ l.stay k d m so
      | inr e ↦ absurd (fails (subst (StandsFrom task From) (at_place k d e) so))
    ];
    below = λ g k d h le within. l.below g k d h (omega (arith, le)) within;
    few = omega (arith, l.few);
    all = λ e k d low. absurd (omega (arith, e, l.few));
  }

-- what is left at the end is a round
module _ (task : TaskParts) (From : State → Type 0) (groups left : List ℕ) (n : ℕ) (end : length groups ≤ n)
    (keepers : (s : State) → (From s → IsKeeper task groups s) × (IsKeeper task groups s → From s))
    (l : AreGroupsLeft task From groups n left) where
  stands_as : (g : ℕ) → StandsFrom task From g → GroupStands task groups g
  stands_as g st = record { base = st.base; initial = st.initial; steps = λ s t a state keeps step. st.steps s t a state ((keepers s).1 (state, keeps)) step }

  stands_from : (g : ℕ) → GroupStands task groups g → StandsFrom task From g
  stands_from g st = record { base = st.base; initial = st.initial; steps = λ s t a state from step. st.steps s t a state ((keepers s).0 from).1 step }

  pub left_round : IsRound task groups left
  left_round = record {
    part = λ g h. (l.stand g h).0;
    stand = λ g h. stands_as g (l.stand g h).1;
    stay = λ g h st. subst (Contains left) h.2 (l.stay h.0 g (omega (arith, h.1, end)) (subst (StandsFrom task From) (sym h.2) (stands_from g st)));
  }

  pub left_all : length left ≡ n → IsPartOf groups left
  left_all e g h = subst (Contains left) h.2 (l.all e h.0 g (omega (arith, h.1, end)))

-- the same states, told by calls that keep the sets
pub from_same : {Set : Type 0} (v w : View Set) (task : TaskParts) (kept : Set) (g : ℕ) → Kept v w → Valid v kept
    → StandsFrom task (Has w kept) g ↔ StandsFrom task (Has v kept) g
from_same v w task kept g k valid = (
  (λ st. record { base = st.base; initial = st.initial; steps = λ s t a state from step. st.steps s t a state (k.same kept valid s ∙ from) step }),
  (λ st. record { base = st.base; initial = st.initial; steps = λ s t a state from step. st.steps s t a state (sym (k.same kept valid s) ∙ from) step }),
)

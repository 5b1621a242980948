-- What calls of a space say of where operators lead on.
use Rattle.std.proofs.Common.{◌≡◌, ℕ, zero, suc, ◌<◌, ◌≤◌, ◌⊎◌, inl, inr, List, [], ◌∷◌, length, Some, None, refl, subst, arith}
use Rattle.task_system.specs.System.{State}
use Rattle.space_api.specs.View.{View}
use Rattle.cost_layers.specs.Rings.{RingAt, FirstMeeting}
use Rattle.cost_layers.specs.Layers.{rings_at, Stands as StandsIn}
use Rattle.cost_layers.specs.declared.layers.Layers.{Layers}
use Rattle.reconstruct.specs.Ways.{IsLeastRing, IsFirstRing}

below_or : (a b : ℕ) → (a < b) ⊎ (b ≤ a)
below_or a b = grind arith

only_first : {Set : Type 0} (v : View Set) (rings : List Set) (m : ℕ) (s : State) → length rings < 2 → RingAt v rings m s → m ≡ 0
only_first v [] m s few at = absurd at
only_first v (x ∷ []) zero s few at = refl
only_first v (x ∷ []) (suc m) s few at = absurd at
only_first v (x ∷ y ∷ rings) m s few at = absurd (omega (arith, few))

-- of one ring it is the first
pub least_first : {Set : Type 0} (v : View Set) (l : Layers Set) (c : ℕ) (set : Set) → length (rings_at l c) < 2 → IsLeastRing v l c set 0
least_first v l c set few = λ m s at h. (omega arith, (s, subst (λ (n : ℕ). StandsIn v l c n s) (only_first v (rings_at l c) m s few at) at, h))

pub least_some : {Set : Type 0} (v : View Set) (l : Layers Set) (c : ℕ) (set : Set) (n : ℕ)
    → FirstMeeting v (rings_at l c) set (Some n) → IsLeastRing v l c set n
least_some v l c set n f = λ m s at h. (elim (below_or m n) [ inl lt ↦ absurd (f.1 m lt (s, at, h)) | inr le ↦ le ], f.0)

pub least_none : {Set : Type 0} (v : View Set) (l : Layers Set) (c : ℕ) (set : Set) (n : ℕ) → FirstMeeting v (rings_at l c) set None → IsLeastRing v l c set n
least_none v l c set n f = λ m s at h. absurd (f m (s, at, h))

-- the same of one state
pub first_only : {Set : Type 0} (v : View Set) (l : Layers Set) (c : ℕ) (s : State) → length (rings_at l c) < 2 → IsFirstRing v l c s 0
first_only v l c s few = λ m at. (omega arith, subst (λ (n : ℕ). StandsIn v l c n s) (only_first v (rings_at l c) m s few at) at)

pub first_some : {Set : Type 0} (v : View Set) (l : Layers Set) (c : ℕ) (s : State) (n : ℕ) → StandsIn v l c n s
    → ((k : ℕ) → k < n → ¬ StandsIn v l c k s) → IsFirstRing v l c s n
first_some v l c s n at before = λ m here. (elim (below_or m n) [ inl lt ↦ absurd (before m lt here) | inr le ↦ le ], at)

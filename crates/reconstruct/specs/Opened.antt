-- The first entry of a cut.
use Rattle.std.specs.Prelude.{◌≡◌, ℕ, ◌+◌, ◌<◌, List, [], ◌∷◌, Some}
use Rattle.task_system.specs.System.{IsSystemPlan, cost_in_system}
use Rattle.space_api.specs.View.{View}
use Rattle.space_api.specs.Frames.{Kept}
use Rattle.cost_layers.specs.Layers.{union_at}
use Rattle.cost_layers.specs.declared.layers.Layers.{Layers}
use Rattle.plan_cuts.specs.declared.Cut.{Cut}
use Rattle.plan_cuts.specs.declared.Cut.TheVariants.{Whole, Cross}
use Rattle.plan_cuts.specs.Cuts.{IsCutAt}
use Rattle.plan_cuts.specs.EntryCuts.{cut_of, same_cut}
use Rattle.plan_cuts.specs.Counts.{one_if}
use Rattle.plan_cuts.specs.Entries.{StandsOnLayers, entry_hits}
use Rattle.reconstruct.specs.Entries.{as_plain_entry, EntryOk, IsSingle, IsNewEntry, RightSides}
use Rattle.reconstruct.specs.Ways.{IsLeastRing}
use Rattle.reconstruct.specs.declared.entries.Prefix.{Prefix}
use Rattle.reconstruct.specs.declared.entries.Entry.{Entry}

-- the crossing operator is one, and both layers are there
abbrev pub IsDrawable : {Set : Type 0} → View Set → Layers Set → Layers Set → Cut → Type 0
IsDrawable v front back Whole = Unit {0}
IsDrawable {Set} v front back (Cross x op y) = (op < v.system.operators) × ((a : Set) × (union_at front x ≡ Some a)) × ((c : Set) × (union_at back y ≡ Some c))

-- a prefix that ends with the crossing operator
pub record OpensCross {Set : Type 0} (v : View Set) (front : Layers Set) (x op y : ℕ) (set : Set) (e : Prefix Set) : Type 0 where
  pub set_is : e.set ≡ set
  pub cost_is : e.cost ≡ x
  pub operators_are : e.operators.items ≡ op ∷ []
  pub after_is : e.after ≡ y
  pub least : IsLeastRing v front x set e.ring

-- the entry is a new one, and where the layers are right it stands on them and plans extend it exactly where the cut is theirs
pub record OpenedEntry {Set : Type 0} (v w : View Set) (front back : Layers Set) (cost : ℕ) (cut : Cut) (e : Entry Set) : Type 0 where
  pub kept : Kept v w
  pub new : IsNewEntry v w e
  pub fine : EntryOk w e
  pub single : IsSingle e
  pub stands : (f b : ℕ) → RightSides v.system v front back f b → cost < f + b → IsCutAt v.system b cost cut
      → StandsOnLayers v.system f b cost (as_plain_entry w e)
  pub hits : (f b : ℕ) → RightSides v.system v front back f b → cost < f + b → IsCutAt v.system b cost cut
      → (p : List ℕ) → IsSystemPlan v.system p → cost_in_system v.system p ≡ cost
      → entry_hits v.system (as_plain_entry w e) p ≡ one_if (same_cut (cut_of v.system b p) cut)

-- of plans that are not cut: whatever layers stand in front
abbrev pub OpenedWhole : {Set : Type 0} → View Set → Layers Set → ℕ → Entry Set → Type 0
OpenedWhole {Set} v back cost e = (front : Layers Set) → OpenedEntry v v front back cost Whole e

-- of plans that are cut at an operator, whatever they cost
abbrev pub OpenedCross : {Set : Type 0} → View Set → View Set → Layers Set → Layers Set → ℕ → ℕ → ℕ → Entry Set → Type 0
OpenedCross v w front back x op y e = (cost : ℕ) → OpenedEntry v w front back cost (Cross x op y) e

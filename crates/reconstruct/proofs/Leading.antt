-- The operators that are tried on an entry: all others lead nowhere.
use Rattle.std.proofs.Common.{ℕ, ◌<◌, List, length, get_or, sym, subst}
use Rattle.task_system.specs.System.{System}
use Rattle.space_api.specs.View.{View}
use Rattle.space_api.specs.Frames.{Kept}
use Rattle.space_api.specs.Operators.{LeadInto}
use Rattle.cost_layers.specs.declared.layers.Layers.{Layers}
use Rattle.plan_cuts.specs.Growing.{MissesNone}
use Rattle.reconstruct.specs.Entries.{as_plain_entry, EntryOk, member_in, Ready}
use Rattle.reconstruct.specs.declared.entries.Prefix.{Prefix}
use Rattle.reconstruct.specs.declared.entries.Entry.TheVariants.{Before}
use Rattle.reconstruct.proofs.Barren.{no_child}

pub leading_at : {Set : Type 0} (u v : View Set) (a : Set) (ops : List ℕ) (i : ℕ) → Kept u v → LeadInto u a ops
    → i < length ops → get_or ops i 0 < v.system.operators
leading_at u v a ops i k lead lt = subst (λ (y : System). get_or ops i 0 < y.operators) (sym k.system) (lead.known i 0 lt)

-- there is no child by an operator that may not lead into the set
pub misses_none : {Set : Type 0} (v : View Set) (front back : Layers Set) (f b listed : ℕ) (e : Prefix Set)
    (ops : List ℕ) → EntryOk v (Before e) → LeadInto v e.set ops
    → Ready v.system v front back f b listed (as_plain_entry v (Before e))
    → MissesNone v.system (member_in v front) (member_in v back) (as_plain_entry v (Before e)) ops
misses_none v front back f b listed e ops ok lead ready = record {
  rising = lead.rising;
  range = lead.known;
  others = λ k number missing. no_child v front back k number f b listed (Before e) ok ready (λ a s t le at j. missing (lead.all k s t j.0 j.2));
}

-- The children by one operator after the other.
use Rattle.std.proofs.Common.{ℕ, Bool, ◌+◌, ◌<◌, ◌≤◌, List, [], ◌∷◌, ◌++◌, take, get_or, length, subst}
use Rattle.std.specs.List.{AllByRecursion}
use Rattle.std.proofs.lemmas.List.{take_more, take_all}
use Rattle.task_system.specs.System.{State, System}
use Rattle.space_api.specs.View.{View}
use Rattle.space_api.specs.Frames.{Kept}
use Rattle.space_api.proofs.Keeping.{kept_trans}
use Rattle.cost_layers.specs.Layers.{Held}
use Rattle.cost_layers.specs.declared.layers.Layers.{Layers}
use Rattle.plan_cuts.specs.Entries.{PlainEntry}
use Rattle.plan_cuts.specs.Growing.{Added, Sofar, MissesNone}
use Rattle.plan_cuts.proofs.Adding.{sofar_more, gathered}
use Rattle.reconstruct.specs.Entries.{as_plain_entry, plains, EntryOk, member_in, Ready}
use Rattle.reconstruct.specs.Grown.{AddsChild, Gathers}
use Rattle.reconstruct.specs.declared.entries.Entry.{Entry}
use Rattle.reconstruct.proofs.Sets.{all_split, all_kept}
use Rattle.reconstruct.proofs.Kept.{member_kept, plain_kept, plains_kept, ready_kept}

-- all so far
abbrev pub SofarFrom : {Set : Type 0} → View Set → View Set → Layers Set → Layers Set → Entry Set → List ℕ → List (Entry Set) → List (Entry Set) → Type 0
SofarFrom u v front back e done level falling = (f b listed : ℕ) → Ready u.system u front back f b listed (as_plain_entry u e)
    → Sofar u.system (member_in u front) (member_in u back) (as_plain_entry u e) done (plains v (member_in u front) level) (plains v (member_in u front) falling)

module _ {Set : Type 0} (u v v1 w : View Set) (front back : Layers Set) (e : Entry Set) (hf : Held u front)
    (hb : Held u back) (ok : EntryOk u e) (j : Kept u v) (k : Kept v v1) where
  abbrev pub fr : ℕ → State → Bool
  fr = member_in u front

  -- one operator more
  pub sofar_push : (done : List ℕ) (op : ℕ) (level falling level2 falling2 : List (Entry Set))
      → AllByRecursion (EntryOk v) (level ++ falling) → SofarFrom u v front back e done level falling
      → AddsChild v1 w front back e op level falling level2 falling2
      → SofarFrom u w front back e (done ++ op ∷ []) level2 falling2
  sofar_push done op level falling level2 falling2 all sofar added f b listed ready =
      let m = kept_trans j k in
      let parts = all_split (EntryOk v) level falling all in
      let ok1 = all_kept v v1 level k parts.0 in
      let ok2 = all_kept v v1 falling k parts.1 in
      let a0 = added f b listed ok1 ok2 (ready_kept u v1 m front back f b listed e hf hb ok ready) in
      let a1 = subst (λ (y : System). Added y (member_in v1 front) (member_in v1 back) (as_plain_entry v1 e) op
      (plains v1 (member_in v1 front) level) (plains v1 (member_in v1 front) falling) (plains w (member_in v1 front) level2)
      (plains w (member_in v1 front) falling2)) m.system a0 in
      let a2 = subst (λ (p : ℕ → State → _). Added u.system p (member_in v1 back) (as_plain_entry v1 e) op (plains v1 p level)
      (plains v1 p falling) (plains w p level2) (plains w p falling2)) (member_kept u v1 m front hf) a1 in
      let a3 = subst (λ (p : ℕ → State → _). Added u.system fr p (as_plain_entry v1 e) op (plains v1 fr level)
      (plains v1 fr falling) (plains w fr level2) (plains w fr falling2)) (member_kept u v1 m back hb) a2 in
      let a4 = subst (λ (x : PlainEntry). Added u.system fr (member_in u back) x op (plains v1 fr level)
      (plains v1 fr falling) (plains w fr level2) (plains w fr falling2)) (plain_kept u v1 m e ok) a3 in
      let a5 = subst (λ (xs : List PlainEntry). Added u.system fr (member_in u back) (as_plain_entry u e) op xs
      (plains v1 fr falling) (plains w fr level2) (plains w fr falling2)) (plains_kept v v1 k fr level parts.0) a4 in
      let a6 = subst (λ (xs : List PlainEntry). Added u.system fr (member_in u back) (as_plain_entry u e) op
      (plains v fr level) xs (plains w fr level2) (plains w fr falling2)) (plains_kept v v1 k fr falling parts.1) a5 in
      sofar_more u.system fr (member_in u back) (as_plain_entry u e) done op (plains v fr level)
      (plains v fr falling) (plains w fr level2) (plains w fr falling2) (sofar f b listed ready) a6

  pub sofar_on : (ops : List ℕ) (i : ℕ) (level falling level2 falling2 : List (Entry Set)) → i < length ops
      → AllByRecursion (EntryOk v) (level ++ falling) → SofarFrom u v front back e (take i ops) level falling
      → AddsChild v1 w front back e (get_or ops i 0) level falling level2 falling2 → SofarFrom u w front back e (take (i + 1) ops) level2 falling2
  sofar_on ops i level falling level2 falling2 lt all sofar added =
      rw (take_more ops i 0 lt) (sofar_push (take i ops) (get_or ops i 0) level falling level2 falling2 all sofar
      added)

-- the next operator, in a view that stays
module _ {Set : Type 0} (v : View Set) (front back : Layers Set) (e : Entry Set) (ops : List ℕ) (i : ℕ) where
  pub sofar_next : (level falling level2 falling2 : List (Entry Set)) → i < length ops
      → AllByRecursion (EntryOk v) (level ++ falling) → SofarFrom v v front back e (take i ops) level falling
      → AddsChild v v front back e (get_or ops i 0) level falling level2 falling2 → SofarFrom v v front back e (take (i + 1) ops) level2 falling2
  sofar_next level falling level2 falling2 lt all sofar added f b listed ready =
      let parts = all_split (EntryOk v) level falling all in
      rw (take_more ops i 0 lt) (sofar_more v.system (member_in v front) (member_in v back) (as_plain_entry v e) (take i ops)
      (get_or ops i 0) (plains v (member_in v front) level) (plains v (member_in v front) falling)
      (plains v (member_in v front) level2) (plains v (member_in v front) falling2)
      (sofar f b listed ready) (added f b listed parts.0 parts.1 ready))

pub sofar_end : {Set : Type 0} (u v : View Set) (front back : Layers Set) (e : Entry Set) (ops : List ℕ)
    (level falling : List (Entry Set)) → ((f b listed : ℕ) → Ready u.system u front back f b listed (as_plain_entry u e)
    → MissesNone u.system (member_in u front) (member_in u back) (as_plain_entry u e) ops)
    → SofarFrom u v front back e ops level falling → Gathers u v front back e level falling
sofar_end u v front back e ops level falling misses sofar f b listed ready =
    gathered u.system (member_in u front) (member_in u back) (as_plain_entry u e) ops (plains v (member_in u front) level) (plains v (member_in u front) falling)
    (misses f b listed ready) (sofar f b listed ready)

pub sofar_all : {Set : Type 0} (u v : View Set) (front back : Layers Set) (e : Entry Set) (ops : List ℕ) (i : ℕ)
    (level falling : List (Entry Set)) → length ops ≤ i → SofarFrom u v front back e (take i ops) level falling
    → SofarFrom u v front back e ops level falling
sofar_all u v front back e ops i level falling le sofar = subst (λ (xs : List ℕ). SofarFrom u v front back e xs level falling) (take_all i ops le) sofar

-- A child is put with the others.
use Rattle.std.proofs.Common.{Bool, ◌≡◌, ℕ, ◌-◌, ◌<◌, ◌≤◌, ◌⊎◌, ◌^◌, inl, inr, List, [], ◌∷◌, ◌++◌, Option, Some, None, Result, Ok, Err, OnOk, refl, sym, ◌∙◌, ap, subst, arith}
use Rattle.std.specs.List.{AllByRecursion}
use Rattle.task_system.specs.System.{State}
use Rattle.space_api.specs.View.{View}
use Rattle.space_api.specs.Frames.{Kept, Stays}
use Rattle.space_api.proofs.Keeping.{kept_refl, kept_trans}
use Rattle.cost_layers.specs.Layers.{union_at, Held}
use Rattle.cost_layers.specs.declared.layers.Layers.{Layers}
use Rattle.plan_cuts.specs.Entries.{PlainEntry, IsChild}
use Rattle.plan_cuts.specs.Growing.{Added}
use Rattle.plan_cuts.proofs.Adding.{rest_of, ring_of, added_none, added_falls, added_level, child_lower}
use Rattle.reconstruct.specs.Entries.{entry_cost, ring_in, as_plain_entry, plains, EntryOk, IsSingle, IsNewEntry, member_in}
use Rattle.reconstruct.specs.Ways.{IsNewSet, IsChildSet, JoinsEntry, side_for, IsLayerTo}
use Rattle.reconstruct.specs.Grown.{GrownBefore, IsPut, PutsBefore, PutsAfter, MakesOn, AddsChild, AddsBefore}
use Rattle.reconstruct.specs.declared.entries.Prefix.{Prefix}
use Rattle.reconstruct.specs.declared.entries.Suffix.{Suffix}
use Rattle.reconstruct.specs.declared.entries.Entry.{Entry}
use Rattle.reconstruct.specs.declared.entries.Entry.TheVariants.{Before, After, Partial}
use Rattle.reconstruct.proofs.Kept.{plains_kept, plains_last}
use Rattle.reconstruct.proofs.Barren.{no_child, LeadsNowhere}
use Rattle.reconstruct.proofs.OneChild.{before_ok, before_child, after_ok, after_child}
use Rattle.reconstruct.proofs.Sets.{makes_first, makes_last, new_stays, new_before, new_after}

none_some : {A : Type 0} (x : A) → None ≡ Some x → ⊥
none_some x e = cc

pub on_ok : {A : Type 0} {E : Type 0} (r : Result A E) (P Q : Type 0) → (P → Q) → OnOk r P → OnOk r Q
on_ok (Ok x) P Q f h = f h
on_ok (Err e) P Q f h = h

some_one : {A : Type 0} (x y : A) → Some x ≡ Some y → x ≡ y
some_one x y e = cc

-- as_plain_entry numbers of an entry
plain_cost : {Set : Type 0} (v : View Set) (e : Entry Set) → rest_of (as_plain_entry v e) ≡ entry_cost e
plain_cost v (Before e) = refl
plain_cost v (After e) = refl
plain_cost v (Partial e) = refl

plain_ring : {Set : Type 0} (v : View Set) (e : Entry Set) → ring_of (as_plain_entry v e) ≡ ring_in e
plain_ring v (Before e) = refl
plain_ring v (After e) = refl
plain_ring v (Partial e) = refl

module _ {Set : Type 0} (v : View Set) (front back : Layers Set) (e : Entry Set) (op : ℕ) (level falling : List (Entry Set)) where
  abbrev pub fr : ℕ → State → Bool
  fr = member_in v front

  pub none_added : (w : View Set) → Kept v w → op < v.system.operators → EntryOk v e → LeadsNowhere v front back e op
      → AddsChild v w front back e op level falling level falling
  none_added w k number ok none f b listed ok1 ok2 ready =
      let n = no_child v front back op number f b listed e ok ready none in
      added_none v.system (member_in v front) (member_in v back) (as_plain_entry v e) op (plains v fr level) (plains v fr falling)
      (plains w fr level) (plains w fr falling) n.0 n.1 (plains_kept v w k fr level ok1) (plains_kept v w k fr falling ok2)

  pub put_added : (w : View Set) (c : Entry Set) (level2 falling2 : List (Entry Set)) → IsSingle c → Kept v w
      → AllByRecursion (EntryOk v) level → AllByRecursion (EntryOk v) falling
      → IsChild v.system (member_in v front) (member_in v back) (as_plain_entry v e) op (as_plain_entry w c) → ring_in c < 2 ^ 64
      → IsPut (entry_cost e) (ring_in e) c level falling level2 falling2
      → Added v.system (member_in v front) (member_in v back) (as_plain_entry v e) op (plains v fr level) (plains v fr falling)
      (plains w fr level2) (plains w fr falling2)
  put_added w c level2 falling2 made k ok1 ok2 child fits (inl (less, same, put)) =
      let low : (rest_of (as_plain_entry w c) < rest_of (as_plain_entry v e)) ⊎ (ring_of (as_plain_entry w c) < ring_of (as_plain_entry v e)) =
      rw (plain_cost w c, plain_cost v e, plain_ring w c, plain_ring v e) less in
      let small : ring_of (as_plain_entry w c) < 2 ^ 64 = rw (plain_ring w c) fits in
      added_falls v.system (member_in v front) (member_in v back) (as_plain_entry v e) op (plains v fr level) (plains v fr falling)
      (plains w fr level2) (plains w fr falling2) (as_plain_entry w c) child
      (child_lower v.system (member_in v front) (member_in v back) (as_plain_entry v e) op (as_plain_entry w c) child small low)
      (ap (plains w fr) same ∙ plains_kept v w k fr level ok1)
      (ap (plains w fr) put ∙ plains_last w fr falling c made ∙ ap (λ (xs : List PlainEntry). xs ++ as_plain_entry w c ∷ []) (plains_kept v w k fr falling ok2))
  put_added w c level2 falling2 made k ok1 ok2 child fits (inr (more, above, put, same)) =
      let high : rest_of (as_plain_entry v e) ≤ rest_of (as_plain_entry w c) = rw (plain_cost w c, plain_cost v e) more in
      let up : ring_of (as_plain_entry v e) ≤ ring_of (as_plain_entry w c) = rw (plain_ring w c, plain_ring v e) above in
      added_level v.system (member_in v front) (member_in v back) (as_plain_entry v e) op (plains v fr level) (plains v fr falling)
      (plains w fr level2) (plains w fr falling2) (as_plain_entry w c) child high up
      (ap (plains w fr) put ∙ plains_last w fr level c made ∙ ap (λ (xs : List PlainEntry). xs ++ as_plain_entry w c ∷ []) (plains_kept v w k fr level ok1))
      (ap (plains w fr) same ∙ plains_kept v w k fr falling ok2)

  -- a refused child leads nowhere else than into the layer
  pub only_within : (within : Set) (x : ℕ) → x ≡ v.system.cost op
      → union_at (side_for front back e) (entry_cost e - x) ≡ Some within → ((s t : State) → ¬ JoinsEntry v e op within s t)
      → LeadsNowhere v front back e op
  only_within within x cost at none b s t le is =
      let same : b ≡ within = some_one b within (sym is ∙ subst (λ (n : ℕ). union_at (side_for front back e) (entry_cost e - n) ≡ Some within) cost at) in
      λ j. none s t (subst (λ (z : Set). JoinsEntry v e op z s t) same j)

  pub none_nowhere : (x : ℕ) → x ≡ v.system.cost op → IsLayerTo (side_for front back e) (entry_cost e) x None → LeadsNowhere v front back e op
  none_nowhere x cost none b s t le is = absurd (none_some b
      (sym (subst (λ (n : ℕ). union_at (side_for front back e) (entry_cost e - n) ≡ None) cost
      (none (omega (arith, cost, le)))) ∙ is))

pub no_layer : {Set : Type 0} (l : Layers Set) (cost x : ℕ) (o : Option Set) → ((a : Set) → ¬ (o ≡ Some a)) → IsLayerTo l cost x o → IsLayerTo l cost x None
no_layer l cost x None none to = to
no_layer l cost x (Some a) none to = absurd (none a refl)

-- a prefix's child: it was made in v1, and the rings were asked since
module _ {Set : Type 0} {v v1 w : View Set} {front : Layers Set} {e : Prefix Set} {op x : ℕ} {within a : Set} (level falling level2 falling2 : List (Entry Set))
    (number : op < v.system.operators) (cost : x ≡ v.system.cost op) (ok : EntryOk v (Before e))
    (to : (x ≤ e.cost) × (union_at front (e.cost - x) ≡ Some within)) (hf : Held v front)
    (k1 : Kept v v1) (found : IsChildSet v v1 e op within a) (k2 : Stays v1 w) (into : PutsBefore v1 front e op x a level falling level2 falling2) where
  abbrev c : Prefix Set
  c = into.0

  le2 : v.system.cost op ≤ e.cost
  le2 = omega (arith, cost, to.0)

  at2 : union_at front (e.cost - v.system.cost op) ≡ Some within
  at2 = subst (λ (n : ℕ). union_at front (e.cost - n) ≡ Some within) cost to.1

  grown : GrownBefore v1 front e op (v.system.cost op) a c
  grown = subst (λ (n : ℕ). GrownBefore v1 front e op n a c) cost into.1

  new : IsNewEntry v w (Before c)
  new = new_before v w c (subst (λ (z : Set). IsNewSet v w z) (sym grown.set_is) (new_stays v v1 w a found.new k2))

  fine : EntryOk w (Before c)
  fine = before_ok number k1 k2.kept front ok le2 at2 hf found grown

  pub before_made : MakesOn v w (level ++ falling) (level2 ++ falling2)
  before_made u m = elim into.2 [
    | inl p ↦ rw (p.1, p.2) (makes_last u v w level falling (Before c) m (kept_trans k1 k2.kept) new fine)
    | inr p ↦ rw (p.2, p.3) (makes_first u v w level falling (Before c) m (kept_trans k1 k2.kept) new fine)
  ]

  pub before_added : AddsBefore v w front e op level falling level2 falling2
  before_added back hb f b listed ok1 ok2 ready =
      let child = before_child number k1 k2.kept front ok le2 at2 hf found grown back f b listed ready in
      put_added v front back (Before e) op level falling w (Before c) level2 falling2 tt (kept_trans k1 k2.kept) ok1 ok2 child grown.fits into.2

-- a suffix's child
module _ {Set : Type 0} {v : View Set} {back : Layers Set} {e : Suffix} {op : ℕ} {within : Set} {to : State}
    (level falling level2 falling2 : List (Entry Set)) (number : op < v.system.operators) (ok : EntryOk v (After e))
    (le : v.system.cost op ≤ e.cost) (at : union_at back (e.cost - v.system.cost op) ≡ Some within)
    (found : JoinsEntry v (After e) op within e.state to) (into : PutsAfter v back e op (v.system.cost op) to level
    falling level2 falling2) where
  abbrev d : Suffix
  d = into.0

  fine2 : EntryOk v (After d)
  fine2 = after_ok number ok le at found into.1

  pub after_made : MakesOn v v (level ++ falling) (level2 ++ falling2)
  after_made u m = elim into.2 [
    | inl p ↦ rw (p.1, p.2) (makes_last u v v level falling (After d) m (kept_refl v) (new_after v d) fine2)
    | inr p ↦ rw (p.2, p.3) (makes_first u v v level falling (After d) m (kept_refl v) (new_after v d) fine2)
  ]

  pub after_added : (front : Layers Set) → AddsChild v v front back (After e) op level falling level2 falling2
  after_added front f b listed ok1 ok2 ready =
      let child = after_child number ok le at found into.1 front f b listed ready in
      put_added v front back (After e) op level falling v (After d) level2 falling2 tt (kept_refl v) ok1 ok2 child into.1.fits into.2

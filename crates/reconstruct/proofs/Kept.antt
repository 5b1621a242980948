-- Entries, layers and what they rest on, in a view that keeps all sets.
use Rattle.std.proofs.Common.{append_assoc, ◌≡◌, ℕ, ◌↔◌, inl, inr, Bool, List, [], ◌∷◌, ◌++◌, Option, Some, None, refl, sym, ◌∙◌, ap, subst}
use Rattle.std.specs.List.{AllByRecursion}
use Rattle.task_system.specs.System.{State, System}
use Rattle.space_api.specs.View.{View, Valid}
use Rattle.space_api.specs.Frames.{Kept}
use Rattle.cost_layers.specs.Layers.{rings_at, union_at, Held, Stands as StandsIn}
use Rattle.cost_layers.specs.declared.layers.Layers.{Layers}
use Rattle.cost_layers.proofs.Holding.{ring_same, ring_valid, whole_valid}
use Rattle.plan_cuts.specs.Entries.{PlainEntry, Head, Tables}
use Rattle.reconstruct.specs.Entries.{HasSet, SetIn, as_plain_entry, plains_of, plains, children_by, IsSingle, EntryOk, in_some, member_in, RightSides, Ready}
use Rattle.reconstruct.specs.declared.entries.Entry.{Entry}
use Rattle.reconstruct.specs.declared.entries.Entry.TheVariants.{Before, After, Partial}

module _ {Set : Type 0} (v w : View Set) (k : Kept v w) where
  pub stands_kept : (l : Layers Set) (c i : ℕ) (s : State) → Held v l → StandsIn w l c i s ↔ StandsIn v l c i s
  stands_kept l c i s h = ring_same v w (rings_at l c) i s (λ a is. k.same a (ring_valid v (rings_at l) (union_at l) h c i a is) s)

  some_kept : (o : Option Set) (s : State) → ((a : Set) → o ≡ Some a → Valid v a) → in_some w o s ≡ in_some v o s
  some_kept None s f = refl
  some_kept (Some a) s f = k.same a (f a refl) s

  pub member_kept : (l : Layers Set) → Held v l → member_in w l ≡ member_in v l
  member_kept l h = λ i c s. some_kept (union_at l c) s (λ a is. whole_valid v (rings_at l) (union_at l) h c a is) i

  pub plain_kept : (e : Entry Set) → EntryOk v e → as_plain_entry w e ≡ as_plain_entry v e
  plain_kept (Before e) ok = ap (λ (h : State → Bool). Head h e.cost e.ring e.operators.items e.after) (λ i t. k.same e.set ok.0 t i)
  plain_kept (After e) ok = refl
  plain_kept (Partial e) ok = ap (λ (h : State → Bool). Head h e.prefix.cost e.prefix.ring e.prefix.operators.items e.prefix.after) (λ i t. k.same e.prefix.set ok.0 t i)

  stood_kept : (fr : ℕ → State → Bool) (e : Entry Set) → EntryOk v e → plains_of w fr e ≡ plains_of v fr e
  stood_kept fr (Before e) ok = ap (λ (x : PlainEntry). x ∷ []) (plain_kept (Before e) ok)
  stood_kept fr (After e) ok = refl
  stood_kept fr (Partial e) ok = λ i. children_by (k.system i) fr (λ t. k.same e.prefix.set ok.0 t i) e.prefix.cost
      e.prefix.operators.items e.prefix.after e.left.items

  pub plains_kept : (fr : ℕ → State → Bool) (es : List (Entry Set)) → AllByRecursion (EntryOk v) es → plains w fr es ≡ plains v fr es
  plains_kept fr [] a = refl
  plains_kept fr (e ∷ es) a = λ i. stood_kept fr e a.0 i ++ plains_kept fr es a.1 i

  pub sides_kept : (y : System) (front back : Layers Set) (f b : ℕ) → Held v front → Held v back → RightSides y v front back f b → RightSides y w front back f b
  sides_kept y front back f b hf hb r = record {
    tables = subst (λ (q : ℕ → State → Bool). Tables y (member_in w front) q f b) (sym (member_kept back hb))
        (subst (λ (p : ℕ → State → Bool). Tables y p (member_in v back) f b) (sym (member_kept front hf)) r.tables);
    front_rings = record {
      sound = λ c n s lt use1 at. r.front_rings.sound c n s lt use1 ((stands_kept front c n s hf).0 at);
      there = λ c n s lt use1 g. let m = r.front_rings.there c n s lt use1 g in (m.0, m.1, (stands_kept front c m.0 s hf).1 m.2);
    };
    back_rings = record {
      sound = λ c n s lt use1 at. r.back_rings.sound c n s lt use1 ((stands_kept back c n s hb).0 at);
      there = λ c n s lt use1 g. let m = r.back_rings.there c n s lt use1 g in (m.0, m.1, (stands_kept back c m.0 s hb).1 m.2);
    };
  }

  pub ready_kept : (front back : Layers Set) (f b listed : ℕ) (e : Entry Set) → Held v front → Held v back
      → EntryOk v e → Ready v.system v front back f b listed (as_plain_entry v e)
      → Ready w.system w front back f b listed (as_plain_entry w e)
  ready_kept front back f b listed e hf hb ok r =
      subst (λ (x : PlainEntry). Ready w.system w front back f b listed x) (sym (plain_kept e ok))
      (subst (λ (y : System). Ready y w front back f b listed (as_plain_entry v e)) (sym k.system)
      (record { sides = sides_kept v.system front back f b hf hb r.sides; stands = r.stands }))

pub plains_append : {Set : Type 0} (v : View Set) (fr : ℕ → State → Bool) (es fs : List (Entry Set))
    → plains v fr (es ++ fs) ≡ plains v fr es ++ plains v fr fs
plains_append v fr [] fs = refl
plains_append v fr (e ∷ es) fs = ap (λ (q : List PlainEntry). plains_of v fr e ++ q) (plains_append v fr es fs)
    ∙ sym (append_assoc (plains_of v fr e) (plains v fr es) (plains v fr fs))

-- an entry that is made stands for itself
pub made_plain : {Set : Type 0} (v : View Set) (fr : ℕ → State → Bool) (e : Entry Set) → IsSingle e → plains_of v fr e ≡ as_plain_entry v e ∷ []
made_plain v fr (Before e) m = refl
made_plain v fr (After e) m = refl
made_plain v fr (Partial e) m = absurd m

pub plains_last : {Set : Type 0} (v : View Set) (fr : ℕ → State → Bool) (es : List (Entry Set)) (e : Entry Set) → IsSingle e
    → plains v fr (es ++ e ∷ []) ≡ plains v fr es ++ as_plain_entry v e ∷ []
plains_last v fr es e m = plains_append v fr es (e ∷ []) ∙ ap (λ (q : List PlainEntry). plains v fr es ++ (q ++ [])) (made_plain v fr e m)

pub plain_same : {Set : Type 0} (v w : View Set) (e : Entry Set)
    → ((a : Set) → HasSet e a → (s : State) → w.has a s ≡ v.has a s) → as_plain_entry w e ≡ as_plain_entry v e
plain_same v w (Before e) f = ap (λ (h : State → Bool). Head h e.cost e.ring e.operators.items e.after) (λ i t. f e.set refl t i)
plain_same v w (After e) f = refl
plain_same v w (Partial e) f = ap (λ (h : State → Bool). Head h e.prefix.cost e.prefix.ring e.prefix.operators.items e.prefix.after) (λ i t. f e.prefix.set refl t i)

-- entries whose sets have the same states
module _ {Set : Type 0} (v w : View Set) (sys : w.system ≡ v.system) (fr : ℕ → State → Bool) where
  stood_same : (e : Entry Set) → ((a : Set) → HasSet e a → (s : State) → w.has a s ≡ v.has a s) → plains_of w fr e ≡ plains_of v fr e
  stood_same (Before e) f = ap (λ (x : PlainEntry). x ∷ []) (plain_same v w (Before e) f)
  stood_same (After e) f = refl
  stood_same (Partial e) f = λ i. children_by (sys i) fr (λ t. f e.prefix.set refl t i) e.prefix.cost e.prefix.operators.items
      e.prefix.after e.left.items

  pub plains_same : (es : List (Entry Set)) → ((a : Set) → SetIn es a → (s : State) → w.has a s ≡ v.has a s)
      → plains w fr es ≡ plains v fr es
  plains_same [] f = refl
  plains_same (e ∷ es) f = λ i. stood_same e (λ a h. f a (inl h)) i ++ plains_same es (λ a h. f a (inr h)) i

-- Whether a key is one of a set.
use Rattle.std.proofs.Common.{◌≡◌, ℕ, zero, suc, Bool, true, false, not, ◌⊎◌, inl, inr, List, [], ◌∷◌, map, refl, sym, arith, MatchBool}
use Rattle.std.specs.declared.alloc.Global.{Global}
use Rattle.std.specs.declared.vec.Vec.{Vec}
use Rattle.std.specs.Bool.{Decides}
use Rattle.std.specs.List.{Contains, list_any}
use Rattle.std.proofs.lemmas.Bool.Decides.{Decides-or}

-- a test of the keys that tells where one is equal finds it exactly where it is there
pub present_told : (e : Vec ℕ Global → Bool) (key : List ℕ) → ((k : Vec ℕ Global) → Decides (e k) (key ≡ k.items))
    → (ks : List (Vec ℕ Global)) → Decides (list_any e ks) (Contains (map (λ (k : Vec ℕ Global). k.items) ks) key)
present_told e key d [] = ((λ h. cc), (λ h. absurd (omega (arith, h.1))))
present_told e key d (k ∷ ks) =
    let both = Decides-or (e k) (list_any e ks) (d k) (present_told e key d ks) in (
      (λ h. elim (both.0 h) [ inl is ↦ (0, omega arith, sym is) | inr c ↦ (suc c.0, omega (arith, c.1), c.2) ]),
      (λ c. both.1 (split c)),
    )
  where
    split : Contains (k.items ∷ map (λ (k : Vec ℕ Global). k.items) ks) key → (key ≡ k.items) ⊎ Contains (map (λ (k : Vec ℕ Global). k.items) ks) key
    split (zero, lt, is) = inl (sym is)
    split (suc i, lt, is) = inr (i, omega (arith, lt), is)

-- what adding tells
pub found : {A : Type 0} (b fresh : Bool) → Decides b A → fresh ≡ not b → MatchBool fresh (¬ A) A
found true fresh d is = rw is (d.0 refl)
found false fresh d is = rw is (λ a. let e = d.1 a in cc)

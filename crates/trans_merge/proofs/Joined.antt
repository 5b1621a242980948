-- The join of two relations, from what its parts mean.
use Rattle.std.proofs.Common.{◌≡◌, ℕ, ◌<◌, ◌↔◌, ◌⊎◌, inl, inr, Bool, true, false, ◌||◌, List, refl, sym, ◌∙◌, ap, subst}
use Rattle.bdd_table.specs.Diagram.{Bits}
use Rattle.bdd_ops.specs.Quantified.{is_in}
use Rattle.var_order.specs.Layout.{Layout, IsLayout, bits}
use Rattle.transitions.specs.Relations.{Connects, IsStepSet}
use Rattle.trans_merge.specs.Widened.{Stay, united}
use Rattle.trans_merge.proofs.Among.{in_united}
use Rattle.trans_merge.proofs.WiderSteps.{wide_connects, wide_steps, either_connects, either_steps}

or_turned : (x y : Bool) → (x || y) ≡ (y || x)
or_turned true true = refl
or_turned true false = refl
or_turned false true = refl
or_turned false false = refl

module _ (o : Layout) (l : IsLayout o) (a b : List ℕ) (F G W V H : Bits → Bool) (first : IsStepSet o a F) (second : IsStepSet o b G)
    (wide : (c : Bits) → (W c ≡ true) ↔ ((F c ≡ true) × Stay o a b c))
    (other : (c : Bits) → (V c ≡ true) ↔ ((G c ≡ true) × Stay o b a c))
    (is : (c : Bits) → H c ≡ (W c || V c)) where
  turned : (p : ℕ) → p < bits o → is_in (united o a b) p ≡ (is_in b p || is_in a p)
  turned p lt = in_united o a b p lt ∙ or_turned (is_in a p) (is_in b p)

  pub joined_steps : IsStepSet o (united o a b) H
  joined_steps = either_steps o (united o a b) W V H (wide_steps o l a b (united o a b) (in_united o a b) F W first
      wide) (wide_steps o l b a (united o a b) turned G V second other) is

  pub joined_connects : (s t : List ℕ) → Connects o (united o a b) H s t ↔ (Connects o a F s t ⊎ Connects o b G s t)
  joined_connects s t =
      let x = either_connects o (united o a b) W V H (wide_steps o l a b (united o a b) (in_united o a b) F W first
      wide) (wide_steps o l b a (united o a b) turned G V second other) is s t in
      let y = wide_connects o l a b (united o a b) (in_united o a b) F W first wide s t in
      let z = wide_connects o l b a (united o a b) turned G V second other s t in (
        (λ h. elim (x.0 h) [ inl w ↦ inl (y.0 w) | inr v ↦ inr (z.0 v) ]),
        (λ h. elim h [ inl f ↦ x.1 (inl (y.1 f)) | inr g ↦ x.1 (inr (z.1 g)) ]),
      )

-- what two parts of a table say, one read before the other was made
pub means_through : {S : Type 0} (v g f : Bool) → g ≡ f → (v ≡ true) ↔ ((g ≡ true) × S) → (v ≡ true) ↔ ((f ≡ true) × S)
means_through v g f same is = ((λ h. (let x = is.0 h in (sym same ∙ x.0, x.1))), (λ h. is.1 (same ∙ h.0, h.1)))

-- the same of lists that are these
pub at_lists : (o : Layout) (a b x y : List ℕ) (v f : Bool) (c : Bits) → x ≡ a → y ≡ b → (v ≡ true)
    ↔ ((f ≡ true) × Stay o x y c) → (v ≡ true) ↔ ((f ≡ true) × Stay o a b c)
at_lists o a b x y v f c e g h = subst (λ (z : List ℕ). (v ≡ true) ↔ ((f ≡ true) × Stay o z b c)) e
    (subst (λ (z : List ℕ). (v ≡ true) ↔ ((f ≡ true) × Stay o x z c)) g h)

pub united_at : (o : Layout) (a b x y zs : List ℕ) → x ≡ a → y ≡ b → zs ≡ united o x y → zs ≡ united o a b
united_at o a b x y zs e f h = h ∙ ap (λ (z : List ℕ). united o z y) e ∙ ap (λ (z : List ℕ). united o a z) f

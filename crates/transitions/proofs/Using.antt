-- What the callers of images know: which truth functions are sets of states and sets of steps.
use Rattle.std.proofs.Common.{◌≡◌, ℕ, ◌<◌, ◌↔◌, inl, inr, Bool, true, false, List, refl, sym, ◌∙◌, ap, subst, true≢false}
use Rattle.bdd_table.specs.Diagram.{Bits}
use Rattle.var_order.specs.Layout.{Layout, IsLayout, bits, level_at}
use Rattle.var_order.specs.Codes.{IsCode, IsStateOf}
use Rattle.var_order.proofs.Coding.{one_state}
use Rattle.transitions.specs.Levels.{stepped}
use Rattle.transitions.specs.Relations.{Names, HoldsForState, IsSet, Connects, IsStepSet, Relates}
use Rattle.transitions.proofs.SameBits.{same_bits}
use Rattle.transitions.proofs.Support.{set_turns}
use Rattle.transitions.proofs.ImageLaw.{true_or_false}

-- what names states is a set, and its members are those that it names
pub set_of_names : (o : Layout) (S : List ℕ → Type 0) (F : Bits → Bool) → Names o S F → IsSet o F
set_of_names o S F names b = (
  (λ h. (let x = (names b).0 h in (x.0, x.1, x.2, (b, x.2, h)))),
  (λ (s, ss, code, (c, same, h)). (let x = (names c).0 h in (names b).1 (s, ss, code, subst S (one_state o 0 x.0 s c x.2 same) x.3))),
)

pub member_named : (o : Layout) (S : List ℕ → Type 0) (F : Bits → Bool) (s : List ℕ) → Names o S F → HoldsForState o F s → S s
member_named o S F s names (b, code, h) = (let x = (names b).0 h in subst S (one_state o 0 x.0 s b x.2 code) x.3)

-- what relates states is a set of steps, and connects those that it relates
pub steps_of_relates : (o : Layout) (places : List ℕ) (R : List ℕ → List ℕ → Type 0) (F : Bits → Bool) → Relates o places R F → IsStepSet o places F
steps_of_relates o places R F relates b = (
  (λ h. (let x = (relates.holds b).0 h in (x.0, x.1, x.2, x.3, x.4, x.5, (b, x.4, x.5, h)))),
  (λ (s, t, ss, st, code, next, (c, same, also, h)). (
      let x = (relates.holds c).0 h in
      (relates.holds b).1 (
        s,
        t,
        ss,
        st,
        code,
        next,
        subst (R s) (one_state o 0 x.1 t (stepped places c) x.5 also)
            (subst (λ (u : List ℕ). R u x.1) (one_state o 0 x.0 s c x.4 same) x.6),
      ))),
)

pub connects_related : (o : Layout) (places : List ℕ) (R : List ℕ → List ℕ → Type 0) (F : Bits → Bool) (s t : List ℕ)
    → Relates o places R F → IsStateOf o s → IsStateOf o t → Connects o places F s t ↔ R s t
connects_related o places R F s t relates ss st = (
  (λ (c, same, also, h). (
      let x = (relates.holds c).0 h in
      subst (R s) (one_state o 0 x.1 t (stepped places c) x.5 also) (subst (λ (u : List ℕ). R u x.1) (one_state o 0 x.0 s c x.4 same) x.6))),
  (λ r. (let b = relates.has_bits s t ss st r in (b.0, b.1, b.2, (relates.holds b.0).1 (s, t, ss, st, b.1, b.2, r)))),
)

-- functions that agree are sets alike
pub set_alike : (o : Layout) (F G : Bits → Bool) → ((b : Bits) → G b ≡ F b) → IsSet o F → IsSet o G
set_alike o F G e set b = (
  (λ h. (let x = (set b).0 (sym (e b) ∙ h) in (x.0, x.1, x.2, (x.3.0, x.3.1, e x.3.0 ∙ x.3.2)))),
  (λ (s, ss, code, (c, same, h)). e b ∙ (set b).1 (s, ss, code, (c, same, sym (e c) ∙ h))),
)

pub steps_alike : (o : Layout) (places : List ℕ) (F G : Bits → Bool) → ((b : Bits) → G b ≡ F b) → IsStepSet o places F → IsStepSet o places G
steps_alike o places F G e steps b = (
  (λ h. (let x = (steps b).0 (sym (e b) ∙ h) in (x.0, x.1, x.2, x.3, x.4, x.5, (x.6.0, x.6.1, x.6.2, e x.6.0 ∙ x.6.3)))),
  (λ (s, t, ss, st, code, next, (c, same, also, h)). e b ∙ (steps b).1 (s, t, ss, st, code, next, (c, same, also, sym (e c) ∙ h))),
)

same_truth : (x y : Bool) → (x ≡ true → y ≡ true) → (y ≡ true → x ≡ true) → x ≡ y
same_truth true y f g = sym (f refl)
same_truth false true f g = g refl
same_truth false false f g = refl

-- two sets by an operation that makes no state of none are a set
pub set_by : (o : Layout) (op : Bool → Bool → Bool) (F G H : Bits → Bool) → IsLayout o → op false false ≡ false
    → IsSet o F → IsSet o G → ((b : Bits) → H b ≡ op (F b) (G b)) → IsSet o H
set_by o op F G H l none sf sg is b = (to, back)
  where
    of_state : (b : Bits) → H b ≡ true → (s : List ℕ) × IsStateOf o s × IsCode o 0 s b
    of_state b h = elim (true_or_false (F b)) [
      | inl f ↦ (let x = (sf b).0 f in (x.0, x.1, x.2))
      | inr f ↦ elim (true_or_false (G b)) [
        | inl g ↦ (let x = (sg b).0 g in (x.0, x.1, x.2))
        | inr g ↦ absurd (true≢false (sym h ∙ is b ∙ ap (λ (t : Bool). op t (G b)) f ∙ ap (op false) g ∙ none))
      ]
    ]

    to : H b ≡ true → (s : List ℕ) × IsStateOf o s × IsCode o 0 s b × HoldsForState o H s
    to h = (let x = of_state b h in (x.0, x.1, x.2, (b, x.2, h)))

    back : ((s : List ℕ) × IsStateOf o s × IsCode o 0 s b × HoldsForState o H s) → H b ≡ true
    back (s, ss, code, (c, same, h)) =
        let agree : (p : ℕ) → p < bits o → b (level_at 0 p) ≡ c (level_at 0 p) = (λ p lt. same_bits o s b c p l code same lt) in
        let other : (p : ℕ) → p < bits o → c (level_at 0 p) ≡ b (level_at 0 p) = (λ p lt. sym (agree p lt)) in
        let f = same_truth (F b) (F c) (set_turns o F b c l sf other) (set_turns o F c b l sf agree) in
        let g = same_truth (G b) (G c) (set_turns o G b c l sg other) (set_turns o G c b l sg agree) in
        is b ∙ ap (λ (t : Bool). op t (G b)) f ∙ ap (op (F c)) g ∙ sym (is c) ∙ h

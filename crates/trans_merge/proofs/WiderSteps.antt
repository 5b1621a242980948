-- Wider relations have the same steps, and the disjunction of two has those of both.
use Rattle.std.proofs.Common.{◌≡◌, ℕ, ◌<◌, ◌↔◌, ◌⊎◌, inl, inr, Bool, true, false, cond, ◌||◌, List, refl, sym, ◌∙◌, ap, arith}
use Rattle.bdd_table.specs.Diagram.{Bits}
use Rattle.bdd_ops.specs.Quantified.{is_in}
use Rattle.bdd_ops.specs.Renamed.{seen_by}
use Rattle.var_order.specs.Layout.{Layout, IsLayout, bits, level_at}
use Rattle.var_order.specs.Codes.{IsCode, IsStateOf}
use Rattle.transitions.specs.Levels.{levels_at, pairs_from, stepped}
use Rattle.transitions.specs.Relations.{Connects, IsStepSet}
use Rattle.transitions.proofs.Pairs.{in_levels, not_in_levels, renamed_other, renamed_in}
use Rattle.transitions.proofs.SameBits.{same_code, same_bits}
use Rattle.transitions.proofs.Support.{steps_turn}
use Rattle.transitions.proofs.ImageLaw.{true_or_false, stepped_in, stepped_out}
use Rattle.trans_merge.specs.Widened.{Stay}

module _ (o : Layout) (l : IsLayout o) (own wide places : List ℕ)
    (union : (p : ℕ) → p < bits o → is_in places p ≡ (is_in own p || is_in wide p)) (F W : Bits → Bool)
    (steps : IsStepSet o own F)
    (is : (b : Bits) → (W b ≡ true) ↔ ((F b ≡ true) × Stay o own wide b)) where
  in_own : (p : ℕ) → p < bits o → is_in own p ≡ true → is_in places p ≡ true
  in_own p lt h = union p lt ∙ ap (λ (t : Bool). t || is_in wide p) h

  out_own : (p : ℕ) → p < bits o → is_in own p ≡ false → is_in places p ≡ is_in wide p
  out_own p lt h = union p lt ∙ ap (λ (t : Bool). t || is_in wide p) h

  -- where bits stay, they step to the same
  same_step : (b : Bits) → Stay o own wide b → (p : ℕ) → p < bits o → stepped places b (level_at 0 p) ≡ stepped own b (level_at 0 p)
  same_step b stay p lt = elim (true_or_false (is_in own p)) [
    | inl on ↦ stepped_in places b p (in_own p lt on) ∙ sym (stepped_in own b p on)
    | inr out ↦ elim (true_or_false (is_in wide p)) [
      | inl add ↦ stepped_in places b p (out_own p lt out ∙ add) ∙ stay p lt add out ∙ sym (stepped_out own b p out)
      | inr none ↦ stepped_out places b p (out_own p lt out ∙ none) ∙ sym (stepped_out own b p out)
    ]
  ]

  to_own : (t : List ℕ) (b : Bits) → Stay o own wide b → IsCode o 0 t (stepped places b) → IsCode o 0 t (stepped own b)
  to_own t b stay code = same_code o t (stepped places b) (stepped own b) l (λ p lt. sym (same_step b stay p lt)) code

  to_wide : (t : List ℕ) (b : Bits) → Stay o own wide b → IsCode o 0 t (stepped own b) → IsCode o 0 t (stepped places b)
  to_wide t b stay code = same_code o t (stepped own b) (stepped places b) l (λ p lt. same_step b stay p lt) code

  -- bits of a step that stay wherever its relation doesn't touch them
  settled : Bits → Bits
  settled b = λ k. cond (is_in (levels_at 1 own) k) (b k) (seen_by (pairs_from 1 0 places) b k)

  settled_off : (b : Bits) (k : ℕ) → is_in (levels_at 1 own) k ≡ false → settled b k ≡ seen_by (pairs_from 1 0 places) b k
  unfolding settled
  settled_off b k off = ap (λ (v : Bool). cond v (b k) (seen_by (pairs_from 1 0 places) b k)) off

  settled_on : (b : Bits) (k : ℕ) → is_in (levels_at 1 own) k ≡ true → settled b k ≡ b k
  unfolding settled
  settled_on b k on = ap (λ (v : Bool). cond v (b k) (seen_by (pairs_from 1 0 places) b k)) on

  settled_now : (b : Bits) (p : ℕ) → settled b (level_at 0 p) ≡ b (level_at 0 p)
  settled_now b p = settled_off b (level_at 0 p) (not_in_levels 1 0 (omega arith) (omega arith)
      (λ e. omega (arith, e)) own p) ∙ ap b (renamed_other 1 0 (omega arith) (omega arith) (λ e. omega (arith, e))
      places p)

  settled_own : (b : Bits) (p : ℕ) → is_in own p ≡ true → settled b (level_at 1 p) ≡ b (level_at 1 p)
  settled_own b p on = settled_on b (level_at 1 p) (in_levels 1 own p ∙ on)

  settled_stays : (b : Bits) → Stay o own wide (settled b)
  settled_stays b p lt add out = settled_off b (level_at 1 p) (in_levels 1 own p ∙ out)
      ∙ ap b (renamed_in 1 0 places p (out_own p lt out ∙ add)) ∙ sym (settled_now b p)

  settled_step : (b : Bits) (p : ℕ) → p < bits o → stepped own (settled b) (level_at 0 p) ≡ stepped own b (level_at 0 p)
  settled_step b p lt = elim (true_or_false (is_in own p)) [
    | inl on ↦ stepped_in own (settled b) p on ∙ settled_own b p on ∙ sym (stepped_in own b p on)
    | inr out ↦ stepped_out own (settled b) p out ∙ settled_now b p ∙ sym (stepped_out own b p out)
  ]

  -- the wider relation has the same steps
  pub wide_connects : (s t : List ℕ) → Connects o places W s t ↔ Connects o own F s t
  wide_connects s t = (
    (λ (b, code, next, h). (let x = (is b).0 h in (b, code, to_own t b x.1 next, x.0))),
    (λ (b, code, next, h). (
        let c = settled b in
        let stay = settled_stays b in
        let now = same_code o s b c l (λ p lt. settled_now b p) code in
        let later = same_code o t (stepped own b) (stepped own c) l (λ p lt. settled_step b p lt) next in
        let f = steps_turn o own F b c l steps (λ p lt. settled_now b p) (λ p on. settled_own b p on) h in
        (c, now, to_wide t c stay later, (is c).1 (f, stay)))),
  )

  -- bits of the same step stay alike
  stay_alike : (s t : List ℕ) (b c : Bits) → IsCode o 0 s b → IsCode o 0 s c → IsCode o 0 t (stepped places b)
      → IsCode o 0 t (stepped places c) → Stay o own wide c → Stay o own wide b
  stay_alike s t b c sb sc tb tc stay p lt add out =
      let in_both = out_own p lt out ∙ add in
      sym (stepped_in places b p in_both) ∙ same_bits o t (stepped places b) (stepped places c) p l tb tc lt
      ∙ stepped_in places c p in_both ∙ stay p lt add out ∙ same_bits o s c b p l sc sb lt

  -- and is a set of steps
  pub wide_steps : IsStepSet o places W
  wide_steps b = (
    (λ h. (
        let x = (is b).0 h in
        let y = (steps b).0 x.0 in
        let next = to_wide y.1 b x.1 y.5 in
        (y.0, y.1, y.2, y.3, y.4, next, (b, y.4, next, h)))),
    (λ (s, t, ss, st, code, next, (c, same, also, h)). (
        let x = (is c).0 h in
        let stay = stay_alike s t b c code same next also x.1 in
        (is b).1 ((steps b).1 (s, t, ss, st, code, to_own t b stay next, (c, same, to_own t c x.1 also, x.0)), stay))),
  )

or_cases : (x y : Bool) → (x || y) ≡ true → (x ≡ true) ⊎ (y ≡ true)
or_cases true y h = inl refl
or_cases false y h = inr h

or_first : (x y : Bool) → x ≡ true → (x || y) ≡ true
or_first x y h = ap (λ (t : Bool). t || y) h

or_second : (x y : Bool) → y ≡ true → (x || y) ≡ true
or_second true y h = refl
or_second false y h = h

module _ (o : Layout) (places : List ℕ) (W V H : Bits → Bool) (first : IsStepSet o places W)
    (second : IsStepSet o places V) (is : (b : Bits) → H b ≡ (W b || V b)) where
  pub either_connects : (s t : List ℕ) → Connects o places H s t ↔ (Connects o places W s t ⊎ Connects o places V s t)
  either_connects s t = (
    (λ (b, code, next, h). elim (or_cases (W b) (V b) (sym (is b) ∙ h)) [
      | inl w ↦ inl (b, code, next, w)
      | inr v ↦ inr (b, code, next, v)
    ]),
    (λ x. elim x [
      | inl (b, code, next, w) ↦ (b, code, next, is b ∙ or_first (W b) (V b) w)
      | inr (b, code, next, v) ↦ (b, code, next, is b ∙ or_second (W b) (V b) v)
    ]),
  )

  in_either : (b : Bits) → H b ≡ true → (s : List ℕ) × (t : List ℕ) × IsStateOf o s × IsStateOf o t × IsCode o 0 s b × IsCode o 0 t (stepped places b)
  in_either b h = elim (or_cases (W b) (V b) (sym (is b) ∙ h)) [
    | inl w ↦ (let x = (first b).0 w in (x.0, x.1, x.2, x.3, x.4, x.5))
    | inr v ↦ (let x = (second b).0 v in (x.0, x.1, x.2, x.3, x.4, x.5))
  ]

  pub either_steps : IsStepSet o places H
  either_steps b = (
    (λ h. (let x = in_either b h in (x.0, x.1, x.2, x.3, x.4, x.5, (b, x.4, x.5, h)))),
    (λ (s, t, ss, st, code, next, (c, same, also, h)). is b ∙ elim (or_cases (W c) (V c) (sym (is c) ∙ h)) [
      | inl w ↦ or_first (W b) (V b) ((first b).1 (s, t, ss, st, code, next, (c, same, also, w)))
      | inr v ↦ or_second (W b) (V b) ((second b).1 (s, t, ss, st, code, next, (c, same, also, v)))
    ]),
  )

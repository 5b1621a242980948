-- Where bits stay.
use Rattle.std.proofs.Common.{◌≡◌, ℕ, ◌≤◌, ◌↔◌, Bool, true, false, not, ◌&&◌, ◌||◌, List, refl, sym, ◌∙◌, arith, true≢false}
use Rattle.std.proofs.lemmas.Bool.{and_parts, and_from}
use Rattle.bdd_table.specs.Diagram.{Bits}
use Rattle.bdd_ops.specs.Quantified.{is_in}
use Rattle.var_order.specs.Layout.{Layout, bits, level_at}
use Rattle.transitions.specs.NextValues.{agree}
use Rattle.bdd_sets.proofs.Conjunctions.{PassFrom}
use Rattle.trans_merge.specs.Widened.{stays_at, Stay}

stays_by : (i w x y : Bool) → ((i || not w) || agree x y) ≡ true → w ≡ true → i ≡ false → y ≡ x
stays_by true w x y h e f = absurd (true≢false f)
stays_by false false x y h e f = absurd (true≢false (sym e))
stays_by false true true true h e f = refl
stays_by false true false false h e f = refl
stays_by false true true false h e f = absurd (true≢false (sym h))
stays_by false true false true h e f = absurd (true≢false (sym h))

stays_if : (i w x y : Bool) → (w ≡ true → i ≡ false → y ≡ x) → ((i || not w) || agree x y) ≡ true
stays_if true w x y h = refl
stays_if false false x y h = refl
stays_if false true true true h = refl
stays_if false true false false h = refl
stays_if false true true false h = absurd (true≢false (sym (h refl refl)))
stays_if false true false true h = absurd (true≢false (h refl refl))

-- the tests of all places pass where the bits stay
pub all_stay : (o : Layout) (own wide : List ℕ) (b : Bits) (from : ℕ) → from ≤ 0 → PassFrom (stays_at own wide b) from (bits o) ↔ Stay o own wide b
all_stay o own wide b from none = (
  (λ pass p lt inside out. stays_by (is_in own p) (is_in wide p) (b (level_at 0 p)) (b (level_at 1 p)) (pass p (omega (arith, none)) lt) inside out),
  (λ stay p low lt. stays_if (is_in own p) (is_in wide p) (b (level_at 0 p)) (b (level_at 1 p)) (stay p lt)),
)

-- both hold
pub both_hold : {S : Type 0} (x f g a : Bool) → x ≡ (g && a) → g ≡ f → (a ≡ true) ↔ S → (x ≡ true) ↔ ((f ≡ true) × S)
both_hold x f g a is same means = (
  (λ h. (let both = and_parts g a (sym is ∙ h) in (sym same ∙ both.0, means.0 both.1))),
  (λ h. is ∙ and_from g a (same ∙ h.0) (means.1 h.1)),
)

-- The places of two lists.
use Rattle.std.proofs.Common.{◌≡◌, ℕ, ◌<◌, ◌==◌, ◌||◌, not, Bool, List, [], ◌∷◌, refl, ◌∙◌, ap, arith}
use Rattle.std.specs.List.{All, list_any}
use Rattle.bdd_ops.specs.Quantified.{is_in}
use Rattle.var_order.specs.Layout.{Layout, IsLayout, bits}
use Rattle.transitions.proofs.TouchedPlaces.{in_filter, filter_below}
use Rattle.trans_merge.specs.Widened.{united}

pub any_is_in : (places : List ℕ) (p : ℕ) → list_any (λ q. q == p) places ≡ is_in places p
any_is_in [] p = refl
any_is_in (q ∷ places) p = ap (λ (t : Bool). (q == p) || t) (any_is_in places p)

pub either_of : (a b : List ℕ) (p : ℕ) (x y : Bool) → x ≡ list_any (λ q. q == p) a → y ≡ list_any (λ q. q == p) b → (x || y) ≡ (is_in a p || is_in b p)
either_of a b p x y hx hy = ap (λ (t : Bool). t || y) (hx ∙ any_is_in a p) ∙ ap (λ (t : Bool). is_in a p || t) (hy ∙ any_is_in b p)

pub free_of : (own wide : List ℕ) (p : ℕ) (x y : Bool) → x ≡ list_any (λ q. q == p) own
    → y ≡ list_any (λ q. q == p) wide → (x || not y) ≡ (is_in own p || not (is_in wide p))
free_of own wide p x y hx hy = ap (λ (t : Bool). t || not y) (hx ∙ any_is_in own p) ∙ ap (λ (t : Bool). is_in own p || not t) (hy ∙ any_is_in wide p)

-- a place of a state is in the united list exactly if it is in one of both
pub in_united : (o : Layout) (a b : List ℕ) (p : ℕ) → p < bits o → is_in (united o a b) p ≡ (is_in a p || is_in b p)
in_united o a b p lt = in_filter (λ q. is_in a q || is_in b q) (bits o) 0 p (omega arith) (omega (arith, lt))

-- and its places have levels
pub united_small : (o : Layout) (a b : List ℕ) → IsLayout o → All (λ p. p < 2147483647) (united o a b)
united_small o a b l k d lt = (
    let below = filter_below (λ q. is_in a q || is_in b q) (bits o) 0 k d lt in
    let most = l.most in
    omega (arith, below, most))

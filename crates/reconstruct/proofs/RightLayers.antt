-- Right layers are what turns rest on.
use Rattle.std.proofs.Common.{◌≡◌, ℕ, zero, suc, ◌<◌, ◌≤◌, ◌⊎◌, ◌↔◌, inl, inr, true, false, eqb, List, [], ◌∷◌, Option, Some, None, MatchOption, refl, sym, ◌∙◌, ap, subst, arith, eq-eqb}
use Rattle.std.proofs.lemmas.Bool.Decides.{nat_tests}
use Rattle.task_system.specs.System.{State, System, cost_in_system}
use Rattle.space_api.specs.View.{View}
use Rattle.run_graph.specs.Graph.{ahead, Walk, walk_cost, EndsInZeros}
use Rattle.run_graph.specs.Layering.{InLayer}
use Rattle.run_graph.specs.Reached.{ReachedAt, ToGoalAt, ZerosFirst, IsRightLayer, AtCostWith}
use Rattle.run_graph.specs.declared.Side.TheVariants.{Ahead, Back}
use Rattle.run_graph.specs.declared.Kind.TheVariants.{Every}
use Rattle.run_graph.proofs.Sides.{reached_by_side}
use Rattle.cost_layers.specs.Rings.{RingAt, IsCostLayer}
use Rattle.cost_layers.specs.Layers.{rings_at, union_at, Held, Stands as StandsIn}
use Rattle.cost_layers.specs.declared.layers.Layers.{Layers}
use Rattle.plan_cuts.specs.Entries.{Ends, FwdIn, BwdIn, zeros}
use Rattle.plan_cuts.proofs.Ends.{fwd_of_ends}
use Rattle.reconstruct.specs.Entries.{in_some, member_in, RightSides}

falsum : false ≡ true → ⊥
falsum e = cc

-- whole and rings have the same states
whole_rings : {Set : Type 0} (v : View Set) (rs : List Set) (o : Option Set) (s : State)
    → MatchOption o (rs ≡ []) (IsCostLayer v rs) → (in_some v o s ≡ true) ↔ ((i : ℕ) × RingAt v rs i s)
whole_rings v rs None s e = (
  (λ h. absurd (falsum h)),
  (λ h. absurd (none_at h.0 (subst (λ (xs : List _). RingAt v xs h.0 s) e h.1))),
)
  where
    none_at : (i : ℕ) → RingAt v [] i s → ⊥
    none_at i h = h
whole_rings v rs (Some a) s l = l.parts s

pub in_layer : {Set : Type 0} (v : View Set) (l : Layers Set) (c : ℕ) (s : State) → Held v l → (member_in v l c s ≡ true) ↔ InLayer (StandsIn v l) c s
in_layer v l c s h = whole_rings v (rings_at l c) (union_at l c) s (h.each c)

ends_walk : (y : System) (q : List ℕ) (s : State) → Walk (ahead y) q s ↔ Ends y q s
ends_walk y [] s = ((λ h. h), (λ h. h))
ends_walk y (op ∷ q) s = ((λ h. (h.0, h.1, (ends_walk y q h.0).0 h.2)), (λ h. (h.0, h.1, (ends_walk y q h.0).1 h.2)))

cost_walk : (y : System) (q : List ℕ) → walk_cost (ahead y) q ≡ cost_in_system y q
cost_walk y [] = refl
cost_walk y (op ∷ q) = omega (arith, cost_walk y q)

zeros_free : (y : System) (op : ℕ) (q : List ℕ) → y.cost op ≡ 0 → zeros y (op ∷ q) ≡ suc (zeros y q)
zeros_free y op q e = rw (eq-eqb (y.cost op) 0 e) refl

not_zero : (n : ℕ) → 1 ≤ n → eqb n 0 ≡ false
not_zero n h = grind (arith, nat_tests)

zeros_dear : (y : System) (op : ℕ) (q : List ℕ) → 1 ≤ y.cost op → zeros y (op ∷ q) ≡ 0
zeros_dear y op q h = rw (not_zero (y.cost op) h) refl

zero_or : (n : ℕ) → (n ≡ 0) ⊎ (1 ≤ n)
zero_or n = grind arith

-- the number of operators of cost 0 at the beginning is one number
pub zeros_first : (y : System) (q : List ℕ) (n : ℕ) → ZerosFirst y q n ↔ (zeros y q ≡ n)
zeros_first y [] n = ((λ h. sym h), (λ h. sym h))
zeros_first y (op ∷ q) zero = (
  (λ h. zeros_dear y op q h),
  (λ h. elim (zero_or (y.cost op)) [ inl e ↦ absurd (omega (arith, h, zeros_free y op q e)) | inr le ↦ le ]),
)
zeros_first y (op ∷ q) (suc n) = (
  (λ h. zeros_free y op q h.0 ∙ ap suc ((zeros_first y q n).0 h.1)),
  (λ h. elim (zero_or (y.cost op)) [
    | inl e ↦ (e, (zeros_first y q n).1 (omega (arith, h, zeros_free y op q e)))
    | inr le ↦ absurd (omega (arith, h, zeros_dear y op q le))
  ]),
)

zeros_walk : (y : System) (q : List ℕ) (n : ℕ) → EndsInZeros (ahead y) q n ↔ ZerosFirst y q n
zeros_walk y [] n = ((λ h. h), (λ h. h))
zeros_walk y (op ∷ q) zero = ((λ h. h), (λ h. h))
zeros_walk y (op ∷ q) (suc n) = ((λ h. (h.0, (zeros_walk y q n).0 h.1)), (λ h. (h.0, (zeros_walk y q n).1 h.1)))

fwd_in : (y : System) (c n : ℕ) (s : State) → AtCostWith Ahead y c n s ↔ FwdIn y c n s
fwd_in y c n s = (
  (λ h. let w = (reached_by_side Ahead y c n s).1 h in (
    w.0,
    (ends_walk y w.0 s).0 w.1,
    sym (cost_walk y w.0)
        ∙ w.2,
    (zeros_first y w.0 n).0 ((zeros_walk y w.0 n).0 w.3),
  )),
  (λ h. (reached_by_side Ahead y c n s).0 (h.0, (ends_walk y h.0 s).1 h.1, cost_walk y h.0 ∙ h.2, (zeros_walk y h.0 n).1 ((zeros_first y h.0 n).1 h.3))),
)

bwd_in : (y : System) (c n : ℕ) (s : State) → AtCostWith Back y c n s ↔ BwdIn y c n s
bwd_in y c n s = (
  (λ h. (h.0, h.1, h.2, h.3, h.4, (zeros_first y h.0 n).0 h.5)),
  (λ h. (h.0, h.1, h.2, h.3, h.4, (zeros_first y h.0 n).1 h.5)),
)

fwd_at : (y : System) (c n : ℕ) (s : State) → FwdIn y c n s → ReachedAt y c s
fwd_at y c n s h = subst (λ (k : ℕ). ReachedAt y k s) h.2 (fwd_of_ends y h.0 s h.1)

bwd_at : (y : System) (c n : ℕ) (s : State) → BwdIn y c n s → ToGoalAt y c s
bwd_at y c n s h = (h.0, h.1, h.2, h.3, h.4)

module _ {Set : Type 0} (v : View Set) (front back : Layers Set) (f b : ℕ) (hf : Held v front) (hb : Held v back)
    (rf : (c : ℕ) → c < f → IsRightLayer Ahead Every v.system (StandsIn v front) c)
    (rb : (c : ℕ) → c < b → IsRightLayer Back Every v.system (StandsIn v back) c) where
  pub serve : RightSides v.system v front back f b
  serve = record {
    tables = record {
      front_sound = λ c s lt h. (rf c lt).members s ((in_layer v front c s hf).0 h);
      front_all = λ c s lt use1 h. (in_layer v front c s hf).1 (((rf c lt).exact s use1).1 h);
      back_sound = λ c s lt h. (rb c lt).members s ((in_layer v back c s hb).0 h);
      back_all = λ c s lt use1 h. (in_layer v back c s hb).1 (((rb c lt).exact s use1).1 h);
    };
    front_rings = record {
      sound = λ c n s lt use1 at. (fwd_in v.system c n s).0 ((rf c lt).ring n s use1 at).some;
      there = λ c n s lt use1 h.
          let m = ((rf c lt).exact s use1).1 (fwd_at v.system c n s h) in
          (m.0, ((rf c lt).ring m.0 s use1 m.1).least n ((fwd_in v.system c n s).1 h), m.1);
    };
    back_rings = record {
      sound = λ c n s lt use1 at. (bwd_in v.system c n s).0 ((rb c lt).ring n s use1 at).some;
      there = λ c n s lt use1 h.
          let m = ((rb c lt).exact s use1).1 (bwd_at v.system c n s h) in
          (m.0, ((rb c lt).ring m.0 s use1 m.1).least n ((bwd_in v.system c n s).1 h), m.1);
    };
  }

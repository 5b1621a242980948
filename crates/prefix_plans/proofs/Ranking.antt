-- What ranks tell of what is left to the goal.
use Rattle.std.proofs.Common.{◌≡◌, ℕ, min, max, ◌+◌, ◌-◌, ◌<◌, ◌≤◌, ◌^◌, ◌⊎◌, inl, inr, Bool, true, false, IsTrue, List, [], ◌∷◌, Option, Some, None, refl, sym, ◌∙◌, subst, arith}
use Rattle.task_system.specs.System.{State, System, RunsInSystem, cost_in_system}
use Rattle.space_api.specs.View.{View}
use Rattle.run_graph.specs.Reached.{ReachedAt, RunsInside}
use Rattle.space_api.specs.States.{IsReached}
use Rattle.goal_ranks.proofs.Knowing.{rank_least, rank_way}
use Rattle.cost_to_go.specs.Standing.{IsCostToGo, HasWayToGo, LacksRank, ranks_in, next_key_of, to_go_ranks, to_go_beyond}
use Rattle.cost_to_go.specs.Telling.{CostsAtLeast, LeadsNowhere, TellsOutside}
use Rattle.cost_to_go.specs.declared.search.CostToGo.{CostToGo}
use Rattle.cost_to_go.proofs.Knowing as knowing
use Rattle.prefix_plans.specs.Left.{IsRanked, least_unranked, bound_at, IsKnown}
use Rattle.prefix_plans.specs.declared.left.Left.{Left}

less_or : (a b : ℕ) → (a < b) ⊎ (b ≤ a)
less_or a b = grind arith

-- a run inside is a run
pub inside_run : (y : System) (P : State → Type 0) (q : List ℕ) (s t : State) → RunsInside y P s q t → RunsInSystem y s q t
inside_run y P [] s t r = r.0
inside_run y P (op ∷ q) s t r = (r.1.0, r.1.1, inside_run y P q r.1.0 t r.1.2)

true_false : true ≡ false → ⊥
true_false e = cc

false_true : false ≡ true → ⊥
false_true e = cc

some_same : (a b : ℕ) → Some a ≡ Some b → a ≡ b
some_same a b e = cc

none_some : (a : ℕ) → ◌≡◌ {A = Option ℕ} None (Some a) → ⊥
none_some a e = cc

module _ {Set : Type 0} (v : View Set) (f : CostToGo Set) (z : IsCostToGo v f) where
  pub ranked_once : (c d i j : ℕ) (s : State) → IsRanked v f c i s → IsRanked v f d j s → (c ≡ d) × (i ≡ j)
  ranked_once c d i j s a b = let o = z.ranks.right.once i j c d s a b in (o.1, o.0)

  pub ranked_below : (c i : ℕ) (s : State) → IsRanked v f c i s → i < to_go_ranks f
  ranked_below c i s a = z.ranks.right.under i c s a

  pub ranked_small : (c i : ℕ) (s : State) → IsRanked v f c i s → c < 2 ^ 64
  ranked_small c i s a = (let range = z.ranks.left.range i a.0 a.1 in omega (arith, range, a.2))

  -- from a ranked state a list leads to the goal at its cost, and none at less
  pub ranked_leads : (c i : ℕ) (s : State) → IsRanked v f c i s → (p : List ℕ) × (t : State) × RunsInSystem v.system s p t
      × IsTrue (v.system.goal t) × (cost_in_system v.system p ≡ c)
  ranked_leads c i s a = (rank_least v (ranks_in f) z.ranks i c s a).0

  pub ranked_least : (c i : ℕ) (s : State) → IsReached v.system s → IsRanked v f c i s → CostsAtLeast v.system s c
  ranked_least c i s r a = knowing.ranked_least v f z i c s a r

  pub ranked_way : (c i : ℕ) (s : State) → IsRanked v f c i s → HasWayToGo v f i c s
  ranked_way c i s a = rank_way v (ranks_in f) z.ranks i c s a

  module _ (s : State) (g : ℕ) (r : ReachedAt v.system g s) where
    at : IsReached v.system s
    at = (r.0, r.1)

    -- s has a rank
    pub known_some : (left : Left) → IsRanked v f left.cost left.ring s → left.ranked ≡ true → IsKnown v f g s left
    known_some left a on = record {
      least = ranked_least left.cost left.ring s at a;
      small = (let lt = ranked_small left.cost left.ring s a in omega (arith, lt));
      seen = (let lt = ranked_below left.cost left.ring s a in omega (arith, lt));
      ranked = λ e. a;
      told = λ c i b. let o = ranked_once left.cost c left.ring i s a b in (on, o.0, o.1);
      newest = λ e. absurd (true_false (sym on ∙ e));
    }

    -- none of the ranks that were looked at has s, and none of those before
    pub unranked_by : (first low : ℕ) → CostsAtLeast v.system s low → ((c i : ℕ) → i < first → ¬ IsRanked v f c i s)
        → ((i c : ℕ) → first ≤ i → low ≤ c → ¬ IsRanked v f c i s) → (c i : ℕ) → ¬ IsRanked v f c i s
    unranked_by first low least before after c i a = elim (less_or i first) [
      | inl lt ↦ before c i lt a
      | inr ge ↦
          let w = ranked_leads c i s a in
          let le = least w.0 w.1 w.2 w.3 in
          after i c ge (omega (arith, le, w.4)) a
    ]

    -- s has no rank
    module _ (none : (c i : ℕ) → ¬ IsRanked v f c i s) where
      outside : LacksRank v f s
      outside i c = none c i

      least_is : (o : Option ℕ) (b : Bool) (l : ℕ) → TellsOutside v f o → least_unranked o b g ≡ Some l
          → CostsAtLeast v.system s l × (l ≤ 2 ^ 64) × (bound_at o g ≤ g + l)
      least_is (Some n) b l told e =
          let same : min (n - g) (2 ^ 64) ≡ l = some_same (min (n - g) (2 ^ 64)) l e in
          (subst (CostsAtLeast v.system s) same (told g s outside r), omega (arith, same), omega (arith, same))
      least_is None true l told e =
          let same : 2 ^ 64 ≡ l = some_same (2 ^ 64) l e in
          (subst (CostsAtLeast v.system s) same (told.range s outside at), omega (arith, same), omega (arith, same))
      least_is None false l told e = absurd (none_some l e)

      pub known_none : (l low : ℕ) → CostsAtLeast v.system s low → low < 2 ^ 64
          → least_unranked (next_key_of f) (to_go_beyond f) g ≡ Some l → (left : Left) → left.ranked ≡ false
          → left.ring ≡ to_go_ranks f → left.cost ≡ max l low → IsKnown v f g s left
      known_none l low least range is left off ring cost =
          let t = least_is (next_key_of f) (to_go_beyond f) l (knowing.tells_outside v f z) is in
          record {
            least = λ q u run goal. let a = t.0 q u run goal in let b = least q u run goal in omega (arith, a, b, cost);
            small = omega (arith, t.1, cost, range);
            seen = omega (arith, ring);
            ranked = λ e. absurd (false_true (sym off ∙ e));
            told = λ c i a. absurd (none c i a);
            newest = λ e. (omega (arith, ring), omega (arith, t.2, cost));
          }

      nowhere_by : (o : Option ℕ) (b : Bool) → TellsOutside v f o → to_go_beyond f ≡ b → least_unranked o b g ≡ None → LeadsNowhere v.system s
      nowhere_by (Some n) b told past e = absurd (none_some (min (n - g) (2 ^ 64)) (sym e))
      nowhere_by None true told past e = absurd (none_some (2 ^ 64) (sym e))
      nowhere_by None false told past e = told.nowhere past s outside at

      pub nowhere : least_unranked (next_key_of f) (to_go_beyond f) g ≡ None → LeadsNowhere v.system s
      nowhere e = nowhere_by (next_key_of f) (to_go_beyond f) (knowing.tells_outside v f z) refl e

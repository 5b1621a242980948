-- From a ranked prefix that is no plan a child is nearer to one.
use Rattle.std.proofs.Common.{◌≡◌, ℕ, ◌+◌, ◌-◌, ◌<◌, ◌⊎◌, inl, inr, Bool, IsTrue, List, [], ◌∷◌, ◌++◌, refl, sym, ap, subst, arith}
use Rattle.std.specs.List.{AllByRecursion}
use Rattle.symk_task.specs.declared.parts.Mode.TheVariants.{TopK}
use Rattle.task_system.specs.System.{State, Listed, RunsInSystem, IsSystemPlan, cost_in_system}
use Rattle.space_api.specs.View.{View}
use Rattle.goal_ranks.specs.Known.{LeadsLower}
use Rattle.cost_to_go.specs.Standing.{IsCostToGo, HasWayToGo, ranks_in}
use Rattle.cost_to_go.specs.declared.search.CostToGo.{CostToGo}
use Rattle.lazy_plans.specs.Queue.{prefix, ind, Hopeless}
use Rattle.lazy_plans.proofs.Splits.{cost_join}
use Rattle.lazy_plans.proofs.Traces.{runs_join, leads_on}
use Rattle.prefix_tree.specs.Tree.{path_at}
use Rattle.prefix_tree.specs.Entries.{prefixes}
use Rattle.prefix_tree.specs.declared.tree.Node.{Node}
use Rattle.prefix_tree.specs.declared.entry.Entry.{Entry}
use Rattle.prefix_plans.specs.Left.{known_to_go}
use Rattle.prefix_plans.specs.EndChildren.{EndsRanked, IsEndEntry, IsUpToDate, outdated}
use Rattle.prefix_plans.specs.EndStanding.{all_outdated}
use Rattle.prefix_plans.proofs.Ranking.{ranked_leads, ranked_way}
use Rattle.prefix_plans.specs.Children.{ArePrefixChildren}
use Rattle.prefix_plans.specs.Standing.{farness}
use Rattle.prefix_plans.proofs.Far.{near, one_near, nearer, one_nearer}

no_more : (a w b : ℕ) → a + w ≡ b → (a < b) ⊎ (a ≡ b)
no_more a w b e = grind (arith, e)

fresh_kids : {Set : Type 0} (v : View Set) (f : CostToGo Set) (nodes : List Node) (kids : List Entry)
    → AllByRecursion (IsUpToDate v f nodes) kids → all_outdated (known_to_go f) kids ≡ 0
fresh_kids v f nodes [] a = refl
fresh_kids v f nodes (k ∷ kids) a = both (outdated (known_to_go f) k) (all_outdated (known_to_go f) kids) a.0.2 (fresh_kids v f nodes kids a.1)
  where
    both : (a b : ℕ) → a ≡ 0 → b ≡ 0 → a + b ≡ 0
    both a b p q = omega (arith, p, q)

-- the child of this prefix is nearer than n
near_kid : {Set : Type 0} (v : View Set) (f : CostToGo Set) (nodes : List Node) (n : ℕ) (p : List ℕ)
    (kids : List Entry) → ((k : Entry) → IsUpToDate v f nodes k → path_at nodes k.node ≡ p → farness k < n)
    → AllByRecursion (IsUpToDate v f nodes) kids → Listed (prefixes nodes kids) p → 0 < near n kids
near_kid v f nodes n p [] closer a l = absurd l
near_kid v f nodes n p (k ∷ kids) closer a (inl is) = some (one_near n k) (near n kids) (one_nearer n k (closer k a.0 is))
  where
    some : (a b : ℕ) → a ≡ 1 → 0 < a + b
    some a b e = omega (arith, e)
near_kid v f nodes n p (k ∷ kids) closer a (inr l) = more (one_near n k) (near n kids) (near_kid v f nodes n p kids closer a.1 l)
  where
    more : (a b : ℕ) → 0 < b → 0 < a + b
    more a b lt = omega (arith, lt)

module _ {Set : Type 0} (v : View Set) (f : CostToGo Set) (z : IsCostToGo v f) (nodes : List Node) (e : Entry)
    (entry : IsEndEntry v f nodes e) (ends : EndsRanked v f (path_at nodes e.node) (e.bound.0 - e.cost) e.ring.0)
    (kids : List Entry) (children : ArePrefixChildren v f nodes (path_at nodes e.node) v.system.operators kids) where
  end : State
  end = ends.0

  way : HasWayToGo v f e.ring.0 (e.bound.0 - e.cost) ends.0
  way = ranked_way v f z (e.bound.0 - e.cost) e.ring.0 ends.0 ends.2

  module _ (c : LeadsLower v (ranks_in f) e.ring.0 (e.bound.0 - e.cost) ends.0) where
    run_on : RunsInSystem v.system v.system.initial (path_at nodes e.node ++ c.op ∷ []) c.state
    run_on = runs_join v.system (path_at nodes e.node) (c.op ∷ []) v.system.initial ends.0 c.state ends.1 (c.state, c.leads, refl)

    hopeful : ¬ Hopeless v.system TopK (path_at nodes e.node ++ c.op ∷ [])
    hopeful lost =
        let w = ranked_leads v f z c.cost c.number c.state c.ranked in
        let on = leads_on v.system (path_at nodes e.node ++ c.op ∷ []) w.0 c.state w.1 run_on w.2 w.3 in
        clash (prefix (path_at nodes e.node ++ c.op ∷ []) ((path_at nodes e.node ++ c.op ∷ []) ++ w.0)) on.1
        (lost ((path_at nodes e.node ++ c.op ∷ []) ++ w.0) on.0)
      where
        clash : (b : Bool) → IsTrue b → ind b ≡ 0 → ⊥
        clash b on off = two (ind b) (ap ind on) off
          where
            two : (n : ℕ) → n ≡ 1 → n ≡ 0 → ⊥
            two n p q = omega (arith, p, q)

    closer : (k : Entry) → IsUpToDate v f nodes k → path_at nodes k.node ≡ path_at nodes e.node ++ c.op ∷ [] → farness k < farness e
    closer k new path =
        let t = new.1 c.cost c.number (c.state, subst (λ (p : List ℕ). RunsInSystem v.system v.system.initial p c.state) (sym path) run_on, c.ranked) in
        let cost : k.cost ≡ e.cost + v.system.cost c.op = omega (
          arith,
          new.0.cost,
          ap (cost_in_system v.system) path,
          cost_join v.system (path_at nodes e.node)
              (c.op ∷ []),
          entry.cost,
        ) in
        let between : c.cost + v.system.cost c.op ≡ e.bound.0 - e.cost = c.between in
        let lower : k.ring.0 < e.ring.0 = omega (arith, t.1, c.lower) in
        nearer e k c.cost (omega (arith, t.0, cost, between, entry.least)) t.0 (elim (no_more c.cost (v.system.cost c.op) (e.bound.0 - e.cost) between) [
          | inl less ↦ inl less
          | inr same ↦ inr (same, lower)
        ]) new.0.ring

    some : 0 < near (farness e) kids
    some = elim (children.all c.op c.leads.number refl) [
      | inl lost ↦ absurd (hopeful lost)
      | inr l ↦ near_kid v f nodes (farness e) (path_at nodes e.node ++ c.op ∷ []) kids closer children.each l
    ]

  pub descends : ¬ IsSystemPlan v.system (path_at nodes e.node) → 0 < near (farness e) kids
  descends off = elim way [ inl h ↦ absurd (off (ends.0, ends.1, h.1)) | inr c ↦ some c ]

  pub kids_fresh : all_outdated (known_to_go f) kids ≡ 0
  kids_fresh = fresh_kids v f nodes kids children.each

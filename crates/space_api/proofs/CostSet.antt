-- The members of the set of costs, rising, are the list of the costs.
use Rattle.std.proofs.Common.{◌≡◌, ℕ, ◌<◌, ◌↔◌, List, get_or, IsTrue, refl, ◌∙◌}
use Rattle.std.specs.List.{Contains}
use Rattle.std.specs.List.Sorted.{IsStrictlyIncreasing}
use Rattle.std.specs.Ordering.{nat_cmp}
use Rattle.std.specs.BTreeSet.{BTreeSet, contains}
use Rattle.std.proofs.lemmas.Cmp.{nat_cmp_total}
use Rattle.std.proofs.lemmas.List.{get_or_default}
use Rattle.std.proofs.lemmas.Map.Lookups.{exact_unsigned}
use Rattle.std.proofs.lemmas.Map.Views.{btree_set_contains_iff}
use Rattle.task_system.specs.System.{System}
use Rattle.space_api.specs.Costs.{AreCosts, costs_of}
use Rattle.space_api.proofs.CostList.{are_costs, one_list}

module _ (y : System) (set : BTreeSet ℕ) (has : (c : ℕ) → IsTrue (contains nat_cmp set c) ↔ ((op : ℕ) × (op < y.operators) × (y.cost op ≡ c))) where
  in_keys : (c : ℕ) → IsTrue (contains nat_cmp set c) ↔ Contains set.keys c
  in_keys c = btree_set_contains_iff nat_cmp_total exact_unsigned set c

  pub set_costs : IsStrictlyIncreasing set.keys → AreCosts y set.keys
  set_costs rising = record {
    rising = rising;
    all = λ op lt. let k = (in_keys (y.cost op)).0 ((has (y.cost op)).1 (op, lt, refl)) in (k.0, k.1, get_or_default set.keys k.0 0 (y.cost op) k.1 ∙ k.2);
    only = λ i lt. (has (get_or set.keys i 0)).0 ((in_keys (get_or set.keys i 0)).1 (i, lt, get_or_default set.keys i (get_or set.keys i 0) 0 lt));
  }

  pub listed : (xs : List ℕ) → xs ≡ set.keys → IsStrictlyIncreasing set.keys → xs ≡ costs_of y
  listed xs e rising = e ∙ one_list y set.keys (costs_of y) (set_costs rising) (are_costs y)

-- Children that are enough.
use Rattle.std.proofs.Common.{◌≡◌, ℕ, ◌⊎◌, inl, inr, Bool, true, false, not, List, [], ◌∷◌, ◌++◌, refl}
use Rattle.std.specs.List.Sorted.{IsPermutation}
use Rattle.task_system.specs.System.{State, Listed}
use Rattle.space_api.specs.View.{View}
use Rattle.cost_to_go.specs.declared.search.CostToGo.{CostToGo}
use Rattle.prefix_tree.specs.Entries.{prefixes}
use Rattle.prefix_tree.specs.declared.tree.Node.{Node}
use Rattle.prefix_tree.specs.declared.entry.Entry.{Entry}
use Rattle.stubborn_sets.specs.Stubborn.{Stubborn}
use Rattle.stubborn_sets.specs.Closing.{has_mark}
use Rattle.member_laws.proofs.Reaching.{all_stubborn}
use Rattle.prefix_plans.specs.EndChildren.{IsUpToDate}
use Rattle.prefix_plans.specs.Children.{AreChildrenBy}
use Rattle.prefix_plans.proofs.Permuting.{join_each, permuted_each, permuted_prefixes}
use Rattle.member_plans.proofs.Beside.{permuted_listed}
use Rattle.member_plans.specs.Children.{AreEnough}

listed_left : (nodes : List Node) (xs ys : List Entry) (p : List ℕ) → Listed (prefixes nodes xs) p → Listed (prefixes nodes (xs ++ ys)) p
listed_left nodes [] ys p l = absurd l
listed_left nodes (x ∷ xs) ys p (inl e) = inl e
listed_left nodes (x ∷ xs) ys p (inr l) = inr (listed_left nodes xs ys p l)

listed_right : (nodes : List Node) (xs ys : List Entry) (p : List ℕ) → Listed (prefixes nodes ys) p → Listed (prefixes nodes (xs ++ ys)) p
listed_right nodes [] ys p l = l
listed_right nodes (x ∷ xs) ys p l = inr (listed_right nodes xs ys p l)

marked_or : (b : Bool) → (b ≡ true) ⊎ (not b ≡ true)
marked_or true = inl refl
marked_or false = inr refl

module _ {Set : Type 0} (v : View Set) (f : CostToGo Set) (nodes : List Node) (e : List ℕ) (s : State) (marks : List Bool) where
  -- those by marked operators are enough
  pub enough_marked : (kids : List Entry) → Stubborn v.system (has_mark marks) s
      → AreChildrenBy v f nodes e (has_mark marks) v.system.operators kids → AreEnough v f nodes e s kids
  enough_marked kids stubborn g = record { set = has_mark marks; stubborn = stubborn; chosen = record { each = g.each; all = g.all } }

  -- and all are
  pub enough_all : (kids more : List Entry) → AreChildrenBy v f nodes e (has_mark marks) v.system.operators kids
      → AreChildrenBy v f nodes e (λ op. not (has_mark marks op)) v.system.operators more
      → AreEnough v f nodes e s (kids ++ more)
  enough_all kids more g h = record {
    set = λ op. true;
    stubborn = all_stubborn v.system (λ op. true) s (λ op lt. refl);
    chosen = record {
      each = join_each (IsUpToDate v f nodes) kids more g.each h.each;
      all = λ op lt on. elim (marked_or (has_mark marks op)) [
        | inl has ↦ elim (g.all op lt has) [ inl none ↦ inl none | inr l ↦ inr (listed_left nodes kids more (e ++ op ∷ []) l) ]
        | inr lacks ↦ elim (h.all op lt lacks) [ inl none ↦ inl none | inr l ↦ inr (listed_right nodes kids more (e ++ op ∷ []) l) ]
      ];
    };
  }

-- in another order they are enough too
pub enough_permuted : {Set : Type 0} (v : View Set) (f : CostToGo Set) (nodes : List Node) (e : List ℕ) (s : State)
    (kids new : List Entry) → IsPermutation kids new → AreEnough v f nodes e s kids → AreEnough v f nodes e s new
enough_permuted v f nodes e s kids new perm z = record {
  set = z.set;
  stubborn = z.stubborn;
  chosen = record {
    each = permuted_each (IsUpToDate v f nodes) kids new perm z.chosen.each;
    all = λ op lt on. elim (z.chosen.all op lt on) [
      | inl none ↦ inl none
      | inr l ↦ inr (permuted_listed (prefixes nodes kids) (prefixes nodes new) (e ++ op ∷ []) (permuted_prefixes nodes kids new perm) l)
    ];
  };
}

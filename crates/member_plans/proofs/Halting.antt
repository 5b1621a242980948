-- What one turn comes to.
use Rattle.std.proofs.Common.{◌≡◌, ℕ, ◌<◌, ◌≤◌, Bool, true, false, IsTrue, All, List, length, slice_index_or, Option, sym, subst}
use Rattle.space_api.specs.View.{View}
use Rattle.lazy_plans.specs.Law.{top}
use Rattle.cost_to_go.specs.declared.search.CostToGo.{CostToGo}
use Rattle.prefix_tree.specs.Tree.{path_at}
use Rattle.prefix_tree.specs.Entries.{queued_entries}
use Rattle.prefix_tree.specs.declared.entry.Entry.{Entry}
use Rattle.member_laws.specs.Nodes.{IsJoinedAtNode}
use Rattle.member_plans.specs.Opened.{places_of_opened, keys_of, IsMet}
use Rattle.member_plans.specs.Front.{waiting_members, opened_places, opened, IsSteady, IsDue}
use Rattle.member_plans.specs.declared.front.Front.{Front}
use Rattle.member_plans.specs.declared.opened.Opened.{Opened}
use Rattle.member_plans.proofs.Opening.{retold, retold_opened}

-- whether the first entry meets what was opened
module _ {Set : Type 0} (v : View Set) (f : CostToGo Set) (most : Option ℕ) (x : Front) (o : Opened)
    (same : places_of_opened o ≡ opened_places x) (keys : keys_of o ≡ keys_of x.opened) (z : IsSteady v f most x) (e : Entry)
    (b : Bool) (met : IsMet v.system (opened x) x.tree.items e b) where
  pub joined_now : b ≡ true → IsJoinedAtNode v.system (opened (retold x o)) (path_at x.tree.items e.node)
  joined_now on = subst (λ (os : List (List ℕ)). IsJoinedAtNode v.system os (path_at x.tree.items e.node))
      (sym (retold_opened v f most x o same keys z)) (subst (IsMet v.system (opened x) x.tree.items e) on met)

  pub due_now : b ≡ false → 0 < length (queued_entries x.queue) → e ≡ slice_index_or (queued_entries x.queue) 0 e
      → All (λ k. e.bound.0 ≤ k.bound.0) (waiting_members x) → e.bound.0 ≤ top most → IsTrue e.at_goal
      → IsDue v.system most (retold x o) e
  due_now off some first least cheap plan = record {
    some = some;
    first = first;
    least = least;
    cheap = cheap;
    plan = plan;
    fresh = subst (λ (os : List (List ℕ)). ¬ IsJoinedAtNode v.system os (path_at x.tree.items e.node))
        (sym (retold_opened v f most x o same keys z)) ((subst (IsMet v.system (opened x) x.tree.items e) off met)
        plan);
  }

-- one more was opened than before
pub more_now : (old mid new : List ℕ) → mid ≡ old → length mid < length new → length old < length new
more_now old mid new same h = subst (λ (l : List ℕ). length l < length new) same h

-- The prefixes that were opened.
use Rattle.std.specs.Prelude.{◌≡◌, ℕ, ◌<◌, ◌≤◌, ◌⊎◌, Bool, true, false, IsTrue, List, [], ◌∷◌, ◌++◌, map, length, Option, Contains}
use Rattle.std.specs.List.{AllByRecursion}
use Rattle.task_system.specs.System.{System, Listed, IsSystemPlan, cost_in_system}
use Rattle.lazy_plans.specs.Law.{top}
use Rattle.prefix_tree.specs.Tree.{path_at}
use Rattle.prefix_tree.specs.declared.tree.Node.{Node}
use Rattle.prefix_tree.specs.declared.entry.Entry.{Entry}
use Rattle.member_laws.specs.Nodes.{IsJoinedAtNode}
use Rattle.member_plans.specs.Keys.{IsKeyAt}
use Rattle.member_plans.specs.declared.opened.Opened.{Opened}

-- their places in the tree
abbrev pub places_of_opened : Opened → List ℕ
places_of_opened o = o.places.items

-- the keys of those that are plans
abbrev pub keys_of : Opened → List (List ℕ)
keys_of o = map (λ k. k.items) o.plans.keys

-- the prefixes at these places
abbrev pub opened_of : List Node → List ℕ → List (List ℕ)
opened_of nodes [] = []
opened_of nodes (i ∷ is) = path_at nodes i ∷ opened_of nodes is

-- the prefix stands in the tree and costs no more than is wanted, and if it is a plan, its key is there
pub record IsOpened (y : System) (most : Option ℕ) (nodes : List Node) (keys : List (List ℕ)) (i : ℕ) : Type 0 where
  pub inside : i < length nodes
  pub cheap : cost_in_system y (path_at nodes i) ≤ top most
  pub keyed : IsSystemPlan y (path_at nodes i) → (key : List ℕ) × IsKeyAt nodes i key × Contains keys key

-- each is so, and each key is that of one of them
pub record AreOpened (y : System) (most : Option ℕ) (nodes : List Node) (places : List ℕ) (keys : List (List ℕ)) : Type 0 where
  pub each : AllByRecursion (IsOpened y most nodes keys) places
  pub from : (key : List ℕ) → Contains keys key → (i : ℕ) × (i < length nodes) × Listed (opened_of nodes places) (path_at nodes i) × IsKeyAt nodes i key

-- the key is there now, and no other came
pub record Noted (old new : List (List ℕ)) (key : List ℕ) : Type 0 where
  pub has : Contains new key
  pub stays : (k : List ℕ) → Contains old k → Contains new k
  pub only : (k : List ℕ) → Contains new k → Contains old k ⊎ (k ≡ key)

-- the key of the prefix at this place came, if it is a plan
abbrev pub AddsKey : List Node → ℕ → Bool → List (List ℕ) → List (List ℕ) → Type 0
AddsKey nodes i true old new = (key : List ℕ) × IsKeyAt nodes i key × Noted old new key
AddsKey nodes i false old new = new ≡ old

-- the place came last
pub record AddsPlace (nodes : List Node) (i : ℕ) (is_plan : Bool) (old new : Opened) : Type 0 where
  pub places : places_of_opened new ≡ places_of_opened old ++ i ∷ []
  pub keys : AddsKey nodes i is_plan (keys_of old) (keys_of new)

-- the entry's prefix joins one that was opened; or it may not, and if it is a plan it doesn't
abbrev pub IsMet : System → List (List ℕ) → List Node → Entry → Bool → Type 0
IsMet y opened nodes e true = IsJoinedAtNode y opened (path_at nodes e.node)
IsMet y opened nodes e false = IsTrue e.at_goal → ¬ IsJoinedAtNode y opened (path_at nodes e.node)

-- Prefixes with one key join, and those that join have one key.
use Rattle.std.proofs.Common.{◌≡◌, ℕ, zero, suc, get_or, ◌<◌, inl, inr, List, [], ◌∷◌, ◌++◌, length, refl, sym, ◌∙◌, ap, subst, arith}
use Rattle.std.specs.Bool.{Decides}
use Rattle.std.specs.List.{AllByRecursion, Contains}
use Rattle.std.proofs.Common.{Bool, true, false, IsTrue, Option, Vec, Global, map, if◌then◌else◌, Result, Ok, Err, IfOk}
use Rattle.std.specs.Prelude.{nat_lt}
use Rattle.std.proofs.lemmas.Bool.Decides.{nat_tests}
use Rattle.std.proofs.lemmas.List.{map-append}
use Rattle.std.proofs.lemmas.List.Elements.{Contains-append_left, Contains-append_right, Contains-append_cases}
use Rattle.symk_task.specs.declared.parts.Mode.TheVariants.{TopK}
use Rattle.symk_task.proofs.Rising.{sorted_same}
use Rattle.task_system.specs.System.{State, System, Listed, RunsInSystem, IsSystemPlan}
use Rattle.prefix_tree.specs.StateGraph.{numbered_state, AreDistinctStates}
use Rattle.prefix_tree.specs.Tree.{IsTree, path_at, state_number_at}
use Rattle.prefix_tree.specs.declared.tree.Node.{Node}
use Rattle.prefix_tree.specs.declared.entry.Entry.{Entry}
use Rattle.member_laws.specs.Nodes.{JoinsAtNode, IsJoinedAtNode}
use Rattle.member_laws.proofs.Joining.{joins_end, joined_plan}
use Rattle.member_plans.specs.Keys.{IsKeyAt}
use Rattle.member_plans.specs.Opened.{opened_of, IsOpened, AreOpened, Noted, IsMet}

heads : (a b : ℕ) (p q : List ℕ) → a ∷ p ≡ b ∷ q → a ≡ b
heads a b p q e = cc

tails : (a b : ℕ) (p q : List ℕ) → a ∷ p ≡ b ∷ q → p ≡ q
tails a b p q e = cc

module _ (y : System) (ss : List State) (nodes : List Node) (z : IsTree y TopK ss nodes) (i j : ℕ) (lt : i < length nodes) (less : j < length nodes) where
  pub key_joins : (key : List ℕ) → IsKeyAt nodes i key → IsKeyAt nodes j key → JoinsAtNode y (path_at nodes i) (path_at nodes j)
  key_joins key h k =
      let both : state_number_at nodes i ∷ h.sorted ≡ state_number_at nodes j ∷ k.sorted = sym h.is ∙ k.is in
      let end : state_number_at nodes i ≡ state_number_at nodes j = heads (state_number_at nodes i) (state_number_at nodes j) h.sorted k.sorted both in
      record {
        same = (sorted_same (path_at nodes i) (path_at nodes j) h.sorted k.sorted h.permutation k.permutation h.rising
            k.rising).0 (tails (state_number_at nodes i) (state_number_at nodes j) h.sorted k.sorted both);
        end = numbered_state ss (state_number_at nodes i);
        runs = (z.each i lt).runs;
        other = subst (λ (n : ℕ). RunsInSystem y y.initial (path_at nodes j) (numbered_state ss n)) (sym end) (z.each j less).runs;
      }

  pub joined_key : AreDistinctStates ss → JoinsAtNode y (path_at nodes i) (path_at nodes j) → (a b : List ℕ) → IsKeyAt nodes i a → IsKeyAt nodes j b → a ≡ b
  joined_key once joins a b h k =
      let end = joins_end y (path_at nodes i) (path_at nodes j) (numbered_state ss (state_number_at nodes i))
      (numbered_state ss (state_number_at nodes j)) joins (z.each i lt).runs (z.each j less).runs in
      let number : state_number_at nodes i ≡ state_number_at nodes j = once (state_number_at nodes i)
      (state_number_at nodes j) (z.each i lt).within (z.each j less).within end in
      let sorted : h.sorted ≡ k.sorted = (sorted_same (path_at nodes i) (path_at nodes j) h.sorted k.sorted
      h.permutation k.permutation h.rising k.rising).1 joins.same in
      h.is ∙ (ap (λ (n : ℕ). n ∷ h.sorted) number ∙ (ap (λ (p : List ℕ). state_number_at nodes j ∷ p) sorted ∙ sym k.is))

-- a member of what was opened stands at a place
found_at : (P : ℕ → Type 0) (nodes : List Node) (places : List ℕ) (p : List ℕ) → AllByRecursion P places
    → Listed (opened_of nodes places) p → (i : ℕ) × P i × (path_at nodes i ≡ p)
found_at P nodes [] p all l = absurd l
found_at P nodes (i ∷ places) p all (inl is) = (i, all.0, is)
found_at P nodes (i ∷ places) p all (inr l) = found_at P nodes places p all.1 l

-- whether the plan at this place joins one that was opened
module _ (y : System) (ss : List State) (nodes : List Node) (z : IsTree y TopK ss nodes) (once : AreDistinctStates ss)
    (most : Option ℕ) (places : List ℕ) (keys : List (List ℕ)) (table : AreOpened y most nodes places keys) (i : ℕ)
    (lt : i < length nodes) (key : List ℕ) (is : IsKeyAt nodes i key) where
  has_joins : Contains keys key → IsJoinedAtNode y (opened_of nodes places) (path_at nodes i)
  has_joins h =
      let w = table.from key h in
      (path_at nodes w.0, w.2, key_joins y ss nodes z i w.0 lt w.1 key is w.3)

  joins_has : IsSystemPlan y (path_at nodes i) → IsJoinedAtNode y (opened_of nodes places) (path_at nodes i) → Contains keys key
  joins_has plan (p, l, joins) =
      let at = found_at (IsOpened y most nodes keys) nodes places p table.each l in
      let now : JoinsAtNode y (path_at nodes i) (path_at nodes at.0) = subst (JoinsAtNode y (path_at nodes i)) (sym at.2) joins in
      let k = at.1.keyed (joined_plan y (path_at nodes i) (path_at nodes at.0) now plan) in
      let same : k.0 ≡ key = sym (joined_key y ss nodes z i at.0 lt at.1.inside once now key k.0 is k.1) in
      subst (Contains keys) same k.2

  pub has_told : IsSystemPlan y (path_at nodes i) → (b : Bool) → Decides b (Contains keys key)
      → Decides b (IsJoinedAtNode y (opened_of nodes places) (path_at nodes i))
  has_told plan b d = ((λ on. has_joins (d.0 on)), (λ j. d.1 (joins_has plan j)))

-- a place of one that was opened
pub place_listed : (nodes : List Node) (places : List ℕ) (k i d : ℕ) → k < length places → get_or places k d ≡ i
    → Listed (opened_of nodes places) (path_at nodes i)
place_listed nodes [] k i d lt is = absurd (omega (arith, lt))
place_listed nodes (j ∷ places) zero i d lt is = inl (ap (path_at nodes) is)
place_listed nodes (j ∷ places) (suc k) i d lt is = inr (place_listed nodes places k i d (omega (arith, lt)) is)

-- what a call that finds a plan among those that were opened tells
pub if_weaker : {E : Type 0} (P Q : Bool → Type 0) (r : Result Bool E) → ((b : Bool) → P b → Q b) → IfOk r P → IfOk r Q
if_weaker P Q (Ok b) on h = on b h
if_weaker P Q (Err e) on h = tt

pub below : (a b : ℕ) → true ≡ nat_lt a b → a < b
below a b h = grind (arith, nat_tests, h)

abbrev items_of : List (Vec ℕ Global) → List (List ℕ)
items_of ks = map (λ k. k.items) ks

-- a key came into the set, unless it was there
pub noted_insert : (b : Bool) (xs ys : List (Vec ℕ Global)) (k : Vec ℕ Global)
    → Decides b (Contains (items_of xs) k.items) → ys ≡ (if b then xs else xs ++ k ∷ [])
    → Noted (items_of xs) (items_of ys) k.items
noted_insert true xs ys k d is = rw is (record { has = d.0 refl; stays = λ p h. h; only = λ p h. inl h })
noted_insert false xs ys k d is =
    let more : items_of ys ≡ items_of xs ++ k.items ∷ [] = ap items_of is ∙ map-append (λ (z : Vec ℕ Global). z.items) xs (k ∷ []) in
    rw more (record {
      has = Contains-append_right (items_of xs) (k.items ∷ []) k.items (0, omega arith, refl);
      stays = λ p h. Contains-append_left (items_of xs) (k.items ∷ []) p h;
      only = λ p h. elim (Contains-append_cases (items_of xs) (k.items ∷ []) p h) [
        | inl old ↦ inl old
        | inr (zero, lt, e) ↦ inr (sym e)
        | inr (suc n, lt, e) ↦ absurd (omega (arith, lt))
      ];
    })

-- what is told of an entry, by whether it is a plan
module _ {E : Type 0} (y : System) (opened : List (List ℕ)) (nodes : List Node) (e : Entry) where
  pub met_plan : (r : Result Bool E) → IfOk r (λ b. Decides b (IsJoinedAtNode y opened (path_at nodes e.node))) → IfOk r (IsMet y opened nodes e)
  met_plan (Ok true) d = d.0 refl
  met_plan (Ok false) d = λ on j. not_true (d.1 j)
    where
      not_true : false ≡ true → ⊥
      not_true e = cc
  met_plan (Err x) d = tt

  pub met_other : (r : Result Bool E) → e.at_goal ≡ false
      → IfOk r (λ b. IsTrue b → IsJoinedAtNode y opened (path_at nodes e.node)) → IfOk r (IsMet y opened nodes e)
  met_other (Ok true) off h = h refl
  met_other (Ok false) off h = λ on j. clash e.at_goal on off
    where
      clash : (b : Bool) → b ≡ true → b ≡ false → ⊥
      clash b on off = cc
  met_other (Err x) off h = tt

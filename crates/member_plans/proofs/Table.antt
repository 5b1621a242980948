-- What was opened, while the tree grows, and one more.
use Rattle.std.proofs.Common.{◌≡◌, ℕ, ◌<◌, ◌≤◌, inl, inr, Bool, true, false, List, [], ◌∷◌, ◌++◌, length, Option, refl, sym, ◌∙◌, ap, subst, arith}
use Rattle.std.specs.Bool.{Decides}
use Rattle.std.specs.List.{AllByRecursion, Contains}
use Rattle.std.specs.List.Sorted.{IsPermutation}
use Rattle.task_system.specs.System.{System, Listed, IsSystemPlan, cost_in_system}
use Rattle.lazy_plans.specs.Law.{top}
use Rattle.prefix_tree.specs.Tree.{path_at, state_number_at}
use Rattle.prefix_tree.specs.declared.tree.Node.{Node}
use Rattle.member_plans.specs.Keys.{IsKeyAt}
use Rattle.member_plans.specs.Opened.{opened_of, IsOpened, AreOpened, Noted, AddsKey}

pub opened_last : (nodes : List Node) (places : List ℕ) (i : ℕ) → opened_of nodes (places ++ i ∷ []) ≡ opened_of nodes places ++ path_at nodes i ∷ []
opened_last nodes [] i = refl
opened_last nodes (k ∷ places) i = ap (λ (l : List (List ℕ)). path_at nodes k ∷ l) (opened_last nodes places i)

listed_more : (nodes : List Node) (places : List ℕ) (i : ℕ) (p : List ℕ) → Listed (opened_of nodes places) p → Listed (opened_of nodes (places ++ i ∷ [])) p
listed_more nodes [] i p l = absurd l
listed_more nodes (k ∷ places) i p (inl is) = inl is
listed_more nodes (k ∷ places) i p (inr l) = inr (listed_more nodes places i p l)

listed_new : (nodes : List Node) (places : List ℕ) (i : ℕ) → Listed (opened_of nodes (places ++ i ∷ [])) (path_at nodes i)
listed_new nodes [] i = inl refl
listed_new nodes (k ∷ places) i = inr (listed_new nodes places i)

-- nothing was opened
pub table_none : (y : System) (most : Option ℕ) (nodes : List Node) (places : List ℕ) (keys : List (List ℕ))
    → places ≡ [] → keys ≡ [] → AreOpened y most nodes places keys
table_none y most nodes places keys none bare = rw (none, bare) (record { each = tt; from = λ key h. absurd (omega (arith, h.1)) })

each_inside : (y : System) (most : Option ℕ) (nodes : List Node) (keys : List (List ℕ)) (places : List ℕ)
    → AllByRecursion (IsOpened y most nodes keys) places → AllByRecursion (λ i. i < length nodes) places
each_inside y most nodes keys [] a = tt
each_inside y most nodes keys (i ∷ places) a = (a.0.inside, each_inside y most nodes keys places a.1)

pub table_inside : (y : System) (most : Option ℕ) (nodes : List Node) (places : List ℕ) (keys : List (List ℕ))
    → AreOpened y most nodes places keys → AllByRecursion (λ i. i < length nodes) places
table_inside y most nodes places keys t = each_inside y most nodes keys places t.each

each_cheap : (y : System) (most : Option ℕ) (nodes : List Node) (keys : List (List ℕ)) (places : List ℕ)
    → AllByRecursion (IsOpened y most nodes keys) places → AllByRecursion (λ p. cost_in_system y p ≤ top most)
    (opened_of nodes places)
each_cheap y most nodes keys [] a = tt
each_cheap y most nodes keys (i ∷ places) a = (a.0.cheap, each_cheap y most nodes keys places a.1)

-- none costs more than is wanted
pub table_cheap : (y : System) (most : Option ℕ) (nodes : List Node) (places : List ℕ) (keys : List (List ℕ))
    → AreOpened y most nodes places keys → AllByRecursion (λ p. cost_in_system y p ≤ top most) (opened_of nodes places)
table_cheap y most nodes places keys t = each_cheap y most nodes keys places t.each

-- the tree grew
module _ (a c : List Node) (longer : length a ≤ length c) (same : (i : ℕ) → i < length a → path_at c i ≡ path_at a i)
    (ends : (i : ℕ) → i < length a → state_number_at c i ≡ state_number_at a i) where
  key_like : (i : ℕ) (key : List ℕ) → i < length a → IsKeyAt a i key → IsKeyAt c i key
  key_like i key lt h = record {
    sorted = h.sorted;
    is = h.is ∙ ap (λ (n : ℕ). n ∷ h.sorted) (sym (ends i lt));
    permutation = subst (λ (p : List ℕ). IsPermutation p h.sorted) (sym (same i lt)) h.permutation;
    rising = h.rising;
  }

  pub opened_like : (places : List ℕ) → AllByRecursion (λ i. i < length a) places → opened_of c places ≡ opened_of a places
  opened_like [] all = refl
  opened_like (i ∷ places) all =
      let one = same i all.0 in
      let rest = opened_like places all.1 in
      λ k. one k ∷ rest k

  module _ (y : System) (most : Option ℕ) (keys : List (List ℕ)) where
    one_like : (i : ℕ) → IsOpened y most a keys i → IsOpened y most c keys i
    one_like i o = record {
      inside = omega (arith, o.inside, longer);
      cheap = subst (λ (p : List ℕ). cost_in_system y p ≤ top most) (sym (same i o.inside)) o.cheap;
      keyed = λ plan. let k = o.keyed (subst (IsSystemPlan y) (same i o.inside) plan) in (k.0, key_like i k.0 o.inside k.1, k.2);
    }

    each_on : (places : List ℕ) → AllByRecursion (IsOpened y most a keys) places → AllByRecursion (IsOpened y most c keys) places
    each_on [] all = tt
    each_on (i ∷ places) all = (one_like i all.0, each_on places all.1)

    pub table_like : (places : List ℕ) → AreOpened y most a places keys → AreOpened y most c places keys
    table_like places t = record {
      each = each_on places t.each;
      from = λ key h. let w = t.from key h in (
        w.0,
        omega (arith, w.1, longer),
        subst
            (λ (l : List (List ℕ)). Listed l (path_at c w.0))
            (sym (opened_like places (table_inside y most a places keys t)))
            (subst (Listed (opened_of a places)) (sym (same w.0 w.1)) w.2),
        key_like w.0 key w.1 w.3,
      );
    }

-- one more was opened
module _ (y : System) (most : Option ℕ) (nodes : List Node) (places : List ℕ) (keys new : List (List ℕ))
    (t : AreOpened y most nodes places keys) (i : ℕ) (inside : i < length nodes)
    (cheap : cost_in_system y (path_at nodes i) ≤ top most) where
  wider : ((k : List ℕ) → Contains keys k → Contains new k) → (is : List ℕ)
      → AllByRecursion (IsOpened y most nodes keys) is → AllByRecursion (IsOpened y most nodes new) is
  wider on [] all = tt
  wider on (k ∷ is) all = (
    record {
      inside = all.0.inside;
      cheap = all.0.cheap;
      keyed = λ plan.
          let w = all.0.keyed plan in (w.0, w.1, on w.0 w.2);
    },
    wider on is all.1,
  )

  last : (P : ℕ → Type 0) (is : List ℕ) → AllByRecursion P is → P i → AllByRecursion P (is ++ i ∷ [])
  last P [] all one = (one, tt)
  last P (k ∷ is) all one = (all.0, last P is all.1 one)

  old_from : (key : List ℕ) → Contains keys key → (k : ℕ) × (k < length nodes)
      × Listed (opened_of nodes (places ++ i ∷ [])) (path_at nodes k) × IsKeyAt nodes k key
  old_from key h = let w = t.from key h in (w.0, w.1, listed_more nodes places i (path_at nodes w.0) w.2, w.3)

  put_plan : (key : List ℕ) → IsKeyAt nodes i key → Noted keys new key → AreOpened y most nodes (places ++ i ∷ []) new
  put_plan key is noted = record {
    each = last (IsOpened y most nodes new) places (wider noted.stays places t.each)
        (record { inside = inside; cheap = cheap; keyed = λ plan. (key, is, noted.has) });
    from = λ k h. elim (noted.only k h) [
      | inl old ↦ old_from k old
      | inr e ↦ (i, inside, listed_new nodes places i, subst (IsKeyAt nodes i) (sym e) is)
    ];
  }

  put_other : ¬ IsSystemPlan y (path_at nodes i) → new ≡ keys → AreOpened y most nodes (places ++ i ∷ []) new
  put_other off same = rw same (record {
    each = last (IsOpened y most nodes keys) places t.each (record { inside = inside; cheap = cheap; keyed = λ plan. absurd (off plan) });
    from = old_from;
  })

  pub table_put : (b : Bool) → Decides b (IsSystemPlan y (path_at nodes i)) → AddsKey nodes i b keys new → AreOpened y most nodes (places ++ i ∷ []) new
  table_put true d (key, is, noted) = put_plan key is noted
  table_put false d same = put_other (λ plan. not_true (d.1 plan)) same
    where
      not_true : false ≡ true → ⊥
      not_true e = cc

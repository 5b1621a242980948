-- The children of a prefix by the operators of a set, operator after operator.
use Rattle.std.proofs.Common.{◌≡◌, ℕ, zero, suc, ◌+◌, ◌-◌, ◌<◌, ◌≤◌, ◌⊎◌, inl, inr, Bool, true, false, cond, IsTrue, IsFalse}
use Rattle.std.proofs.Common.{List, [], ◌∷◌, ◌++◌, length, get_or, refl, sym, ◌∙◌, ap, subst, arith, add-one}
use Rattle.std.specs.List.{Contains}
use Rattle.space_api.proofs.Rising.{IsPast, past_gap}
use Rattle.symk_task.specs.declared.parts.Mode.TheVariants.{TopK}
use Rattle.task_system.specs.System.{State, Listed}
use Rattle.space_api.specs.View.{View}
use Rattle.cost_to_go.specs.declared.search.CostToGo.{CostToGo}
use Rattle.lazy_plans.specs.Queue.{prefix, ind, sum_ops, Hopeless}
use Rattle.lazy_plans.proofs.Splits.{count_join}
use Rattle.prefix_tree.specs.Tree.{path_at}
use Rattle.prefix_tree.specs.Entries.{prefixes}
use Rattle.prefix_tree.specs.declared.tree.Node.{Node}
use Rattle.prefix_tree.specs.declared.entry.Entry.{Entry}
use Rattle.prefix_tree.proofs.Entries.{prefixes_last, prefixes_like}
use Rattle.prefix_plans.specs.EndChildren.{IsUpToDate, AddsPrefixChild}
use Rattle.prefix_plans.proofs.EndsGrowing.{each_new_like}
use Rattle.prefix_plans.proofs.Permuting.{join_each}
use Rattle.prefix_plans.specs.Children.{CountsBelow, AreChildrenBy}

-- the tree grew
pub children_like : {Set : Type 0} (v : View Set) (f : CostToGo Set) (a c : List Node) → length a ≤ length c
    → ((i : ℕ) → i < length a → path_at c i ≡ path_at a i) → (e : List ℕ) (set : ℕ → Bool) (n : ℕ) (kids : List Entry)
    → AreChildrenBy v f a e set n kids → AreChildrenBy v f c e set n kids
children_like v f a c longer same e set n kids g =
    let back = sym (prefixes_like (IsUpToDate v f a) a c kids (λ k z. z.0.inside) same g.each) in
    record {
      each = each_new_like v f a c longer same kids g.each;
      counted = subst (CountsBelow v.system e set n) back g.counted;
      all = λ op lt on. subst (λ (ks : List (List ℕ)). Hopeless v.system TopK (e ++ op ∷ []) ⊎ Listed ks (e ++ op ∷ [])) back (g.all op lt on);
    }

listed_left : (xs ys : List State) (s : State) → Listed xs s → Listed (xs ++ ys) s
listed_left [] ys s l = absurd l
listed_left (x ∷ xs) ys s (inl e) = inl e
listed_left (x ∷ xs) ys s (inr l) = inr (listed_left xs ys s l)

listed_last : (xs : List State) (s : State) → Listed (xs ++ s ∷ []) s
listed_last [] s = inl refl
listed_last (x ∷ xs) s = inr (listed_last xs s)

below_next : (op n : ℕ) → op < n + 1 → (op < n) ⊎ (n ≡ op)
below_next op n lt = grind arith

-- what the next operator adds to the count

sum_next : (n : ℕ) (f : ℕ → ℕ) → sum_ops (n + 1) f ≡ sum_ops n f + f n
sum_next n f = rw add-one refl

true_false : (b : Bool) → IsTrue b → IsFalse b → ⊥
true_false b on off = cc

one_counts : (b : Bool) (k : ℕ) → IsTrue b → cond b k 0 ≡ k
one_counts true k on = refl
one_counts false k on = absurd (true_false false on refl)

none_counts : (b : Bool) (k : ℕ) → IsFalse b ⊎ (k ≡ 0) → cond b k 0 ≡ 0
none_counts true k (inl off) = absurd (true_false true refl off)
none_counts true k (inr none) = none
none_counts false k h = refl

module _ {Set : Type 0} (v : View Set) (f : CostToGo Set) (nodes : List Node) (e : List ℕ) (set : ℕ → Bool) where
  abbrev adds : List ℕ → ℕ → ℕ
  adds p op = cond (set op) (ind (prefix (e ++ op ∷ []) p)) 0

  pub children_none : AreChildrenBy v f nodes e set 0 []
  children_none = record { each = tt; counted = λ p i. refl; all = λ op lt on. absurd (omega (arith, lt)) }

  -- the next operator isn't taken, or no plan goes on by it
  counts_skip : (n : ℕ) (kids : List (List ℕ)) → CountsBelow v.system e set n kids
      → IsFalse (set n) ⊎ Hopeless v.system TopK (e ++ n ∷ []) → CountsBelow v.system e set (n + 1) kids
  counts_skip n kids c out p i =
      let none : IsFalse (set n) ⊎ (ind (prefix (e ++ n ∷ []) p) ≡ 0) = elim out [ inl off ↦ inl off | inr lost ↦ inr (lost p i) ] in
      omega (arith, sum_next n (adds p), c p i, none_counts (set n) (ind (prefix (e ++ n ∷ []) p)) none)

  pub children_skip : (n : ℕ) (kids : List Entry) → AreChildrenBy v f nodes e set n kids
      → IsFalse (set n) ⊎ Hopeless v.system TopK (e ++ n ∷ []) → AreChildrenBy v f nodes e set (n + 1) kids
  children_skip n kids g out = record {
    each = g.each;
    counted = counts_skip n (prefixes nodes kids) g.counted out;
    all = λ op lt on. elim (below_next op n lt) [
      | inl less ↦ g.all op less on
      | inr is ↦ elim out [
        | inl off ↦ absurd (true_false (set op) on (subst (λ (k : ℕ). IsFalse (set k)) is off))
        | inr lost ↦ inl (subst (λ (k : ℕ). Hopeless v.system TopK (e ++ k ∷ [])) is lost)
      ]
    ];
  }

  -- the next operator is taken
  counts_more : (n : ℕ) (kids : List (List ℕ)) → CountsBelow v.system e set n kids → IsTrue (set n)
      → CountsBelow v.system e set (n + 1) (kids ++ (e ++ n ∷ []) ∷ [])
  counts_more n kids c on p i = omega (
    arith,
    sum_next n (adds p),
    c p i,
    count_join kids ((e ++ n ∷ []) ∷ []) p,
    one_counts (set n) (ind (prefix (e ++ n ∷ []) p)) on,
  )

  pub children_next : (n : ℕ) (kids new : List Entry) → AreChildrenBy v f nodes e set n kids → IsTrue (set n)
      → AddsPrefixChild v f nodes e n kids new → AreChildrenBy v f nodes e set (n + 1) new
  children_next n kids new g taken (inl (same, lost)) = subst (λ (l : List Entry). AreChildrenBy v f nodes e set (n + 1) l)
      (sym same) (children_skip n kids g (inr lost))
  children_next n kids new g taken (inr (k, pushed, stands, path)) =
      let last : prefixes nodes (kids ++ k ∷ []) ≡ prefixes nodes kids ++ (e ++ n ∷ []) ∷ [] =
      prefixes_last nodes kids k ∙ ap (λ (p : List ℕ). prefixes nodes kids ++ p ∷ []) path in
      rw pushed (record {
        each = join_each (IsUpToDate v f nodes) kids (k ∷ []) g.each (stands, tt);
        counted = subst (CountsBelow v.system e set (n + 1)) (sym last) (counts_more n (prefixes nodes kids) g.counted taken);
        all = λ op lt on. subst (λ (ks : List (List ℕ)). Hopeless v.system TopK (e ++ op ∷ []) ⊎ Listed ks (e ++ op ∷ [])) (sym last) (elim (below_next op n lt) [
          | inl less ↦ elim (g.all op less on) [ inl lost ↦ inl lost | inr l ↦ inr (listed_left (prefixes nodes kids) ((e ++ n ∷ []) ∷ []) (e ++ op ∷ []) l) ]
          | inr is ↦ inr (subst (λ (j : ℕ). Listed (prefixes nodes kids ++ (e ++ n ∷ []) ∷ []) (e ++ j ∷ [])) is
              (listed_last (prefixes nodes kids) (e ++ n ∷ [])))
        ]);
      })

  -- no plan goes on by any of the next so many operators
  children_past : (n k : ℕ) (kids : List Entry) → AreChildrenBy v f nodes e set n kids
      → ((op : ℕ) → n ≤ op → op < n + k → Hopeless v.system TopK (e ++ op ∷ []))
      → AreChildrenBy v f nodes e set (n + k) kids
  children_past n zero kids z lost = let same : n ≡ n + 0 = omega arith in subst (λ (w : ℕ). AreChildrenBy v f nodes e set w kids) same z
  children_past n (suc k) kids z lost =
      let same : n + k + 1 ≡ n + suc k = omega arith in
      let before = children_past n k kids z (λ op ge lt. lost op ge (omega (arith, lt))) in
      let last = lost (n + k) (omega arith) (omega arith) in
      subst (λ (w : ℕ). AreChildrenBy v f nodes e set w kids) same (children_skip (n + k) kids before (inr last))

  -- the children by the operators below n are those by the operators below x, where none between is that of a move
  pub skip_to : (ops : List ℕ) → ((op : ℕ) → ¬ Contains ops op → Hopeless v.system TopK (e ++ op ∷ []))
      → (kids : List Entry) (k n x : ℕ) → IsPast ops k n → n ≤ x
      → ((j : ℕ) → k ≤ j → j < length ops → x ≤ get_or ops j 0)
      → AreChildrenBy v f nodes e set n kids → AreChildrenBy v f nodes e set x kids
  skip_to ops lost kids k n x past le before z =
      let whole : n + (x - n) ≡ x = omega (arith, le) in
      subst (λ (top : ℕ). AreChildrenBy v f nodes e set top kids) whole
      (children_past n (x - n) kids z (λ op ge less. lost op
      (past_gap ops k n op past ge (λ j at in_list. let b = before j at in_list in omega
      (arith, less, le, b)))))

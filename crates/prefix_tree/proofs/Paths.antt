-- A tree that grows by one prefix.
use Rattle.std.proofs.Common.{◌≡◌, ℕ, zero, suc, ◌+◌, ◌<◌, ◌⊎◌, inl, inr, List, [], ◌∷◌, ◌++◌, length, slice_index_or, refl, sym, ◌∙◌, ap, subst, arith}
use Rattle.std.proofs.lemmas.List.{length-append}
use Rattle.symk_task.specs.declared.parts.Mode.{Mode}
use Rattle.task_system.specs.System.{State, System, RunsInSystem}
use Rattle.lazy_plans.specs.Queue.{Good}
use Rattle.prefix_tree.specs.StateGraph.{numbered_state, Prolongs}
use Rattle.prefix_tree.specs.Tree.{paths_on, path_at, IsLinked, AreLinked, state_number_at, IsNode, IsTree, GrowsTree}
use Rattle.prefix_tree.specs.declared.tree.Node.{Node}

front_at : {X : Type 0} (xs ys : List X) (i : ℕ) (d : X) → i < length xs → slice_index_or (xs ++ ys) i d ≡ slice_index_or xs i d
front_at [] ys i d b = absurd (omega arith)
front_at (x ∷ xs) ys zero d b = refl
front_at (x ∷ xs) ys (suc i) d b = front_at xs ys i d (omega arith)

last_at : {X : Type 0} (xs : List X) (y : X) (i : ℕ) (d : X) → i ≡ length xs → slice_index_or (xs ++ y ∷ []) i d ≡ y
last_at [] y zero d e = refl
last_at [] y (suc i) d e = absurd (omega arith)
last_at (x ∷ xs) y zero d e = absurd (omega arith)
last_at (x ∷ xs) y (suc i) d e = last_at xs y i d (omega arith)

paths_more : (sofar : List (List ℕ)) (nodes : List Node) (n : Node)
    → paths_on sofar (nodes ++ n ∷ []) ≡ paths_on sofar nodes
    ++ (slice_index_or (paths_on sofar nodes) n.parent [] ++ n.op ∷ []) ∷ []
paths_more sofar [] n = refl
paths_more sofar (m ∷ nodes) n = paths_more (sofar ++ (slice_index_or sofar m.parent [] ++ m.op ∷ []) ∷ []) nodes n

paths_length : (sofar : List (List ℕ)) (nodes : List Node) → length (paths_on sofar nodes) ≡ length sofar + length nodes
paths_length sofar [] = omega arith
paths_length sofar (m ∷ nodes) =
    omega (
      arith,
      paths_length (sofar ++ (slice_index_or sofar m.parent [] ++ m.op ∷ []) ∷ []) nodes,
      length-append
          sofar ((slice_index_or sofar m.parent [] ++ m.op ∷ []) ∷ []),
    )

-- the other prefixes keep their operators
pub path_front : (nodes : List Node) (n : Node) (i : ℕ) → i < length nodes → path_at (nodes ++ n ∷ []) i ≡ path_at nodes i
path_front [] n i lt = absurd (omega arith)
path_front (r ∷ nodes) n i lt =
    ap (λ (z : List (List ℕ)). slice_index_or z i []) (paths_more ([] ∷ []) nodes n)
    ∙ front_at (paths_on ([] ∷ []) nodes) ((slice_index_or (paths_on ([] ∷ []) nodes) n.parent [] ++ n.op ∷ []) ∷ [])
    i [] (omega (arith, lt, paths_length ([] ∷ []) nodes))

-- the new one is longer by its operator
pub path_last : (nodes : List Node) (n : Node) (i : ℕ) → 0 < length nodes → i ≡ length nodes → path_at (nodes ++ n ∷ []) i ≡ path_at nodes n.parent ++ n.op ∷ []
path_last [] n i some e = absurd (omega arith)
path_last (r ∷ nodes) n i some e =
    ap (λ (z : List (List ℕ)). slice_index_or z i []) (paths_more ([] ∷ []) nodes n)
    ∙ last_at (paths_on ([] ∷ []) nodes) (slice_index_or (paths_on ([] ∷ []) nodes) n.parent [] ++ n.op ∷ []) i []
    (omega (arith, e, paths_length ([] ∷ []) nodes))

before_or_at : (i n : ℕ) → i < n + 1 → (i < n) ⊎ (i ≡ n)
before_or_at i n lt = grind arith

module _ (nodes : List Node) (n : Node) (z : AreLinked nodes) (some : 0 < length nodes) (behind : n.parent < length nodes) where
  linked_old : (i : ℕ) (d : Node) → i < length nodes → IsLinked (nodes ++ n ∷ []) i (slice_index_or (nodes ++ n ∷ []) i d)
  linked_old i d lt =
      let at = front_at nodes (n ∷ []) i d lt in
      subst (IsLinked (nodes ++ n ∷ []) i) (sym at) (elim (z i d lt) [
        | inl e ↦ inl (e.0, path_front nodes n i lt ∙ e.1)
        | inr h ↦ inr (
          h.0,
          path_front nodes n i lt ∙ (h.1 ∙ ap
              (λ (q : List ℕ). q ++ (slice_index_or nodes i d).op ∷ [])
              (sym (path_front nodes n (slice_index_or nodes i d).parent (omega (arith, h.0, lt))))),
        )
      ])

  linked_new : (i : ℕ) (d : Node) → i ≡ length nodes → IsLinked (nodes ++ n ∷ []) i (slice_index_or (nodes ++ n ∷ []) i d)
  linked_new i d e =
      subst (IsLinked (nodes ++ n ∷ []) i) (sym (last_at nodes n i d e))
      (inr (omega (arith, behind, e), path_last nodes n i some e ∙ ap (λ (q : List ℕ). q ++ n.op ∷ []) (sym (path_front nodes n n.parent behind))))

  -- the links with one prefix more
  linked_more : AreLinked (nodes ++ n ∷ [])
  linked_more i d lt = elim (before_or_at i (length nodes) (omega (arith, lt, length-append nodes (n ∷ []))))
      [ inl h ↦ linked_old i d h | inr e ↦ linked_new i d e ]

-- where the prefixes end, in the longer tree
number_front : (nodes : List Node) (n : Node) (i : ℕ) → i < length nodes → state_number_at (nodes ++ n ∷ []) i ≡ state_number_at nodes i
number_front [] n i lt = absurd (omega arith)
number_front (r ∷ nodes) n zero lt = refl
number_front (r ∷ nodes) n (suc i) lt = number_front nodes n i (omega arith)

number_last : (nodes : List Node) (n : Node) (i : ℕ) → i ≡ length nodes → state_number_at (nodes ++ n ∷ []) i ≡ n.state
number_last [] n zero e = refl
number_last [] n (suc i) e = absurd (omega arith)
number_last (r ∷ nodes) n zero e = absurd (omega arith)
number_last (r ∷ nodes) n (suc i) e = number_last nodes n i (omega arith)

-- a tree stays a tree, where the new prefix is good
module _ (y : System) (m : Mode) (ss : List State) (nodes : List Node) (n : Node) (z : IsTree y m ss nodes)
    (behind : n.parent < length nodes) (good : Good y m (path_at nodes n.parent ++ n.op ∷ []))
    (within : n.state < length ss) (runs : RunsInSystem y y.initial (path_at nodes n.parent ++ n.op ∷ [])
    (numbered_state ss n.state)) where
  node_old : (i : ℕ) → i < length nodes → IsNode y m ss i (path_at (nodes ++ n ∷ []) i) (state_number_at (nodes ++ n ∷ []) i)
  node_old i lt = subst (λ (p : List ℕ). IsNode y m ss i p (state_number_at (nodes ++ n ∷ []) i))
      (sym (path_front nodes n i lt)) (subst (λ (k : ℕ). IsNode y m ss i (path_at nodes i) k)
      (sym (number_front nodes n i lt)) (z.each i lt))

  node_new : (i : ℕ) → i ≡ length nodes → IsNode y m ss i (path_at (nodes ++ n ∷ []) i) (state_number_at (nodes ++ n ∷ []) i)
  node_new i e = subst (λ (p : List ℕ). IsNode y m ss i p (state_number_at (nodes ++ n ∷ []) i))
      (sym (path_last nodes n i z.some e))
      (subst (λ (k : ℕ). IsNode y m ss i (path_at nodes n.parent ++ n.op ∷ []) k)
      (sym (number_last nodes n i e)) (record {
        good = good;
        within = within;
        runs = runs;
        deep = omega (arith, e, behind, (z.each n.parent behind).deep, length-append (path_at nodes n.parent) (n.op ∷ []));
      }))

  tree_more : IsTree y m ss (nodes ++ n ∷ [])
  tree_more = record {
    some = omega (arith, z.some, length-append nodes (n ∷ []));
    linked = linked_more nodes n z.linked z.some behind;
    each = λ i lt. elim (before_or_at i (length nodes) (omega (arith, lt, length-append nodes (n ∷ [])))) [ inl h ↦ node_old i h | inr e ↦ node_new i e ];
  }

  pub grows_more : GrowsTree y m ss nodes (nodes ++ n ∷ [])
  grows_more = record {
    longer = omega (arith, length-append nodes (n ∷ []));
    paths =
        λ i lt. path_front nodes n i lt;
    ends = λ i lt. number_front nodes n i lt;
    tree = tree_more;
  }

pub grows_refl : (y : System) (m : Mode) (ss : List State) (nodes : List Node) → IsTree y m ss nodes → GrowsTree y m ss nodes nodes
grows_refl y m ss nodes z = record { longer = omega arith; paths = λ i lt. refl; ends = λ i lt. refl; tree = z }

pub grows_trans : (y : System) (m : Mode) (ss : List State) (a b c : List Node) → GrowsTree y m ss a b → GrowsTree y m ss b c → GrowsTree y m ss a c
grows_trans y m ss a b c j k = record {
  longer = omega (arith, j.longer, k.longer);
  paths = λ i lt. k.paths i (omega (arith, lt, j.longer)) ∙ j.paths i lt;
  ends = λ i lt. k.ends i (omega (arith, lt, j.longer)) ∙ j.ends i lt;
  tree = k.tree;
}

-- the graph has more states
pub tree_prolonged : (y : System) (m : Mode) (ss tt : List State) (nodes : List Node) → Prolongs ss tt → IsTree y m ss nodes → IsTree y m tt nodes
tree_prolonged y m ss tt nodes p z = record {
  some = z.some;
  linked = z.linked;
  each = λ i lt.
      let n = z.each i lt in
      record {
        good = n.good;
        within = omega (arith, n.within, p.longer);
        runs = subst (λ (s : State). RunsInSystem y y.initial (path_at nodes i) s) (sym (p.same (state_number_at nodes i) n.within)) n.runs;
        deep = n.deep;
      };
}

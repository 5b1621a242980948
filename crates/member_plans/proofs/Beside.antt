-- Entries that wait in two queues.
use Rattle.std.proofs.Common.{◌≡◌, ℕ, suc, ◌+◌, ◌<◌, ◌≤◌, inl, inr, List, [], ◌∷◌, ◌++◌, length, take, get_or, slice_index_or, sym, ◌∙◌, ap, subst, arith}
use Rattle.std.specs.List.{AllByRecursion, sum_by}
use Rattle.std.specs.List.Sorted.{IsPermutation}
use Rattle.std.proofs.lemmas.List.{append-nil, append_assoc, take_more}
use Rattle.std.proofs.lemmas.List.Sorted.{IsPermutation-refl, IsPermutation-sym, IsPermutation-trans, IsPermutation-cons, IsPermutation-middle}
use Rattle.std.proofs.lemmas.List.Sorted.{IsPermutation-append, IsPermutation-append_left, IsPermutation-append_comm, sum_by-IsPermutation, length_permutation}
use Rattle.task_system.specs.System.{System, Listed}
use Rattle.space_api.specs.View.{View}
use Rattle.cost_to_go.specs.declared.search.CostToGo.{CostToGo}
use Rattle.lazy_plans.specs.Queue.{Bounds}
use Rattle.prefix_tree.specs.Entries.{queued_entries, prefixes, entry_alone}
use Rattle.prefix_tree.specs.declared.state_graph.StateGraph.{StateGraph}
use Rattle.prefix_tree.specs.declared.tree.Node.{Node}
use Rattle.prefix_tree.specs.declared.entry.Entry.{Entry}
use Rattle.prefix_tree.specs.declared.queue.Queue.{Queue}
use Rattle.prefix_tree.proofs.Entries.{first_is}
use Rattle.prefix_plans.specs.Left.{KnownToGo}
use Rattle.prefix_plans.specs.EndChildren.{IsEndEntry, outdated}
use Rattle.prefix_plans.specs.EndStanding.{IsEndReady, Learned, all_outdated}
use Rattle.prefix_plans.proofs.Dating.{outdated_sum}
use Rattle.prefix_plans.proofs.Permuting.{left_each, permuted_prefixes, replaced_same}
use Rattle.member_laws.specs.Nodes.{CoversOpened}
use Rattle.member_laws.proofs.Covering as covering

-- the first of the one queue is the first of both
pub some_beside : (q o : List Entry) → 0 < length q → 0 < length (q ++ o)
some_beside [] o some = absurd (omega arith)
some_beside (x ∷ q) o some = omega arith

pub first_beside : (q o : List Entry) (e : Entry) → 0 < length q → e ≡ slice_index_or q 0 e → e ≡ slice_index_or (q ++ o) 0 e
first_beside [] o e some first = absurd (omega arith)
first_beside (x ∷ q) o e some first = first

pub both_same : (q o new rest : List Entry) → new ≡ q → rest ≡ o → new ++ rest ≡ q ++ o
both_same q o new rest one two i = one i ++ two i

pub beside_none : (q o : List Entry) → o ≡ [] → q ++ o ≡ q
beside_none q o none = ap (λ (es : List Entry). q ++ es) none ∙ append-nil q

-- the one takes the place of the other
pub swapped : (q o new rest : Queue) → new ≡ o → rest ≡ q → IsPermutation (queued_entries q ++ queued_entries o) (queued_entries new ++ queued_entries rest)
swapped q o new rest one two = subst (IsPermutation (queued_entries q ++ queued_entries o))
    (λ i. queued_entries (sym one i) ++ queued_entries (sym two i))
    (IsPermutation-append_comm (queued_entries q) (queued_entries o))

-- it gives way to others
lent : {X : Type 0} (q o kids : List X) → IsPermutation ((q ++ o) ++ kids) ((q ++ kids) ++ o)
lent [] o kids = IsPermutation-append_comm o kids
lent (x ∷ q) o kids = IsPermutation-cons x ((q ++ o) ++ kids) ((q ++ kids) ++ o) (lent q o kids)

pub perm_beside : (q o kids new : List Entry) (e : Entry) → IsPermutation (q ++ kids) (e ∷ new) → IsPermutation ((q ++ o) ++ kids) (e ∷ (new ++ o))
perm_beside q o kids new e perm = IsPermutation-trans ((q ++ o) ++ kids) ((q ++ kids) ++ o) (e ∷ (new ++ o))
    (lent q o kids) (IsPermutation-append_left o (q ++ kids) (e ∷ new) perm)

crossed : {X : Type 0} (o here there : List X) → IsPermutation (o ++ (here ++ there)) (here ++ (o ++ there))
crossed [] here there = IsPermutation-refl (here ++ there)
crossed (x ∷ o) here there = IsPermutation-trans (x ∷ (o ++ (here ++ there))) (x ∷ (here ++ (o ++ there)))
    (here ++ x ∷ (o ++ there)) (IsPermutation-cons x (o ++ (here ++ there)) (here ++ (o ++ there))
    (crossed o here there)) (IsPermutation-sym (here ++ x ∷ (o ++ there)) (x ∷ (here ++ (o ++ there)))
    (IsPermutation-middle here x (o ++ there)))

parted : {X : Type 0} (q o here there : List X) → IsPermutation ((q ++ o) ++ (here ++ there)) ((q ++ here) ++ (o ++ there))
parted [] o here there = crossed o here there
parted (x ∷ q) o here there = IsPermutation-cons x ((q ++ o) ++ (here ++ there)) ((q ++ here) ++ (o ++ there)) (parted q o here there)

-- some of them come into the other queue
pub perm_parted : (q o here there new rest : List Entry) (e : Entry) → IsPermutation (q ++ here) (e ∷ new)
    → IsPermutation (o ++ there) rest → IsPermutation ((q ++ o) ++ (here ++ there)) (e ∷ (new ++ rest))
perm_parted q o here there new rest e one two = IsPermutation-trans ((q ++ o) ++ (here ++ there))
    ((q ++ here) ++ (o ++ there)) (e ∷ (new ++ rest)) (parted q o here there)
    (IsPermutation-append (q ++ here) (e ∷ new) (o ++ there) rest one two)

-- one more of them comes, to these or to those
pub here_next : (es here there new : List Entry) (i : ℕ) (d : Entry) → i < length es
    → IsPermutation (take i es) (here ++ there) → new ≡ here ++ get_or es i d ∷ []
    → IsPermutation (take (i + 1) es) (new ++ there)
here_next es here there new i d lt sofar is =
    let k = get_or es i d in
    subst (λ (l : List Entry). IsPermutation l (new ++ there)) (sym (take_more es i d lt))
    (subst (λ (l : List Entry). IsPermutation (take i es ++ k ∷ []) (l ++ there)) (sym is)
    (IsPermutation-trans (take i es ++ k ∷ []) ((here ++ there) ++ k ∷ []) ((here ++ k ∷ []) ++ there)
    (IsPermutation-append_left (k ∷ []) (take i es) (here ++ there) sofar) (lent here there (k ∷ []))))

pub there_next : (es here there new : List Entry) (i : ℕ) (d : Entry) → i < length es
    → IsPermutation (take i es) (here ++ there) → new ≡ there ++ get_or es i d ∷ []
    → IsPermutation (take (i + 1) es) (here ++ new)
there_next es here there new i d lt sofar is =
    let k = get_or es i d in
    subst (λ (l : List Entry). IsPermutation l (here ++ new)) (sym (take_more es i d lt))
    (subst (λ (l : List Entry). IsPermutation (take i es ++ k ∷ []) (here ++ l)) (sym is)
    (subst (IsPermutation (take i es ++ k ∷ [])) (append_assoc here there (k ∷ []))
    (IsPermutation-append_left (k ∷ []) (take i es) (here ++ there) sofar)))

-- what covers still does
pub permuted_covers : (y : System) (nodes : List Node) (opened : List (List ℕ)) (es new : List Entry)
    → IsPermutation es new → CoversOpened y opened (prefixes nodes es) → CoversOpened y opened (prefixes nodes new)
permuted_covers y nodes opened es new perm covers = covering.comes_back y [] opened (prefixes nodes es)
    (prefixes nodes new) covers (replaced_same (prefixes nodes es) (prefixes nodes new) []
    (permuted_prefixes nodes es new perm))

longer : (p : List ℕ) → 0 ∷ p ≡ p → ⊥
longer p same = apart (length p) (ap (λ (l : List ℕ). length l) same)
  where
    apart : (n : ℕ) → suc n ≡ n → ⊥
    apart n e = omega (arith, e)

pub permuted_listed : (old new : List (List ℕ)) (p : List ℕ) → IsPermutation old new → Listed old p → Listed new p
permuted_listed old new p perm l = elim (covering.old_stays old ((0 ∷ p) ∷ []) new (0 ∷ p) (replaced_same old new (0 ∷ p) perm) p l) [
  | inl h ↦ h
  | inr same ↦ absurd (longer p same)
]

-- how many wait, and how many of them are out of date
pub permuted_work : (known : KnownToGo) (es new : List Entry) → IsPermutation es new → length new + all_outdated known new ≡ length es + all_outdated known es
permuted_work known es new perm = numbers (length es) (length new) (all_outdated known es) (all_outdated known new)
    (sum_by (outdated known) es) (sum_by (outdated known) new) (length_permutation es new perm)
    (outdated_sum known es) (outdated_sum known new) (sum_by-IsPermutation (outdated known) es new perm)
  where
    numbers : (a b c d m n : ℕ) → b ≡ a → c ≡ m → d ≡ n → n ≡ m → b + d ≡ a + c
    numbers a b c d m n p q r s = omega (arith, p, q, r, s)

-- what was learned of the first of the one queue
pub learned_beside : {Set : Type 0} (v : View Set) (f : CostToGo Set) (nodes : List Node) (q o new : List Entry)
    (e : Entry) → Learned v f nodes e q new → Learned v f nodes e (q ++ o) (new ++ o)
learned_beside v f nodes q o new e (k, better, perm) = (k, better, perm_beside q o (entry_alone k) new e perm)

-- no plan of any entry costs less than a bound that is none's greater
pub bounds_least : {Set : Type 0} (v : View Set) (f : CostToGo Set) (nodes : List Node) (e : Entry) (es : List Entry)
    → AllByRecursion (IsEndEntry v f nodes) es → AllByRecursion (λ k. e.bound.0 ≤ k.bound.0) es
    → AllByRecursion (λ x. Bounds v.system x e.bound.0) (prefixes nodes es)
bounds_least v f nodes e [] a b = tt
bounds_least v f nodes e (k ∷ es) a b = (
  (λ p plan on. let le = a.0.bounds p plan on in let first = b.0 in omega (arith, le, first)),
  bounds_least
      v f nodes e es a.1 b.1,
)

-- the one queue alone
pub ready_left : {Set : Type 0} (v : View Set) (f : CostToGo Set) (m : StateGraph) (nodes : List Node)
    (q o : List Entry) → IsEndReady v f m nodes (q ++ o) → IsEndReady v f m nodes q
ready_left v f m nodes q o z = record { alone = z.alone; graph = z.graph; tree = z.tree; each = left_each (IsEndEntry v f nodes) q o z.each }

pub first_entry : {Set : Type 0} (v : View Set) (f : CostToGo Set) (m : StateGraph) (nodes : List Node)
    (q o : List Entry) (e : Entry) → 0 < length q → e ≡ slice_index_or q 0 e
    → IsEndReady v f m nodes (q ++ o) → IsEndEntry v f nodes e
first_entry v f m nodes q o e some first z = first_is (IsEndEntry v f nodes) q e some first (left_each (IsEndEntry v f nodes) q o z.each)

-- Diagrams of what Ids say of other bits, Id by Id: children first.
use Rattle.std.proofs.Common.{◌≡◌, ℕ, zero, suc, ◌+◌, ◌<◌, ◌≤◌, ◌⊎◌, inl, inr, Bool, true, false, cond, ◌||◌, nat_lt, ltb-true, List, [], ◌∷◌, ◌++◌, length, get_or, refl, sym, ◌∙◌, ap, subst, arith}
use Rattle.std.specs.List.{All}
use Rattle.std.proofs.lemmas.List.{length_push, get_or_append_left, get_or_push}
use Rattle.std.proofs.lemmas.List.Elements.{All-nil, All-cons, All-push}
use Rattle.bdd_table.specs.declared.node.Node.{Node}
use Rattle.bdd_table.specs.Diagram.{Bits, at, level_of, means, IsReduced, Keeps}
use Rattle.bdd_table.specs.Collected.{MarkedFrom, IsClosed, is_marked_id, is_kept}
use Rattle.bdd_table.proofs.Meaning.{means_false, means_true, means_chosen}

-- each kept Id below n has a diagram in the new table: what it says of the bits that are seen
pub record Rebuilt (old : List Node) (marks : List Bool) (seen : Bits → Bits) (start now : List Node) (ids : List ℕ) (n : ℕ) : Type 0 where
  pub count : length ids ≡ n
  pub known : All (λ id. id < length now) ids
  pub meaning : (k : ℕ) (b : Bits) → k < n → is_kept marks k ≡ true → means now (get_or ids k 0) b ≡ means old k (seen b)
  pub keeps : Keeps start now
  pub reduced : IsReduced now

keeps_itself : (xs : List Node) → Keeps xs xs
keeps_itself xs = record { known = omega arith; meaning = λ id b lt. refl }

keeps_on : (xs ys zs : List Node) → Keeps xs ys → Keeps ys zs → Keeps xs zs
keeps_on xs ys zs k m = record {
  known = (let a = k.known in let b = m.known in omega (arith, a, b));
  meaning = λ id b lt. m.meaning id b (let a = k.known in omega (arith, a, lt)) ∙ k.meaning id b lt;
}

pub rebuilt_none : (old : List Node) (marks : List Bool) (seen : Bits → Bits) (now : List Node) (ids : List ℕ)
    → IsReduced old → IsReduced now → ids ≡ ([] ++ 0 ∷ []) ++ 1 ∷ [] → Rebuilt old marks seen now now ids 2
rebuilt_none old marks seen now ids ro r is = record {
  count = ap (λ (xs : List ℕ). length xs) is;
  known = subst (λ (xs : List ℕ). All (λ id. id < length now) xs) (sym is)
      (let two = r.constants in All-cons (λ id. id < length now) 0 (1 ∷ []) (omega (arith, two))
      (All-cons (λ id. id < length now) 1 [] (omega (arith, two)) (All-nil (λ id. id < length now))));
  meaning = λ k b lt kept. ap (λ (xs : List ℕ). means now (get_or xs k 0) b) is ∙ at_constant k b lt;
  keeps = keeps_itself now;
  reduced = r;
}
  where
    at_constant : (k : ℕ) (b : Bits) → k < 2 → means now (get_or (0 ∷ 1 ∷ []) k 0) b ≡ means old k (seen b)
    at_constant zero b lt = means_false now r b ∙ sym (means_false old ro (seen b))
    at_constant (suc zero) b lt = means_true now r b ∙ sym (means_true old ro (seen b))
    at_constant (suc (suc k)) b lt = absurd (omega (arith, lt))

below_or_at : (k n : ℕ) → k < n + 1 → (k < n) ⊎ (k ≡ n)
below_or_at k n h = grind arith

-- an inner Id that is kept is marked
kept_marked : (marks : List Bool) (id : ℕ) → 2 ≤ id → is_kept marks id ≡ true → is_marked_id marks id ≡ true
kept_marked marks id two = by_test (nat_lt id 2) refl
  where
    by_test : (t : Bool) → nat_lt id 2 ≡ t → (t || is_marked_id marks id) ≡ true → is_marked_id marks id ≡ true
    by_test true e kept = (let low = ltb-true id 2 e in absurd (omega (arith, low, two)))
    by_test false e kept = kept

module _ (old : List Node) (marks : List Bool) (seen : Bits → Bits) (start now : List Node) (ids : List ℕ) (n : ℕ)
    (ro : IsReduced old) (closed : IsClosed old marks) (rebuilt : Rebuilt old marks seen start now ids n) where
  chosen_means : (t : Bool) (b : Bits) → 2 ≤ n → n < length old → is_kept marks n ≡ true
      → cond t (means now (get_or ids (at old n).hi 0) b) (means now (get_or ids (at old n).lo 0) b) ≡ means old (cond t (at old n).hi (at old n).lo) (seen b)
  chosen_means true b two known kept = (let i = ro.inner n two known in rebuilt.meaning (at old n).hi b i.hi_before (closed.hi_kept n two known kept))
  chosen_means false b two known kept = (let i = ro.inner n two known in rebuilt.meaning (at old n).lo b i.lo_before (closed.lo_kept n two known kept))

  pub rebuilt_more : {new : List Node} {all shown : List ℕ} {wanted : Bool} (id : ℕ) → wanted ≡ is_marked_id marks n
      → 2 ≤ n → n < length old → Keeps now new → IsReduced new → id < length new
      → shown ≡ ids → all ≡ ids ++ id ∷ []
      → (wanted ≡ true → (b : Bits) → means new id b ≡ cond (seen b (level_of old n))
      (means now (get_or shown (at old n).hi 0) b) (means now (get_or shown (at old n).lo 0) b))
      → Rebuilt old marks seen start new all (n + 1)
  rebuilt_more {new} {all} {shown} {wanted} id marked two there keeps reduced known same is meaning =
      let count = rebuilt.count in
      let more = keeps.known in
      let pushed : Rebuilt old marks seen start new (ids ++ id ∷ []) (n + 1) = record {
        count = omega (arith, count, length_push ids id);
        known = All-push (λ (j : ℕ). j < length new) ids id (λ k d lt. (let h = rebuilt.known k d lt in omega (arith, h, more))) known;
        meaning = λ k b lt kept. elim (below_or_at k n lt) [
          | inl less ↦ (
              let inside : k < length ids = omega (arith, less, count) in
              ap (λ (j : ℕ). means new j b) (get_or_append_left ids (id ∷ []) 0 k inside)
              ∙ keeps.meaning (get_or ids k 0) b (rebuilt.known k 0 inside) ∙ rebuilt.meaning k b less kept)
          | inr e ↦ (
              let here : get_or (ids ++ id ∷ []) k 0 ≡ id = get_or_push ids id 0 k (count ∙ sym e) in
              let kept_n : is_kept marks n ≡ true = subst (λ (j : ℕ). is_kept marks j ≡ true) e kept in
              let one : means new id b ≡ means old n (seen b) =
              meaning (marked ∙ kept_marked marks n two kept_n) b
              ∙ ap (λ (xs : List ℕ). cond (seen b (level_of old n)) (means now (get_or xs (at old n).hi 0) b) (means now (get_or xs (at old n).lo 0) b)) same
              ∙ chosen_means (seen b (level_of old n)) b two there kept_n
              ∙ sym (means_chosen old ro (seen b) n there) in
              ap (λ (j : ℕ). means new j b) here ∙ one ∙ ap (λ (j : ℕ). means old j (seen b)) (sym e))
        ];
        keeps = keeps_on start now new rebuilt.keeps keeps;
        reduced = reduced;
      } in
      subst (λ (xs : List ℕ). Rebuilt old marks seen start new xs (n + 1)) (sym is) pushed

or_right : (a b : Bool) → b ≡ true → (a || b) ≡ true
or_right true b e = refl
or_right false b e = e

-- the root is kept, so it has its diagram
pub root_kept : (old : List Node) (marks : List Bool) (root : ℕ) → MarkedFrom old (root ∷ []) marks 2 → is_kept marks root ≡ true
root_kept old marks root m = or_right (nat_lt root 2) (is_marked_id marks root) (m.roots_marked 0 (omega arith))

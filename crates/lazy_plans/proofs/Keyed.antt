-- What counts as one, and the keys that tell it.
use Rattle.std.proofs.Common.{◌≡◌, ℕ, ◌<◌, ◌≤◌, ◌↔◌, Bool, true, false, cond, eqb, inl, inr, List, [], ◌∷◌, ◌++◌, length, Option, MatchBool, refl, sym, ◌∙◌, subst, arith}
use Rattle.std.specs.Bool.{Decides}
use Rattle.std.specs.List.{All, Any, Contains, list_any}
use Rattle.std.proofs.lemmas.Bool.Decides.{Decides-or}
use Rattle.std.proofs.lemmas.List.Elements.{All-push, All-contains, All-weaker}
use Rattle.std.proofs.lemmas.List.Quantifiers.{Any-push}
use Rattle.std.proofs.lemmas.List.Sorted.{sum_by-IsPermutation}
use Rattle.symk_task.specs.declared.parts.Mode.{Mode}
use Rattle.symk_task.specs.declared.parts.Mode.TheVariants.{TopK, Loopless, Unordered}
use Rattle.symk_task.specs.Plans.{Same, IsListed}
use Rattle.symk_task.proofs.Rising.{sorted_same}
use Rattle.task_system.specs.System.{System, Listed, same, cost_in_system}
use Rattle.task_system.proofs.SameLaw.{same_law}
use Rattle.lazy_plans.specs.Law.{top}
use Rattle.lazy_plans.proofs.ListLaw.{any_none, any_head, any_tail, any_cases, any_left}
use Rattle.lazy_plans.specs.SelectorsOwe.{IsClassKey, AreKeys, AreKeysOf, Unlisted}
use Rattle.lazy_plans.proofs.Rearranged.{same_cost, same_length, orders_all, in_left, in_right, order_in}

pub same_self : (mode : Mode) (p : List ℕ) → Same mode p p
same_self TopK p = refl
same_self Loopless p = refl
same_self Unordered p = (λ a. refl)

pub same_flip : (mode : Mode) (p q : List ℕ) → Same mode p q → Same mode q p
same_flip TopK p q h = sym h
same_flip Loopless p q h = sym h
same_flip Unordered p q h = (λ a. sym (h a))

pub same_chain : (mode : Mode) (p q r : List ℕ) → Same mode p q → Same mode q r → Same mode p r
same_chain TopK p q r h k = h ∙ k
same_chain Loopless p q r h k = h ∙ k
same_chain Unordered p q r h k = (λ a. h a ∙ k a)

-- Lists and their keys.

pub key_same : (mode : Mode) (p key : List ℕ) → IsClassKey mode p key → Same mode p key
key_same TopK p key h = h
key_same Loopless p key h = h
key_same Unordered p key h = (λ a. sym (sum_by-IsPermutation (λ b. cond (eqb a b) 1 0) p key h.0))

-- lists that count as one have one key
one_key : (mode : Mode) (p q key other : List ℕ) → IsClassKey mode p key → IsClassKey mode q other → Same mode p q → key ≡ other
one_key TopK p q key other h k alike = sym h ∙ alike ∙ k
one_key Loopless p q key other h k alike = sym h ∙ alike ∙ k
one_key Unordered p q key other h k alike = (sorted_same p q key other h.0 k.0 h.1 k.1).1 alike

-- a list whose key is among the keys counts as one with it
pub listed_by_key : (mode : Mode) (keys : List (List ℕ)) (p key : List ℕ) → IsClassKey mode p key → Contains keys key → IsListed mode keys p
listed_by_key mode keys p key is (k, lt, at) = (k, key, lt, at, key_same mode p key is)

-- and no other does
pub key_by_listed : (mode : Mode) (keys : List (List ℕ)) (p key : List ℕ)
    → All (λ other. (q : List ℕ) × IsClassKey mode q other) keys → IsClassKey mode p key
    → IsListed mode keys p → Contains keys key
key_by_listed mode keys p key each is (k, other, lt, at, alike) =
    let o = All-contains (λ other. (q : List ℕ) × IsClassKey mode q other) keys other each (k, lt, at) in
    let e : key ≡ other = one_key mode p o.0 key other is o.1 (same_chain mode p other o.0 alike (same_flip mode o.0 other (key_same mode o.0 other o.1))) in
    subst (λ (z : List ℕ). Contains keys z) (sym e) (k, lt, at)

-- What is listed.

pub listed_same : (mode : Mode) (plans : List (List ℕ)) (p q : List ℕ) → Same mode q p → IsListed mode plans p → IsListed mode plans q
listed_same mode plans p q alike (k, r, lt, at, h) = (k, r, lt, at, same_chain mode q p r alike h)

pub listed_told : (mode : Mode) (plans : List (List ℕ)) (p : List ℕ) → Decides (list_any (same mode p) plans) (IsListed mode plans p)
listed_told mode [] p = ((λ e. cc), (λ h. absurd (any_none (Same mode p) h)))
listed_told mode (q ∷ plans) p =
    let d = Decides-or (same mode p q) (list_any (same mode p) plans) (same_law mode p q) (listed_told mode plans p) in (
      (λ e. elim (d.0 e) [ inl s ↦ any_head (Same mode p) q plans s | inr a ↦ any_tail (Same mode p) q plans a ]),
      (λ h. d.1 (any_cases (Same mode p) q plans h)),
    )

pub listed_cheap : (system : System) (mode : Mode) (c : ℕ) (keys : List (List ℕ)) (p : List ℕ)
    → All (λ key. cost_in_system system key ≤ c) keys → IsListed mode keys p → cost_in_system system p ≤ c
listed_cheap system mode c keys p cheap (k, key, lt, at, alike) =
    let le = All-contains (λ key. cost_in_system system key ≤ c) keys key cheap (k, lt, at) in
    omega (arith, le, same_cost system mode p key alike)

-- a list longer than each key counts as one with none
pub longer_unlisted : (mode : Mode) (room : ℕ) (keys : List (List ℕ)) (p : List ℕ)
    → All (λ key. length key ≤ room) keys → room < length p → ¬ IsListed mode keys p
longer_unlisted mode room keys p short long (k, key, lt, at, alike) =
    let le = All-contains (λ key. length key ≤ room) keys key short (k, lt, at) in
    omega (arith, le, long, same_length mode p key alike)

pub listed_order : (mode : Mode) (keys : List (List ℕ)) (p : List ℕ) → IsListed mode keys p → Listed (orders_all keys) p
listed_order mode [] p h = absurd (any_none (Same mode p) h)
listed_order mode (key ∷ keys) p h = elim (any_cases (Same mode p) key keys h) [
  | inl s ↦ in_left _ (orders_all keys) p (order_in mode p key s)
  | inr a ↦ in_right _ (orders_all keys) p (listed_order mode keys p a)
]

-- keys with one more
pub keys_more : (system : System) (mode : Mode) (most : Option ℕ) (keys new : List (List ℕ)) (p key : List ℕ)
    → AreKeys system mode most keys → cost_in_system system p ≤ top most → IsClassKey mode p key → new ≡ keys ++ key ∷ []
    → AreKeys system mode most new
keys_more system mode most keys new p key ok fits is more = rw more (record {
  each = All-push (λ key. (p : List ℕ) × IsClassKey mode p key) keys key ok.each (p, is);
  cheap = All-push (λ key. cost_in_system system key ≤ top most) keys key ok.cheap (omega (arith, fits, same_cost system mode p key (key_same mode p key is)));
})

-- The keys of the plans of a list.

-- those of a list with one more plan, whose key is put last where it is new
pub keys_of_more : (mode : Mode) (plans keys new : List (List ℕ)) (p key : List ℕ) (fresh : Bool) → AreKeysOf mode plans keys → IsClassKey mode p key
    → MatchBool fresh (new ≡ keys ++ key ∷ []) (new ≡ keys) → MatchBool fresh (¬ Contains keys key) (Contains keys key) → AreKeysOf mode (plans ++ p ∷ []) new
keys_of_more mode plans keys new p key true ok is more found = rw more (record {
  from = All-push (λ key. Any (λ p. IsClassKey mode p key) (plans ++ p ∷ [])) keys key
      (All-weaker (λ key. Any (λ p. IsClassKey mode p key) plans) (λ key. Any (λ p. IsClassKey mode p key) (plans ++ p ∷ []))
      (λ other h. any_left (λ q. IsClassKey mode q other) plans p h) keys ok.from)
      (Any-push (λ q. IsClassKey mode q key) plans p is);
  all = All-push (IsListed mode (keys ++ key ∷ [])) plans p
      (All-weaker (IsListed mode keys) (IsListed mode (keys ++ key ∷ [])) (λ q h. any_left (Same mode q) keys key h) plans ok.all)
      (Any-push (Same mode p) keys key (key_same mode p key is));
})
keys_of_more mode plans keys new p key false ok is more found = rw more (record {
  from = All-weaker (λ key. Any (λ p. IsClassKey mode p key) plans) (λ key. Any (λ p. IsClassKey mode p key) (plans ++ p ∷ []))
      (λ other h. any_left (λ q. IsClassKey mode q other) plans p h) keys ok.from;
  all = All-push (IsListed mode keys) plans p ok.all (listed_by_key mode keys p key is found);
})

-- each key is that of a list of operators
keyed_of : (mode : Mode) (plans keys : List (List ℕ)) → AreKeysOf mode plans keys → All (λ key. (p : List ℕ) × IsClassKey mode p key) keys
keyed_of mode plans keys ok = All-weaker (λ key. Any (λ p. IsClassKey mode p key) plans)
    (λ key. (p : List ℕ) × IsClassKey mode p key) (λ key h. (h.1, h.4)) keys ok.from

-- and costs what its plan costs
cheap_of : (system : System) (mode : Mode) (c : ℕ) (plans keys : List (List ℕ)) → AreKeysOf mode plans keys
    → All (λ p. cost_in_system system p ≤ c) plans → All (λ key. cost_in_system system key ≤ c) keys
cheap_of system mode c plans keys ok cheap = All-weaker (λ key. Any (λ p. IsClassKey mode p key) plans) (λ key. cost_in_system system key ≤ c) one keys ok.from
  where
    one : (key : List ℕ) → Any (λ p. IsClassKey mode p key) plans → cost_in_system system key ≤ c
    one key (k, p, lt, at, is) =
        let le = All-contains (λ p. cost_in_system system p ≤ c) plans p cheap (k, lt, at) in
        omega (arith, le, same_cost system mode p key (key_same mode p key is))

-- a list counts as one with a key exactly where it does with a plan
listed_of : (mode : Mode) (plans keys : List (List ℕ)) → AreKeysOf mode plans keys → (p : List ℕ) → IsListed mode keys p ↔ IsListed mode plans p
listed_of mode plans keys ok p = (to, from)
  where
    to : IsListed mode keys p → IsListed mode plans p
    to (k, key, lt, at, alike) =
        let h = All-contains (λ key. Any (λ q. IsClassKey mode q key) plans) keys key ok.from (k, lt, at) in
        (h.0, h.1, h.2, h.3, same_chain mode p key h.1 alike (same_flip mode h.1 key (key_same mode h.1 key h.4)))

    from : IsListed mode plans p → IsListed mode keys p
    from (k, q, lt, at, alike) = listed_same mode keys q p alike (All-contains (IsListed mode keys) plans q ok.all (k, lt, at))

pub are_keys_of : (system : System) (mode : Mode) (most : Option ℕ) (plans keys : List (List ℕ))
    → AreKeysOf mode plans keys → All (λ p. cost_in_system system p ≤ top most) plans → AreKeys system mode most keys
are_keys_of system mode most plans keys ok cheap = record { each = keyed_of mode plans keys ok; cheap = cheap_of system mode (top most) plans keys ok cheap }

pub unlisted_of : (mode : Mode) (plans keys : List (List ℕ)) → AreKeysOf mode plans keys
    → (below : List ℕ → Type 0) (p : List ℕ) → Unlisted mode keys below p ↔ (¬ IsListed mode plans p × below p)
unlisted_of mode plans keys ok below p =
    let same = listed_of mode plans keys ok p in
    ((λ h. ((λ l. h.0 (same.1 l)), h.1)), (λ h. ((λ l. h.0 (same.0 l)), h.1)))

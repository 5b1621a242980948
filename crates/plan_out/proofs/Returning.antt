-- States that recur, after one state more.
use Rattle.std.proofs.Common.{◌≡◌, ℕ, ◌+◌, ◌<◌, Bool, true, false, cond, List, [], ◌∷◌, ◌++◌, length, get_or, take, Option, Some, None, inl, inr, refl, sym, subst, ◌∙◌, arith}
use Rattle.std.specs.Prelude.{Contains, ◌↔◌, IsTrue, MatchOption, is_some}
use Rattle.std.specs.Bool.{Decides}
use Rattle.std.specs.BTreeSet.{BTreeSet, contains}
use Rattle.std.specs.Cmp.Lexicographic.{slice_cmp}
use Rattle.std.specs.Ordering.{nat_cmp, is_eq}
use Rattle.std.specs.Str.{bytes_eq}
use Rattle.std.proofs.lemmas.Bool.{cases_eq, false≢true}
use Rattle.std.proofs.lemmas.Bool.Decides.{Decides-at}
use Rattle.std.proofs.lemmas.List.{take-append-le, take_at, get_or_append_left, get_or_push, length-append, length_push}
use Rattle.std.proofs.lemmas.List.Elements.{Contains-push, Contains-append_left, Contains-push_cases}
use Rattle.std.proofs.lemmas.Map.Text.{is_eq-slice_cmp}
use Rattle.std.proofs.lemmas.Slice.Eq.{bytes_eq-Decides}
use Rattle.plan_out.specs.Fails.{Recurs, IsFirstReturn}
use Rattle.plan_out.specs.Checks.{AreFresh}

recurs_longer : (xs ys : List (List ℕ)) (k : ℕ) → k < length xs → Recurs xs k → Recurs (xs ++ ys) k
recurs_longer xs ys k lt h =
    subst (λ (t : List (List ℕ)). Contains t (get_or (xs ++ ys) k [])) (sym (take-append-le k xs ys (omega arith)))
    (subst (λ (x : List ℕ). Contains (take k xs) x) (sym (get_or_append_left xs ys [] k lt)) h)

recurs_shorter : (xs ys : List (List ℕ)) (k : ℕ) → k < length xs → Recurs (xs ++ ys) k → Recurs xs k
recurs_shorter xs ys k lt h =
    subst (λ (x : List ℕ). Contains (take k xs) x) (get_or_append_left xs ys [] k lt)
    (subst (λ (t : List (List ℕ)). Contains t (get_or (xs ++ ys) k [])) (take-append-le k xs ys (omega arith)) h)

-- the first return stays the first
return_longer : (xs ys : List (List ℕ)) (n : ℕ) → IsFirstReturn xs n → IsFirstReturn (xs ++ ys) n
return_longer xs ys n h = record {
  within = (let e = length-append xs ys in let w = h.within in omega (arith, e, w));
  here = recurs_longer xs ys n h.within h.here;
  before = (λ k lt r. h.before k lt (recurs_shorter xs ys k (let w = h.within in omega (arith, w)) r));
}

last_recurs : (xs : List (List ℕ)) (x : List ℕ) → Recurs (xs ++ x ∷ []) (length xs) → Contains xs x
last_recurs xs x h =
    subst (λ (t : List (List ℕ)). Contains t x) (take_at xs (x ∷ []) (length xs) refl)
    (subst (λ (y : List ℕ). Contains (take (length xs) (xs ++ x ∷ [])) y) (get_or_push xs x [] (length xs) refl) h)

recurs_last : (xs : List (List ℕ)) (x : List ℕ) → Contains xs x → Recurs (xs ++ x ∷ []) (length xs)
recurs_last xs x h =
    subst (λ (y : List ℕ). Contains (take (length xs) (xs ++ x ∷ [])) y) (sym (get_or_push xs x [] (length xs) refl))
    (subst (λ (t : List (List ℕ)). Contains t x) (sym (take_at xs (x ∷ []) (length xs) refl)) h)

-- a state that is not there yet
fresh_more : (xs : List (List ℕ)) (x : List ℕ) → AreFresh xs → ¬ Contains xs x → AreFresh (xs ++ x ∷ [])
fresh_more xs x fresh new k lt r = elim (cases_eq k (length xs)) [
  | inl e ↦ new (last_recurs xs x (subst (λ (n : ℕ). Recurs (xs ++ x ∷ []) n) e r))
  | inr ne ↦ (let below : k < length xs = (let e = length_push xs x in omega (arith, e, lt, ne)) in fresh k below (recurs_shorter xs (x ∷ []) k below r))
]

-- a state that is there
return_last : (xs : List (List ℕ)) (x : List ℕ) → AreFresh xs → Contains xs x → IsFirstReturn (xs ++ x ∷ []) (length xs)
return_last xs x fresh there = record {
  within = (let e = length_push xs x in omega (arith, e));
  here = recurs_last xs x there;
  before = (λ k lt r. fresh k lt (recurs_shorter xs (x ∷ []) k lt r));
}

-- the set has the states of the list
abbrev pub AreMembers : BTreeSet (List ℕ) → List (List ℕ) → Type 0
AreMembers set xs = (x : List ℕ) → IsTrue (contains (slice_cmp nat_cmp) set x) ↔ Contains xs x

same_state : (x y : List ℕ) → Decides (is_eq (slice_cmp nat_cmp x y)) (x ≡ y)
same_state x y = Decides-at (is_eq (slice_cmp nat_cmp x y)) (bytes_eq x y) (is_eq-slice_cmp x y) (bytes_eq-Decides x y)

abbrev Adds : BTreeSet (List ℕ) → BTreeSet (List ℕ) → List ℕ → Type 0
Adds old new x = (q : List ℕ) → contains (slice_cmp nat_cmp) new q ≡ cond (is_eq (slice_cmp nat_cmp x q)) true (contains (slice_cmp nat_cmp) old q)

member_more : (old new : BTreeSet (List ℕ)) (xs : List (List ℕ)) (x q : List ℕ) → AreMembers old xs → (b : Bool) → is_eq (slice_cmp nat_cmp x q) ≡ b
    → contains (slice_cmp nat_cmp) new q ≡ cond b true (contains (slice_cmp nat_cmp) old q)
    → IsTrue (contains (slice_cmp nat_cmp) new q) ↔ Contains (xs ++ x ∷ []) q
member_more old new xs x q h true is e = (
  (λ t. subst (λ (z : List ℕ). Contains (xs ++ x ∷ []) z) ((same_state x q).0 is) (Contains-push xs x)),
  (λ k. e),
)
member_more old new xs x q h false is e = (
  (λ t. Contains-append_left xs (x ∷ []) q ((h q).0 (sym e ∙ t))),
  (λ k. elim (Contains-push_cases xs x q k) [ inl there ↦ e ∙ (h q).1 there | inr same ↦ absurd (false≢true (sym is ∙ (same_state x q).1 same)) ]),
)

members_more : (old new : BTreeSet (List ℕ)) (xs : List (List ℕ)) (x : List ℕ) → AreMembers old xs → Adds old new x → AreMembers new (xs ++ x ∷ [])
members_more old new xs x h adds q = member_more old new xs x q h (is_eq (slice_cmp nat_cmp x q)) refl (adds q)

-- the states left before this one, and the first step that led back
abbrev Noted : Option ℕ → BTreeSet (List ℕ) → List (List ℕ) → List ℕ → Type 0
Noted back set left state = MatchOption back (AreMembers set left × AreFresh (left ++ state ∷ [])) (IsFirstReturn (left ++ state ∷ []))

pub note_kept : (back : Option ℕ) (old new : BTreeSet (List ℕ)) (left : List (List ℕ)) (from to : List ℕ)
    → is_some back ≡ true → Noted back old left from → Noted back new (left ++ from ∷ []) to
note_kept None old new left from to some h = absurd (false≢true some)
note_kept (Some n) old new left from to some h = return_longer (left ++ from ∷ []) (to ∷ []) n h

-- where none led back before
module _ (old new : BTreeSet (List ℕ)) (left : List (List ℕ)) (from to : List ℕ) (adds : Adds old new from) where
  pub note_found : (back : Option ℕ) {step : ℕ} → is_some back ≡ false → contains (slice_cmp nat_cmp) new to ≡ true
      → step ≡ length left + 1 → Noted back old left from → IsFirstReturn (left ++ from ∷ [] ++ to ∷ []) step
  note_found None none has is h =
      let all = left ++ from ∷ [] in
      let there : Contains all to = (members_more old new left from h.0 adds to).0 has in
      subst (λ (n : ℕ). IsFirstReturn (all ++ to ∷ []) n) (length_push left from ∙ sym is)
      (return_last all to h.1 there)
  note_found (Some n) none has is h = absurd (false≢true (sym none))

  pub note_new : (back : Option ℕ) → is_some back ≡ false → contains (slice_cmp nat_cmp) new to ≡ false
      → Noted back old left from → Noted back new (left ++ from ∷ []) to
  note_new None none has h =
      let members : AreMembers new (left ++ from ∷ []) = members_more old new left from h.0 adds in
      (members, fresh_more (left ++ from ∷ []) to h.1 (λ there. false≢true (sym has ∙ (members to).1 there)))
  note_new (Some n) none has h = absurd (false≢true (sym none))

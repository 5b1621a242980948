-- Marks that grow.
use Rattle.std.proofs.Common.{◌≡◌, ◌≢◌, ℕ, zero, suc, ◌+◌, ◌<◌, ◌≤◌, ◌++◌, take, replicate, cond, Bool, true, false, not, IsTrue, List, [], ◌∷◌, length, get_or, refl, sym, ap, subst, ◌∙◌, inl, inr, arith}
use Rattle.std.proofs.Math.ListN.{set}
use Rattle.std.proofs.lemmas.Bool.{cases_eq}
use Rattle.std.proofs.Math.Seq.{take-length}
use Rattle.std.proofs.lemmas.List.{get_or-set_same, get_or-set_other, take-append-le, get_or-replicate}
use Rattle.std.proofs.lemmas.List.Folds.{sum_by-replicate}
use Rattle.std.proofs.lemmas.List.Sums.{sum_by-set}
use Rattle.stubborn_sets.specs.Closing.{has_mark, GrowsMarks}
use Rattle.stubborn_sets.specs.Depending.{left, Spreads}

pub here : (marks : List Bool) (at : ℕ) → at < length marks → IsTrue (has_mark (set marks at true) at)
here marks at lt = get_or-set_same marks at true false lt

pub still : (marks : List Bool) (at : ℕ) → at < length marks → GrowsMarks marks (set marks at true)
still marks at lt a h = elim (cases_eq a at) [
  | inl same ↦ subst (λ (z : ℕ). IsTrue (has_mark (set marks at true) z)) (sym same) (here marks at lt)
  | inr off ↦ (let ne : a ≢ at = off in get_or-set_other marks at a true false ne ∙ h)
]

pub further : (a b c : List Bool) → GrowsMarks a b → GrowsMarks b c → GrowsMarks a c
further a b c to on x h = on x (to x h)

-- one more is marked
pub one_fewer : (marks : List Bool) (at : ℕ) → at < length marks → ¬ IsTrue (has_mark marks at) → left (set marks at true) + 1 ≡ left marks
one_fewer marks at lt unmarked = by (get_or marks at false) (sum_by-set (λ x. cond (not x) 1 0) marks at true false lt) unmarked
  where
    by : (b : Bool) → left (set marks at true) + cond (not b) 1 0 ≡ left marks + 0 → ¬ IsTrue b → left (set marks at true) + 1 ≡ left marks
    by true e off = absurd (off refl)
    by false e off = omega (arith, e)

-- none is marked
pub left_none : (n : ℕ) → left (replicate n false) ≡ n
left_none n = (let e = sum_by-replicate (λ (x : Bool). cond (not x) 1 0) n false in omega (arith, e))

pub none_marked : (n a : ℕ) → ¬ IsTrue (has_mark (replicate n false) a)
none_marked zero a h = (cc)
none_marked (suc n) zero h = (cc)
none_marked (suc n) (suc a) h = none_marked n a h

-- what is marked is there
pub is_there : (marks : List Bool) (a : ℕ) → IsTrue (has_mark marks a) → a < length marks
is_there [] a h = absurd (cc)
is_there (b ∷ marks) zero h = omega arith
is_there (b ∷ marks) (suc a) h = (let lt = is_there marks a h in omega (arith, lt))

-- each of so many is marked
pub all_true : (items : List Bool) (n : ℕ) → items ≡ replicate n true → (a : ℕ) → a < n → IsTrue (has_mark items a)
all_true items n e a lt = subst (λ (z : List Bool). IsTrue (has_mark z a)) (sym e) (get_or-replicate n a true false lt)

-- marks that spread

pub spreads_refl : (marks : List Bool) → Spreads marks marks false
spreads_refl marks = record { grows = λ a h. h; none = λ _. refl; some = λ h. absurd (cc) }

pub spreads_new : (marks : List Bool) (at : ℕ) → at < length marks → ¬ IsTrue (has_mark marks at) → Spreads marks (set marks at true) true
spreads_new marks at lt off = record { grows = still marks at lt; none = λ h. absurd (cc); some = λ _. (let e = one_fewer marks at lt off in omega (arith, e)) }

-- once more, and no more
pub spreads_more : (a b c : List Bool) (more : Bool) → Spreads a b more → Spreads b c true → Spreads a c true
spreads_more a b c true to on = record {
  grows = further a b c to.grows on.grows;
  none = λ h. absurd (cc);
  some = λ _.
      (let x = to.some refl in let y = on.some refl in omega (arith, x, y));
}
spreads_more a b c false to on = record {
  grows = further a b c to.grows on.grows;
  none = λ h. absurd (cc);
  some =
      λ _. (let x = ap left (to.none refl) in let y = on.some refl in omega (arith, x, y));
}

pub spreads_no_more : (a b c : List Bool) (more : Bool) → Spreads a b more → Spreads b c false → Spreads a c more
spreads_no_more a b c more to on = subst (λ (z : List Bool). Spreads a z more) (sym (on.none refl)) to

-- what a slice of the whole vector becomes
pub whole : (xs ys : List Bool) (n : ℕ) → length xs ≡ n → take n (xs ++ ys) ≡ xs
whole xs ys n e = (let le : n ≤ length xs = omega (arith, e) in take-append-le n xs ys le ∙ ap (λ (k : ℕ). take k xs) (sym e) ∙ take-length xs)

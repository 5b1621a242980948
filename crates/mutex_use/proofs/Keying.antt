-- The facts of a list, each once, by a set of those that were seen.
use Rattle.std.proofs.Common.{◌≡◌, ◌≢◌, ℕ, ◌+◌, ◌<◌, ◌≤◌, ◌⊎◌, ◌↔◌, inl, inr, Bool, true, false, cond, not, IsTrue, List, [], ◌∷◌, ◌++◌, length, get_or, take, refl, sym, ◌∙◌, ap, subst, arith}
use Rattle.std.specs.List.{Contains, AllPairs}
use Rattle.std.specs.Ordering.{nat_cmp, ordering_then, is_eq}
use Rattle.std.specs.declared.cmp.Ordering.{Ordering}
use Rattle.std.specs.declared.cmp.Ordering.TheVariants.{Equal}
use Rattle.std.specs.Cmp.{nat_cmp_is}
use Rattle.std.specs.BTreeSet.{BTreeSet, contains}
use Rattle.std.proofs.lemmas.List.Quantifiers.{all_pairs_push}
use Rattle.std.proofs.lemmas.List.Elements.{Contains-get_or}
use Rattle.std.proofs.lemmas.Map.Lookups.{exact_unsigned, exact_pairs, CmpEqualImpliesEq}
use Rattle.space_api.proofs.Trading.{valid_clash}
use Rattle.symk_task.specs.declared.parts.Fact.{Fact}
use Rattle.mutex_use.specs.Counts.{IsEachOnce}
use Rattle.mutex_use.proofs.Lists.{more, none, whole, pushed}
use Rattle.mutex_use.proofs.Noting.{insert_law}

-- how the keys are compared
abbrev pub pair_cmp : ℕ × ℕ → ℕ × ℕ → Ordering
pair_cmp x y = ordering_then (nat_cmp x.0 y.0) (nat_cmp x.1 y.1)

abbrev pub key : Fact → ℕ × ℕ
key f = (f.var, f.val)

-- the set has the keys of the list, which has each of the first so many facts once
pub record Seen (facts : List Fact) (i : ℕ) (keys : BTreeSet (ℕ × ℕ)) (each : List Fact) : Type 0 where
  pub seen : (g : Fact) → IsTrue (contains pair_cmp keys (key g)) ↔ Contains each g
  pub same : (g : Fact) → Contains each g ↔ Contains (take i facts) g
  pub apart : AllPairs ◌≢◌ each

exact : CmpEqualImpliesEq pair_cmp
exact = exact_pairs nat_cmp nat_cmp exact_unsigned exact_unsigned

equal_at : (k : ℕ × ℕ) → pair_cmp k k ≡ Equal
equal_at k =
    let a : nat_cmp k.0 k.0 ≡ Equal = sym (nat_cmp_is k.0 k.0 Equal refl) in
    let b : nat_cmp k.1 k.1 ≡ Equal = sym (nat_cmp_is k.1 k.1 Equal refl) in
    ap (λ (o : Ordering). ordering_then o (nat_cmp k.1 k.1)) a ∙ b

one_fact : (f g : Fact) → key f ≡ key g → f ≡ g
one_fact f g e = λ i. record { var = (e i).0; val = (e i).1 }

pub seen_none : (facts : List Fact) (keys : BTreeSet (ℕ × ℕ)) (each : List Fact) → keys.keys ≡ [] → each ≡ [] → Seen facts 0 keys each
seen_none facts keys each no_keys is = record {
  seen = λ g. ((λ h. absurd (valid_clash h (no_key g))), (λ h. absurd (omega (arith, h.1, ap length is))));
  same = λ g. ((λ h. absurd (omega (arith, h.1, ap length is))), (λ h. absurd (none facts g h)));
  apart = λ i j d lt within e. absurd (omega (arith, within, ap length is));
}
  where
    no_key : (g : Fact) → contains pair_cmp keys (key g) ≡ false
    no_key g = subst (λ (z : List (ℕ × ℕ)). contains pair_cmp (record { keys = z }) (key g) ≡ false) (sym no_keys) refl

module _ (facts : List Fact) (i : ℕ) (f : Fact) (keys new : BTreeSet (ℕ × ℕ)) (each : List Fact)
    (lt : i < length facts) (is : get_or facts i f ≡ f) (s : Seen facts i keys each)
    (updates : (q : ℕ × ℕ) → contains pair_cmp new q ≡ cond (is_eq (pair_cmp (key f) q)) true (contains pair_cmp keys q)) where
  has_now : (g : Fact) → IsTrue (contains pair_cmp new (key g)) ↔ (Contains each g ⊎ (f ≡ g))
  has_now g =
      let law = insert_law pair_cmp (key f) (key g) (contains pair_cmp keys (key g)) (contains pair_cmp new (key g))
      exact (equal_at (key f)) (updates (key g)) in (
        (λ h. elim (law.0 h) [ inl o ↦ inl ((s.seen g).0 o) | inr e ↦ inr (one_fact f g e) ]),
        (λ h. law.1 (elim h [ inl o ↦ inl ((s.seen g).1 o) | inr e ↦ inr (ap key e) ])),
      )

  so_far : (g : Fact) → (Contains each g ⊎ (f ≡ g)) ↔ Contains (take (i + 1) facts) g
  so_far g =
      let step = more facts i f g lt is in (
        (λ h. step.1 (elim h [ inl o ↦ inl ((s.same g).0 o) | inr e ↦ inr e ])),
        (λ h. elim (step.0 h) [ inl o ↦ inl ((s.same g).1 o) | inr e ↦ inr e ]),
      )

  -- the fact is new
  pub seen_more : contains pair_cmp keys (key f) ≡ false → Seen facts (i + 1) new (each ++ f ∷ [])
  seen_more fresh = record {
    seen = λ g. ((λ h. (pushed each f g).1 ((has_now g).0 h)), (λ h. (has_now g).1 ((pushed each f g).0 h)));
    same = λ g. ((λ h. (so_far g).0 ((pushed each f g).0 h)), (λ h. (pushed each f g).1 ((so_far g).1 h)));
    apart = all_pairs_push ◌≢◌ each f s.apart (λ k d low e. valid_clash ((s.seen f).1 (subst (Contains each) e (Contains-get_or each k d low))) fresh);
  }

  -- it stood before
  pub seen_same : contains pair_cmp keys (key f) ≡ true → Seen facts (i + 1) new each
  seen_same old = record {
    seen = λ g. ((λ h. stood g ((has_now g).0 h)), (λ h. (has_now g).1 (inl h)));
    same = λ g. ((λ h. (so_far g).0 (inl h)), (λ h. stood g ((so_far g).1 h)));
    apart = s.apart;
  }
    where
      stood : (g : Fact) → Contains each g ⊎ (f ≡ g) → Contains each g
      stood g (inl h) = h
      stood g (inr e) = subst (Contains each) e ((s.seen f).0 old)

pub each_once : (facts : List Fact) (i : ℕ) (keys : BTreeSet (ℕ × ℕ)) (each : List Fact) → length facts ≤ i → Seen facts i keys each → IsEachOnce facts each
each_once facts i keys each le s = record {
  same = λ g. ((λ h. (whole facts i g le).0 ((s.same g).0 h)), (λ h. (s.same g).1 ((whole facts i g le).1 h)));
  apart = s.apart;
}

-- what the answer of the insertion tells
pub was_new : (added was : Bool) → added ≡ not was → added ≡ true → was ≡ false
was_new added true is e = absurd (valid_clash e is)
was_new added false is e = refl

pub was_there : (added was : Bool) → added ≡ not was → added ≡ false → was ≡ true
was_there added true is e = refl
was_there added false is e = absurd (valid_clash is e)

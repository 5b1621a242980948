-- The sets of entries: which they are, which were made, and which are given back.
use Rattle.std.proofs.Common.{◌≡◌, ℕ, true, false, zero, suc, ◌+◌, ◌<◌, ◌≤◌, ◌⊎◌, ◌↔◌, inl, inr, IsFalse, List, [], ◌∷◌, ◌++◌, take, get_or, length, refl, sym, ◌∙◌, ap, subst, arith}
use Rattle.std.specs.List.{AllByRecursion}
use Rattle.std.proofs.lemmas.List.{take_more, take_all}
use Rattle.task_system.specs.System.{State}
use Rattle.space_api.specs.View.{View, Valid}
use Rattle.space_api.specs.Frames.{Kept, Gives, Forgot, Stays}
use Rattle.space_api.specs.Owned.{Trades}
use Rattle.space_api.proofs.Keeping.{kept_trans, given_back}
use Rattle.space_api.proofs.Trading.{valid_clash, trades_both, trades_as}
use Rattle.reconstruct.specs.Entries.{EntryOk, LeadOn, HasSet, SetIn, AreDistinct, IsNewEntry, MakesEntries}
use Rattle.reconstruct.specs.Ways.{IsNewSet}
use Rattle.reconstruct.specs.Turned.{GivesBack}
use Rattle.reconstruct.specs.declared.entries.Prefix.{Prefix}
use Rattle.reconstruct.specs.declared.entries.Suffix.{Suffix}
use Rattle.reconstruct.specs.declared.entries.Partial.{Partial as PartialPrefix}
use Rattle.reconstruct.specs.declared.entries.Entry.{Entry}
use Rattle.reconstruct.specs.declared.entries.Entry.TheVariants.{Before, After, Partial}

module _ {Set : Type 0} where
  pub in_append : (xs ys : List (Entry Set)) (a : Set) → SetIn (xs ++ ys) a ↔ (SetIn xs a ⊎ SetIn ys a)
  in_append [] ys a = ((λ h. inr h), (λ h. elim h [ inl x ↦ absurd x | inr y ↦ y ]))
  in_append (x ∷ xs) ys a = (
    (λ h. elim h [ inl e ↦ inl (inl e) | inr k ↦ elim ((in_append xs ys a).0 k) [ inl p ↦ inl (inr p) | inr q ↦ inr q ] ]),
    (λ h. elim h [ inl p ↦ elim p [ inl e ↦ inl e | inr k ↦ inr ((in_append xs ys a).1 (inl k)) ] | inr q ↦ inr ((in_append xs ys a).1 (inr q)) ]),
  )

  pub distinct_split : (xs ys : List (Entry Set)) → AreDistinct (xs ++ ys) → AreDistinct xs × AreDistinct ys × ((a : Set) → SetIn xs a → SetIn ys a → ⊥)
  distinct_split [] ys d = (tt, d, λ a x y. absurd x)
  distinct_split (x ∷ xs) ys d =
      let r = distinct_split xs ys d.1 in (
        ((λ a has h. d.0 a has ((in_append xs ys a).1 (inl h))), r.0),
        r.1,
        (λ a h k. elim h [ inl has ↦ d.0 a has ((in_append xs ys a).1 (inr k)) | inr p ↦ r.2 a p k ]),
      )

  pub distinct_join : (xs ys : List (Entry Set)) → AreDistinct xs → AreDistinct ys → ((a : Set) → SetIn xs a → SetIn ys a → ⊥) → AreDistinct (xs ++ ys)
  distinct_join [] ys d e apart = e
  distinct_join (x ∷ xs) ys d e apart = (
    (λ a has h. elim ((in_append xs ys a).0 h) [ inl p ↦ d.0 a has p | inr q ↦ apart a (inl has) q ]),
    distinct_join xs ys d.1 e (λ a p q. apart a (inr p) q),
  )

  pub all_split : (P : Entry Set → Type 0) (xs ys : List (Entry Set)) → AllByRecursion P (xs ++ ys) → AllByRecursion P xs × AllByRecursion P ys
  all_split P [] ys a = (tt, a)
  all_split P (x ∷ xs) ys a = let r = all_split P xs ys a.1 in ((a.0, r.0), r.1)

  pub all_join : (P : Entry Set → Type 0) (xs ys : List (Entry Set)) → AllByRecursion P xs → AllByRecursion P ys → AllByRecursion P (xs ++ ys)
  all_join P [] ys a b = b
  all_join P (x ∷ xs) ys a b = (a.0, all_join P xs ys a.1 b)

  -- entries whose sets stay valid and have the same states
  pub lead_same : (v w : View Set) (a : Set) (ops : List ℕ) → w.system ≡ v.system → ((s : State) → w.has a s ≡ v.has a s) → LeadOn v a ops → LeadOn w a ops
  lead_same v w a ops sys same lead s h = let r = lead s (sym (same s) ∙ h) in (r.0, rw sys r.1)

  pub ok_same : (v w : View Set) (e : Entry Set) → w.system ≡ v.system
      → ((a : Set) → HasSet e a → Valid w a × ((s : State) → w.has a s ≡ v.has a s)) → EntryOk v e → EntryOk w e
  ok_same v w (Before e) sys f ok = let r = f e.set refl in (r.0, lead_same v w e.set e.operators.items sys r.1 ok.1)
  ok_same v w (After e) sys f ok = rw sys ok
  ok_same v w (Partial e) sys f ok =
      let r = f e.prefix.set refl in
      (r.0, lead_same v w e.prefix.set e.prefix.operators.items sys r.1 ok.1, rw sys ok.2)

  pub all_same : (v w : View Set) (es : List (Entry Set)) → w.system ≡ v.system
      → ((a : Set) → SetIn es a → Valid w a × ((s : State) → w.has a s ≡ v.has a s)) → AllByRecursion (EntryOk v) es
      → AllByRecursion (EntryOk w) es
  all_same v w [] sys f a = tt
  all_same v w (e ∷ es) sys f a = (ok_same v w e sys (λ x h. f x (inl h)) a.0, all_same v w es sys (λ x h. f x (inr h)) a.1)

  pub ok_valid : (v : View Set) (e : Entry Set) → EntryOk v e → (a : Set) → HasSet e a → Valid v a
  ok_valid v (Before e) ok a h = subst (λ (x : Set). Valid v x) (sym h) ok.0
  ok_valid v (After e) ok a h = absurd h
  ok_valid v (Partial e) ok a h = subst (λ (x : Set). Valid v x) (sym h) ok.0

  pub in_valid : (v : View Set) (es : List (Entry Set)) (a : Set) → AllByRecursion (EntryOk v) es → SetIn es a → Valid v a
  in_valid v [] a ok h = absurd h
  in_valid v (e ∷ es) a ok (inl has) = ok_valid v e ok.0 a has
  in_valid v (e ∷ es) a ok (inr h) = in_valid v es a ok.1 h

  pub ok_kept : (v w : View Set) (e : Entry Set) → Kept v w → EntryOk v e → EntryOk w e
  ok_kept v w e k ok = ok_same v w e k.system (λ a h. let valid = ok_valid v e ok a h in (k.valid a valid, k.same a valid)) ok

  pub all_kept : (v w : View Set) (es : List (Entry Set)) → Kept v w → AllByRecursion (EntryOk v) es → AllByRecursion (EntryOk w) es
  all_kept v w [] k a = tt
  all_kept v w (e ∷ es) k a = (ok_kept v w e k a.0, all_kept v w es k a.1)

  pub makes_stays : (u v w : View Set) (es : List (Entry Set)) → MakesEntries u v es → Stays v w → MakesEntries u w es
  makes_stays u v w es m s = record {
    kept = kept_trans m.kept s.kept;
    each = all_kept v w es s.kept m.each;
    distinct = m.distinct;
    fresh = m.fresh;
    only = λ a h. m.only a (s.only a h);
  }

  -- one entry more, in the middle
  module _ (u v w : View Set) (xs ys : List (Entry Set)) (c : Entry Set) (m : MakesEntries u v (xs ++ ys)) (k : Kept v w)
      (n : IsNewEntry v w c) (ok : EntryOk w c) where
    not_old : (zs : List (Entry Set)) → ((a : Set) → SetIn zs a → SetIn (xs ++ ys) a) → (a : Set) → SetIn zs a → HasSet c a → ⊥
    not_old zs sub a h has = valid_clash (in_valid v (xs ++ ys) a m.each (sub a h)) (n.fresh a has)

    fresh_u : (a : Set) → HasSet c a → IsFalse (u.valid a)
    fresh_u a has = by (u.valid a) refl
      where
        by : (b : _) → u.valid a ≡ b → IsFalse b
        by true e = absurd (valid_clash (m.kept.valid a e) (n.fresh a has))
        by false e = refl

    alone : AreDistinct (c ∷ [])
    alone = ((λ a has x. x), tt)

    one_more : (zs : List (Entry Set)) → ((a : Set) → SetIn zs a ↔ (SetIn (xs ++ ys) a ⊎ HasSet c a)) → AreDistinct zs
        → AllByRecursion (EntryOk w) zs → MakesEntries u w zs
    one_more zs one d all = record {
      kept = kept_trans m.kept k;
      each = all;
      distinct = d;
      fresh = λ a h. elim ((one a).0 h) [ inl o ↦ m.fresh a o | inr has ↦ fresh_u a has ];
      only = λ a h. elim (n.only a h) [
        | inl o ↦ elim (m.only a o) [ inl i ↦ inl ((one a).1 (inl i)) | inr b ↦ inr b ]
        | inr has ↦ inl ((one a).1 (inr has))
      ];
    }

    pub makes_first : MakesEntries u w ((xs ++ c ∷ []) ++ ys)
    makes_first =
        let d = distinct_split xs ys m.distinct in
        let a = all_split (EntryOk v) xs ys m.each in
        one_more ((xs ++ c ∷ []) ++ ys)
        (λ a. (
          (λ h. elim ((in_append (xs ++ c ∷ []) ys a).0 h) [
            | inl p ↦ elim ((in_append xs (c ∷ []) a).0 p) [ inl q ↦ inl ((in_append xs ys a).1 (inl q)) | inr e ↦ elim e [ inl s ↦ inr s | inr x ↦ absurd x ] ]
            | inr q ↦ inl ((in_append xs ys a).1 (inr q))
          ]),
          (λ h. elim h [
            | inl p ↦ elim ((in_append xs ys a).0 p) [
              | inl q ↦ (in_append (xs ++ c ∷ []) ys a).1
                  (inl ((in_append xs (c ∷ []) a).1 (inl q)))
              | inr q ↦ (in_append (xs ++ c ∷ []) ys a).1 (inr q)
            ]
            | inr e ↦ (in_append (xs ++ c ∷ []) ys a).1 (inl ((in_append xs (c ∷ []) a).1 (inr (inl e))))
          ]),
        ))
        (distinct_join (xs ++ c ∷ []) ys
        (distinct_join xs (c ∷ []) d.0 alone (λ a h e. elim e [ inl has ↦ not_old xs (λ z q. (in_append xs ys z).1 (inl q)) a h has | inr x ↦ x ]))
        d.1
        (λ a h q. elim ((in_append xs (c ∷ []) a).0 h) [
          | inl p ↦ d.2 a p q
          | inr e ↦ elim e
              [ inl has ↦ not_old ys (λ z r. (in_append xs ys z).1 (inr r)) a q has | inr x ↦ x ]
        ]))
        (all_join (EntryOk w) (xs ++ c ∷ []) ys (all_join (EntryOk w) xs (c ∷ []) (all_kept v w xs k a.0) (ok, tt)) (all_kept v w ys k a.1))

    pub makes_last : MakesEntries u w (xs ++ (ys ++ c ∷ []))
    makes_last =
        let d = distinct_split xs ys m.distinct in
        let a = all_split (EntryOk v) xs ys m.each in
        one_more (xs ++ (ys ++ c ∷ []))
        (λ a. (
          (λ h. elim ((in_append xs (ys ++ c ∷ []) a).0 h) [
            | inl q ↦ inl ((in_append xs ys a).1 (inl q))
            | inr p ↦ elim ((in_append ys (c ∷ []) a).0 p) [ inl q ↦ inl ((in_append xs ys a).1 (inr q)) | inr e ↦ elim e [ inl s ↦ inr s | inr x ↦ absurd x ] ]
          ]),
          (λ h. elim h [
            | inl p ↦ elim ((in_append xs ys a).0 p) [
              | inl q ↦ (in_append xs (ys ++ c ∷ []) a).1 (inl q)
              | inr
                  q ↦ (in_append xs (ys ++ c ∷ []) a).1 (inr ((in_append ys (c ∷ []) a).1 (inl q)))
            ]
            | inr e ↦ (in_append xs (ys ++ c ∷ []) a).1 (inr ((in_append ys (c ∷ []) a).1 (inr (inl e))))
          ]),
        ))
        (distinct_join xs (ys ++ c ∷ []) d.0
        (distinct_join ys (c ∷ []) d.1 alone (λ a h e. elim e [ inl has ↦ not_old ys (λ z q. (in_append xs ys z).1 (inr q)) a h has | inr x ↦ x ]))
        (λ a h q. elim ((in_append ys (c ∷ []) a).0 q) [
          | inl p ↦ d.2 a h p
          | inr e ↦ elim e
              [ inl has ↦ not_old xs (λ z r. (in_append xs ys z).1 (inl r)) a h has | inr x ↦ x ]
        ]))
        (all_join (EntryOk w) xs (ys ++ c ∷ []) (all_kept v w xs k a.0) (all_join (EntryOk w) ys (c ∷ []) (all_kept v w ys k a.1) (ok, tt)))

  -- what was made is given back
  pub made_back : (u v w : View Set) (es : List (Entry Set)) → MakesEntries u v es → Trades v w (SetIn es) (λ a. ⊥) → Stays u w
  made_back u v w es m t = record {
    kept = record {
      system = t.system ∙ m.kept.system;
      valid = λ a h. t.others a (m.kept.valid a h) (λ i. valid_clash h (m.fresh a i));
      same = λ a h s. t.same a (m.kept.valid a h) (λ i. valid_clash h (m.fresh a i)) s ∙ m.kept.same a h s;
    };
    only = λ a h. elim (t.only a h) [
      | inl x ↦ absurd x
      | inr o ↦ elim (m.only a o) [ inl i ↦ absurd (t.given a i h) | inr b ↦ b ]
    ];
  }

  -- the entry taken gives way to what was made
  module _ (u v w : View Set) (others es : List (Entry Set)) (e : Entry Set)
      (all : AllByRecursion (EntryOk u) (others ++ e ∷ [])) (d : AreDistinct (others ++ e ∷ [])) (m : MakesEntries u v es)
      (f : GivesBack v w e) where
    not_taken : (a : Set) → SetIn others a → ¬ HasSet e a
    not_taken a h has = (distinct_split others (e ∷ []) d).2 a h (inl has)

    taken_valid : (a : Set) → HasSet e a → Valid u a
    taken_valid a has = in_valid u (others ++ e ∷ []) a all ((in_append others (e ∷ []) a).1 (inr (inl has)))

    not_made : (a : Set) → SetIn es a → ¬ HasSet e a
    not_made a h has = valid_clash (taken_valid a has) (m.fresh a h)

    others_valid : (a : Set) → SetIn others a → Valid u a
    others_valid a h = in_valid u (others ++ e ∷ []) a all ((in_append others (e ∷ []) a).1 (inl h))

    pub left_valid : (a : Set) → Valid w a → Valid v a
    left_valid a h = elim (f.only a h) [ inl x ↦ absurd x | inr o ↦ o ]

    pub put_trades : Trades u w (SetIn (others ++ e ∷ [])) (SetIn (others ++ es))
    put_trades = record {
      system = f.system ∙ m.kept.system;
      owned = λ a h. elim ((in_append others es a).0 h) [
        | inl o ↦ f.others a (m.kept.valid a (others_valid a o)) (not_taken a o)
        | inr i ↦ f.others a (in_valid v es a m.each i) (not_made a i)
      ];
      fresh = λ a h n. elim ((in_append others es a).0 h) [
        | inl o ↦ absurd (n ((in_append others (e ∷ []) a).1 (inl o)))
        | inr i ↦ m.fresh a i
      ];
      given = λ a h valid. elim ((in_append others (e ∷ []) a).0 h) [
        | inl o ↦ (in_append others es a).1 (inl o)
        | inr i ↦ elim i [ inl has ↦ absurd (f.given a has valid) | inr x ↦ absurd x ]
      ];
      others = λ a h n. f.others a (m.kept.valid a h) (λ has. n ((in_append others (e ∷ []) a).1 (inr (inl has))));
      only = λ a h. elim (m.only a (left_valid a h)) [ inl i ↦ inl ((in_append others es a).1 (inr i)) | inr o ↦ inr o ];
      same = λ a h n s. f.same a (m.kept.valid a h) (λ has. n ((in_append others (e ∷ []) a).1 (inr (inl has)))) s ∙ m.kept.same a h s;
    }

    pub put_distinct : AreDistinct (others ++ es)
    put_distinct = distinct_join others es (distinct_split others (e ∷ []) d).0 m.distinct (λ a o i. valid_clash (others_valid a o) (m.fresh a i))

    given_same : (xs : List (Entry Set)) → ((a : Set) → SetIn xs a → ¬ HasSet e a) → AllByRecursion (EntryOk v) xs → AllByRecursion (EntryOk w) xs
    given_same xs n ok = all_same v w xs f.system (λ a h. let valid = in_valid v xs a ok h in (f.others a valid (n a h), f.same a valid (n a h))) ok

    pub put_ok : AllByRecursion (EntryOk w) (others ++ es)
    put_ok = all_join (EntryOk w) others es
        (given_same others not_taken (all_kept u v others m.kept (all_split (EntryOk u) others (e ∷ []) all).0))
        (given_same es not_made m.each)

  -- entries given back one after the other
  in_push : (xs : List (Entry Set)) (e : Entry Set) (a : Set) → SetIn (xs ++ e ∷ []) a ↔ (SetIn xs a ⊎ HasSet e a)
  in_push xs e a = (
    (λ h. elim ((in_append xs (e ∷ []) a).0 h) [ inl p ↦ inl p | inr q ↦ elim q [ inl has ↦ inr has | inr x ↦ absurd x ] ]),
    (λ h. (in_append xs (e ∷ []) a).1 (elim h [ inl p ↦ inl p | inr has ↦ inr (inl has) ])),
  )

  pub next_back : {u v : View Set} (es : List (Entry Set)) (i : ℕ) (e : Entry Set) → i < length es → e ≡ get_or es i e
      → AreDistinct es → ((a : Set) → SetIn es a → Valid u a)
      → Trades u v (SetIn (take i es)) (λ a. ⊥) → (a : Set) → HasSet e a → Valid v a
  next_back es i e lt is d ok t a has = t.others a (ok a (in_at es i e lt is has)) (not_before es i e lt is has d)
    where
      in_at : (es : List (Entry Set)) (i : ℕ) (e : Entry Set) → i < length es → e ≡ get_or es i e → HasSet e a → SetIn es a
      in_at [] i e lt is has = absurd (omega (arith, lt))
      in_at (x ∷ es) zero e lt is has = inl (subst (λ (z : Entry Set). HasSet z a) is has)
      in_at (x ∷ es) (suc i) e lt is has = inr (in_at es i e (omega (arith, lt)) is has)

      not_before : (es : List (Entry Set)) (i : ℕ) (e : Entry Set) → i < length es → e ≡ get_or es i e → HasSet e a → AreDistinct es → ¬ SetIn (take i es) a
      not_before [] i e lt is has d = λ h. omega (arith, lt)
      not_before (x ∷ es) zero e lt is has d = λ h. h
      not_before (x ∷ es) (suc i) e lt is has d = λ h. elim h [
        | inl one ↦ d.0 a one (in_at es i e (omega (arith, lt)) is has)
        | inr k ↦ not_before es i e (omega (arith, lt)) is has d.1 k
      ]

  pub one_back : (u v w : View Set) (es : List (Entry Set)) (i : ℕ) (e : Entry Set) → i < length es
      → e ≡ get_or es i e → Trades u v (SetIn (take i es)) (λ a. ⊥) → GivesBack v w e
      → Trades u w (SetIn (take (i + 1) es)) (λ a. ⊥)
  one_back u v w es i e lt is t f =
      let more : take (i + 1) es ≡ take i es ++ (e ∷ []) = take_more es i e lt ∙ ap (λ (x : Entry Set). take i es ++ (x ∷ [])) (sym is) in
      let p = in_push (take i es) e in
      rw more (trades_as (trades_both t f) (λ a. ((p a).1, (p a).0)) (λ a. ((λ x. x), (λ x. x))))

  pub all_back : (u v : View Set) (es : List (Entry Set)) (i : ℕ) → length es ≤ i → Trades u v (SetIn (take i es)) (λ a. ⊥) → Trades u v (SetIn es) (λ a. ⊥)
  all_back u v es i le t = subst (λ (xs : List (Entry Set)). Trades u v (SetIn xs) (λ a. ⊥)) (take_all i es le) t

  -- two lists, one after the other
  module _ (u v w : View Set) (xs ys : List (Entry Set)) (d : AreDistinct (xs ++ ys))
      (ok : (a : Set) → SetIn (xs ++ ys) a → Valid u a) (t : Trades u v (SetIn xs) (λ a. ⊥)) where
    pub second_valid : (a : Set) → SetIn ys a → Valid v a
    second_valid a h = t.others a (ok a ((in_append xs ys a).1 (inr h))) (λ x. (distinct_split xs ys d).2 a x h)

    pub two_back : Trades v w (SetIn ys) (λ a. ⊥) → Trades u w (SetIn (xs ++ ys)) (λ a. ⊥)
    two_back r = trades_as (trades_both t r) (λ a. ((in_append xs ys a).1, (in_append xs ys a).0)) (λ a. ((λ x. x), (λ x. x)))

  pub new_of : {P : State → Type 0} (v w : View Set) (a : Set) → Gives v w P a → IsNewSet v w a
  new_of v w a g = record { fresh = g.fresh; valid = g.valid; only = g.only }

  pub new_stays : (v w x : View Set) (a : Set) → IsNewSet v w a → Stays w x → IsNewSet v x a
  new_stays v w x a n s = record { fresh = n.fresh; valid = s.kept.valid a n.valid; only = λ b h. n.only b (s.only b h) }

  pub new_back : (v w x : View Set) (a : Set) → Kept v w → IsNewSet v w a → Forgot w x a → Stays v x
  new_back v w x a k n f = given_back k (record { fresh = n.fresh; valid = n.valid; only = n.only; means = λ s. ((λ h. h), (λ h. h)) }) f

  -- a prefix with a new set, and a suffix, which has none
  pub new_before : (v w : View Set) (e : Prefix Set) → IsNewSet v w e.set → IsNewEntry v w (Before e)
  new_before v w e n = record { fresh = λ a h. subst (λ (x : Set). IsFalse (v.valid x)) (sym h) n.fresh; only = n.only }

  pub new_after : (v : View Set) (e : Suffix) → IsNewEntry v v (After e)
  new_after v e = record { fresh = λ a h. absurd h; only = λ a h. inl h }

  pub new_partial : (v w : View Set) (e : PartialPrefix Set) → IsNewSet v w e.prefix.set → IsNewEntry v w (Partial e)
  new_partial v w e n = record { fresh = λ a h. subst (λ (x : Set). IsFalse (v.valid x)) (sym h) n.fresh; only = n.only }

  -- the one entry that was made is given back
  pub entry_back : (u v w : View Set) (e : Entry Set) → Kept u v → IsNewEntry u v e → EntryOk v e → GivesBack v w e → Stays u w
  entry_back u v w e k n ok f =
      let one : (a : Set) → SetIn (e ∷ []) a ↔ HasSet e a = λ a. ((λ h. elim h [ inl has ↦ has | inr x ↦ absurd x ]), (λ has. inl has)) in
      made_back u v w (e ∷ []) (record {
        kept = k;
        each = (ok, tt);
        distinct = ((λ a has x. x), tt);
        fresh = λ a h. n.fresh a ((one a).0 h);
        only = λ a h. elim (n.only a h) [ inl o ↦ inr o | inr has ↦ inl (inl has) ];
      }) (trades_as f (λ a. ((one a).1, (one a).0)) (λ a. ((λ x. x), (λ x. x))))

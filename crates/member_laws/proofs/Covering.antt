-- What turns do to what covers.
use Rattle.std.proofs.Common.{◌≡◌, ℕ, ◌+◌, ◌<◌, Bool, true, false, ◌⊎◌, inl, inr, List, [], ◌∷◌, ◌++◌, refl, sym, subst, arith}
use Rattle.std.specs.List.{sum_by}
use Rattle.std.proofs.lemmas.List.Sums.{sum_by-cons}
use Rattle.symk_task.specs.declared.parts.Mode.TheVariants.{TopK}
use Rattle.task_system.specs.System.{System, Listed, are_equal}
use Rattle.lazy_plans.proofs.Rearranged.{in_left, in_right}
use Rattle.lazy_plans.proofs.Told.{equal_is, equal_self}
use Rattle.lazy_plans.specs.Queue.{ind, Hopeless, Replaced}
use Rattle.lazy_plans.proofs.Traces.{runs_join}
use Rattle.stubborn_sets.specs.Stubborn.{IsApplicable}
use Rattle.member_laws.specs.Nodes.{JoinsAtNode, IsJoinedAtNode, MetOrNone, IsClosedPrefix, CoversOpened}
use Rattle.member_laws.specs.Opening.{Opening}
use Rattle.member_laws.proofs.Joining.{joins_self, joins_trans, joined_lost}

-- Members of a list, counted.

known : (b : Bool) → (b ≡ true) ⊎ (b ≡ false)
known true = inl refl
known false = inr refl

abbrev times : List ℕ → List (List ℕ) → ℕ
times x es = sum_by (λ z. ind (are_equal z x)) es

listed_some : (x : List ℕ) (es : List (List ℕ)) → Listed es x → 0 < times x es
listed_some x [] l = absurd l
listed_some x (z ∷ es) (inl i) =
    let one : ind (are_equal z x) ≡ 1 = rw (subst (λ (w : List ℕ). are_equal w x ≡ true) (sym i) (equal_self x)) refl in
    omega (arith, sum_by-cons (λ z. ind (are_equal z x)) z es, one)
listed_some x (z ∷ es) (inr l) = omega (arith, sum_by-cons (λ z. ind (are_equal z x)) z es, listed_some x es l)

some_listed : (x : List ℕ) (es : List (List ℕ)) → 0 < times x es → Listed es x
some_listed x [] h = absurd (omega arith)
some_listed x (z ∷ es) h = elim (known (are_equal z x)) [
  | inl on ↦ inl (equal_is z x on)
  | inr off ↦ inr (some_listed x es (let none : ind (are_equal z x) ≡ 0 = rw off refl in omega (arith, h, sum_by-cons (λ z. ind (are_equal z x)) z es, none)))
]

-- e goes and its children come
module _ (old kids new : List (List ℕ)) (e : List ℕ) (taken : Replaced old kids e new) where
  stands : (x : List ℕ) → 0 < times x old + times x kids → Listed new x ⊎ (e ≡ x)
  stands x some = elim (known (are_equal e x)) [
    | inl on ↦ inr (equal_is e x on)
    | inr off ↦ inl (some_listed x new (let none : ind (are_equal e x) ≡ 0 = rw off refl in omega (arith, some, none, taken (λ z. ind (are_equal z x)))))
  ]

  -- each other entry stays
  pub old_stays : (x : List ℕ) → Listed old x → Listed new x ⊎ (e ≡ x)
  old_stays x l = stands x (omega (arith, listed_some x old l))

  -- each child comes
  pub child_comes : (x : List ℕ) → Listed kids x → Listed new x ⊎ (e ≡ x)
  child_comes x l = stands x (omega (arith, listed_some x kids l))

-- each entry stays where e is put back
put_back : (old new : List (List ℕ)) (e x : List ℕ) → Replaced old (e ∷ []) e new → Listed old x → Listed new x
put_back old new e x taken l =
    some_listed x new (omega (
      arith,
      listed_some x old l,
      taken (λ z. ind (are_equal z x)),
      sum_by-cons
          (λ z. ind (are_equal z x)) e [],
    ))

pub listed_cases : (xs : List (List ℕ)) (e x : List ℕ) → Listed (xs ++ e ∷ []) x → Listed xs x ⊎ (e ≡ x)
listed_cases [] e x (inl i) = inr i
listed_cases [] e x (inr l) = absurd l
listed_cases (z ∷ xs) e x (inl i) = inl (inl i)
listed_cases (z ∷ xs) e x (inr l) = elim (listed_cases xs e x l) [ inl k ↦ inl (inr k) | inr i ↦ inr i ]

pub listed_last : (xs : List (List ℕ)) (e : List ℕ) → Listed (xs ++ e ∷ []) e
listed_last xs e = in_right xs (e ∷ []) e (inl refl)

-- What was met still is, where what an entry joined is met.
module _ (y : System) (opened later old new : List (List ℕ)) (more : (x : List ℕ) → Listed opened x → Listed later x)
    (on : (x : List ℕ) → IsJoinedAtNode y old x → MetOrNone y later new x) where
  met_on : (x : List ℕ) → MetOrNone y opened old x → MetOrNone y later new x
  met_on x (inl (inl j)) = inl (inl (j.0, more j.0 j.1, j.2))
  met_on x (inl (inr j)) = on x j
  met_on x (inr lost) = inr lost

  closed_on : (e : List ℕ) → IsClosedPrefix y opened old e → IsClosedPrefix y later new e
  closed_on e c = record {
    end = c.end;
    runs = c.runs;
    set = c.set;
    stubborn = c.stubborn;
    steps = λ op inside applies. met_on (e ++ op ∷ []) (c.steps op inside applies);
  }

covers_on : (y : System) (opened old new : List (List ℕ)) → ((x : List ℕ) → IsJoinedAtNode y old x → MetOrNone y opened new
    x) → CoversOpened y opened old → CoversOpened y opened new
covers_on y opened old new on c = record {
  root = met_on y opened opened old new (λ x l. l) on [] c.root;
  each = λ e l. closed_on y opened opened old new (λ x k. k) on e (c.each e l);
}

module _ (y : System) (e : List ℕ) (opened old new : List (List ℕ)) (covers : CoversOpened y opened old) where
  -- e is left out, and what joins it is met, or no plan goes on from it
  left_out : Replaced old [] e new → ((x : List ℕ) → JoinsAtNode y x e → MetOrNone y opened new x) → CoversOpened y opened new
  left_out taken instead = covers_on y opened old new (λ x j. elim (old_stays old [] new e taken j.0 j.1) [
    | inl l ↦ inl (inr (j.0, l, j.2))
    | inr is ↦ instead x (subst (JoinsAtNode y x) (sym is) j.2)
  ]) covers

  -- it joins one that was opened
  pub joined_goes : IsJoinedAtNode y opened e → Replaced old [] e new → CoversOpened y opened new
  joined_goes (o, l, k) taken = left_out taken (λ x j. inl (inl (o, l, joins_trans y x e o j k)))

  -- no plan goes on from it
  pub hopeless_goes : Hopeless y TopK e → Replaced old [] e new → CoversOpened y opened new
  hopeless_goes lost taken = left_out taken (λ x j. inr (joined_lost y x e j lost))

  -- it is put back, told better
  pub comes_back : Replaced old (e ∷ []) e new → CoversOpened y opened new
  comes_back taken = covers_on y opened old new (λ x j. inl (inr (j.0, put_back old new e j.0 taken j.1, j.2))) covers

-- e is opened
module _ (y : System) (e : List ℕ) (opened old kids new : List (List ℕ)) (covers : CoversOpened y opened old)
    (opening : Opening y opened old kids e) (taken : Replaced old kids e new) where
  abbrev later : List (List ℕ)
  later = opened ++ e ∷ []

  on_left : (x : List ℕ) → Listed opened x → Listed later x
  on_left x l = in_left opened (e ∷ []) x l

  entry_on : (x : List ℕ) → IsJoinedAtNode y old x → MetOrNone y later new x
  entry_on x j = elim (old_stays old kids new e taken j.0 j.1) [
    | inl l ↦ inl (inr (j.0, l, j.2))
    | inr is ↦ inl (inl (e, listed_last opened e, subst (JoinsAtNode y x) (sym is) j.2))
  ]

  child_on : (op : ℕ) → IsApplicable y op opening.end → Listed kids (e ++ op ∷ []) → MetOrNone y later new (e ++ op ∷ [])
  child_on op (t, lead) l =
      let self : JoinsAtNode y (e ++ op ∷ []) (e ++ op ∷ []) = joins_self y (e ++ op ∷ []) t
      (runs_join y e (op ∷ []) y.initial opening.end t opening.runs (t, lead, refl)) in
      elim (child_comes old kids new e taken (e ++ op ∷ []) l) [
        | inl k ↦ inl (inr (e ++ op ∷ [], k, self))
        | inr is ↦ inl (inl (e, listed_last opened e, subst (JoinsAtNode y (e ++ op ∷ [])) (sym is) self))
      ]

  is_closed : IsClosedPrefix y later new e
  is_closed = record {
    end = opening.end;
    runs = opening.runs;
    set = opening.set;
    stubborn = opening.stubborn;
    steps = λ op inside applies. elim (opening.reached op applies.1.number inside applies) [
      | inl l ↦ child_on op applies l
      | inr m ↦ met_on y opened later old new on_left entry_on (e ++ op ∷ []) m
    ];
  }

  pub opening_covers : CoversOpened y later new
  opening_covers = record {
    root = met_on y opened later old new on_left entry_on [] covers.root;
    each = λ o l. elim (listed_cases opened e o l) [
      | inl k ↦ closed_on y opened later old new on_left entry_on o (covers.each o k)
      | inr is ↦ subst (IsClosedPrefix y later new) is is_closed
    ];
  }

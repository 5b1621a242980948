-- What an answer of an engine without end does to what pends.
use Rattle.std.proofs.Common.{◌≡◌, ◌≢◌, ℕ, ◌+◌, ◌<◌, ◌^◌, Bool, true, false, inl, inr, List, [], ◌∷◌, ◌++◌, length, get_or, drop, slice_index_or, Option, Some, None, Result, Ok, Err, refl, sym, ◌∙◌, ap, subst, arith, All}
use Rattle.std.specs.List.{Contains}
use Rattle.std.proofs.lemmas.List.{drop_more}
use Rattle.std.proofs.lemmas.List.Quantifiers.{Any-push}
use Rattle.symk_task.specs.declared.parts.Mode.TheVariants.{TopK, Unordered}
use Rattle.symk_task.specs.Plans.{Same}
use Rattle.task_system.specs.System.{IsSystemPlan, same}
use Rattle.task_system.proofs.SameLaw.{same_law}
use Rattle.lazy_plans.specs.Law.{Gave, Turned, last_of}
use Rattle.lazy_plans.specs.declared.stop.Stop.{Stop}
use Rattle.lazy_plans.specs.declared.stop.Stop.TheVariants.{Memory, CostRange}
use Rattle.lazy_plans.proofs.ListLaw.{any_none, any_head, any_tail, any_cases, any_left, push_cases}
use Rattle.lazy_plans.proofs.Keyed.{same_self, key_by_listed}
use Rattle.selectors.specs.Members.{HasEachClass, GaveMember, TurnedMembers}
use Rattle.selectors.proofs.Sifting.{off, apart}
use Rattle.selectors.proofs.Keeping.{own_member}
use Rattle.scripted_plans.specs.Free.{free}
use Rattle.scripted_plans.specs.Scripted.{costs_free, runs_free}
use Rattle.scripted_plans.specs.Untold.{Untold, Unmet, TookFirst, AnswersByScript, last_by}

untold_fewer : (given : List (List ℕ)) (p q : List ℕ) → Untold (given ++ p ∷ []) q → Untold given q × (q ≢ p)
untold_fewer given p q h = (((λ m. h.0 (any_left (Same TopK q) given p m)), h.1), (λ e. h.0 (Any-push (Same TopK q) given p e)))

untold_others : (given : List (List ℕ)) (p q : List ℕ) → Untold given q → q ≢ p → Untold (given ++ p ∷ []) q
untold_others given p q h n = ((λ m. elim (push_cases (Same TopK q) given p m) [ inl a ↦ h.0 a | inr e ↦ n e ]), h.1)

gave_untold : (left later given more : List (List ℕ)) (p : List ℕ) → TookFirst left later given more p → Gave free TopK None (Untold given) (Untold more) p
gave_untold left later given more p took = rw took.noted (record {
  pended = (took.fresh, took.plan);
  fits = omega (arith, costs_free p);
  least = λ q h. omega (arith, costs_free p);
  rest = λ q. (
    (λ h. let k = untold_fewer given p q h in (k.0, off (same TopK q p) (same_law TopK q p) k.1)),
    (λ h. untold_others given p q h.0 (apart (same TopK q p) (same_law TopK q p) h.1)),
  );
})

gave_unmet : (left later given more : List (List ℕ)) (p : List ℕ) → TookFirst left later given more p
    → GaveMember free None (Unmet given left) (Unmet more later) p
gave_unmet left later given more p took = rw (took.noted, took.first) (record {
  pended = ((took.fresh, took.plan), inr (any_head (Same TopK p) p later refl));
  fits = omega (arith, costs_free p);
  least = λ q h. omega (arith, costs_free p);
  fewer = λ q h.
      let k = untold_fewer given p q h.0 in
      ((k.0, elim h.1 [ inl n ↦ inl (λ m. n (any_left (Same Unordered q) given p m)) | inr t ↦ inr (any_tail (Same TopK q) p later t) ]), k.1);
  members = λ q h n.
      let other : q ≢ p = (λ e. n (subst (λ (z : List ℕ). Same Unordered z p) (sym e) (same_self Unordered p))) in
      own_member (Unmet (given ++ p ∷ []) later) q (
        untold_others given p q h.0 other,
        elim h.1 [
          | inl fresh ↦ inl (λ m. elim (push_cases (Same Unordered q) given p m) [ inl a ↦ fresh a | inr s ↦ n s ])
          | inr t ↦ inr (elim (any_cases (Same TopK q) p later t) [ inl e ↦ absurd (other e) | inr a ↦ a ])
        ],
      );
})

pub turned_untold : (left later given more : List (List ℕ)) (before after : Bool) (r : Result (Option (List ℕ)) Stop)
    → AnswersByScript left later given more before after r → Turned free TopK None (Untold given) (Untold more) r
turned_untold left later given more before after (Ok (Some p)) h = gave_untold left later given more p h.0
turned_untold left later given more before after (Ok None) h = absurd h
turned_untold left later given more before after (Err Memory) h = rw h.1 (tt, λ q. ((λ k. k), (λ k. k)))
turned_untold left later given more before after (Err CostRange) h = absurd h

pub turned_unmet : (left later given more : List (List ℕ)) (before after : Bool) (r : Result (Option (List ℕ)) Stop)
    → AnswersByScript left later given more before after r
    → TurnedMembers free None (Unmet given left) (Unmet more later) r
turned_unmet left later given more before after (Ok (Some p)) h = gave_unmet left later given more p h.0
turned_unmet left later given more before after (Ok None) h = absurd h
turned_unmet left later given more before after (Err Memory) h = rw (h.1, h.0) (tt, record { fewer = λ q k. k; members = λ q k. own_member (Unmet given left) q k })
turned_unmet left later given more before after (Err CostRange) h = absurd h

-- the answer that ended it is the last one
pub last_is : (left later given more : List (List ℕ)) (before after : Bool) (r : Result (Option (List ℕ)) Stop)
    → AnswersByScript left later given more before after r → last_by after ≡ last_of r
last_is left later given more before after (Ok (Some p)) h = rw h.2 refl
last_is left later given more before after (Ok None) h = absurd h
last_is left later given more before after (Err Memory) h = rw h.2 refl
last_is left later given more before after (Err CostRange) h = absurd h

pub last_stays : (left later given more : List (List ℕ)) (before after : Bool) (r : Result (Option (List ℕ)) Stop)
    → AnswersByScript left later given more before after r → last_by before ≢ None → last_by after ≡ last_by before
last_stays left later given more before after (Ok (Some p)) h n = absurd (n (rw h.1 refl))
last_stays left later given more before after (Ok None) h n = absurd h
last_stays left later given more true after (Err Memory) h n = rw h.2 refl
last_stays left later given more false after (Err Memory) h n = absurd (n refl)
last_stays left later given more before after (Err CostRange) h n = absurd h

-- the next of those told is given where it is new
pub took_next : (plans : List (List ℕ)) {given more : List (List ℕ)} (next : ℕ) {p key : List ℕ} (d : List ℕ)
    → next < length plans → p ≡ get_or plans next d → All (λ a. a < 2 ^ 32) p → key ≡ p → ¬ Contains given key
    → more ≡ given ++ key ∷ [] → TookFirst (drop next plans) (drop (next + 1) plans) given more p
took_next plans {given} {more} next {p} {key} d within is fits same fresh noted = record {
  first = drop_more plans next d within ∙ ap (λ (z : List ℕ). z ∷ drop (next + 1) plans) (sym is);
  plan = ([], runs_free p fits, refl);
  fresh = λ m. fresh (key_by_listed TopK given p key (λ k d lt. (slice_index_or given k d, refl)) (sym same) m);
  noted = noted ∙ ap (λ (z : List ℕ). given ++ z ∷ []) same;
}

-- at first each plan pends
pub untold_first : (p : List ℕ) → IsSystemPlan free p → Untold [] p
untold_first p plan = (any_none (Same TopK p), plan)

pub unmet_first : (left : List (List ℕ)) → HasEachClass free (Unmet [] left)
unmet_first left p plan = own_member (Unmet [] left) p (untold_first p plan, inl (any_none (Same Unordered p)))

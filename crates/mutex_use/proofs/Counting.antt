-- How the states are counted where facts hold, fact by fact.
use Rattle.std.proofs.Common.{◌≡◌, ◌≢◌, ℕ, ◌+◌, ◌<◌, ◌⊎◌, ◌↔◌, inl, inr, List, length, get_or, take, refl, sym, ◌∙◌, subst, arith}
use Rattle.std.specs.List.{Contains, All, AllPairs}
use Rattle.std.proofs.lemmas.List.Elements.{All-contains, Contains-get_or}
use Rattle.std.proofs.lemmas.List.{get_or-take, get_or_default, length-take}
use Rattle.symk_task.specs.declared.parts.Fact.{Fact}
use Rattle.symk_task.specs.declared.parts.TaskParts.{TaskParts}
use Rattle.symk_task.specs.Steps.{Holds}
use Rattle.task_system.specs.System.{State}
use Rattle.space_api.specs.View.{View, Valid, Has, FactIn, IsEmpty}
use Rattle.space_api.specs.Frames.{Kept, Gives, Forgot}
use Rattle.space_api.specs.Owned.{Trades}
use Rattle.space_api.proofs.Trading.{valid_clash, kept_made, trades_trans, trades_beside, trades_forgot, trades_as, gives_made}
use Rattle.mutex_use.specs.declared.counts.Counts.{Counts}
use Rattle.mutex_use.specs.Counts.{IsEachOnce, HasOne, HasTwo, IsOfCounts, IsNewPair, CountsFacts, CountsMore}
use Rattle.mutex_use.proofs.Lists.{more, none}

-- a new set is none that was valid
pub new_apart : {Set : Type 0} (u v : View Set) (n : Counts Set) (a b : Set) → IsNewPair u v n → Valid u a → IsOfCounts n b → b ≢ a
new_apart u v n a b pair valid is e = valid_clash (subst (λ (z : _). Valid u z) (sym e) valid) (pair.trades.fresh b is (λ z. z))

-- the set of what is counted more was made, and is given back
module _ {Set : Type 0} (u v w x : View Set) (c n : Counts Set) (here : Set) {P : State → Type 0} (k : Kept u v)
    (g : Gives u v P here) (vo : Valid u c.once) (vt : Valid u c.twice)
    (pair : IsNewPair v w n) (m : CountsMore v w c (Has v here) n) (f : Forgot w x here) where
  same_of : (b : Set) → IsOfCounts n b → (s : State) → x.has b s ≡ w.has b s
  same_of b is s = f.same b (f.valid b (pair.trades.owned b is) (new_apart v w n here b pair g.valid is)) s

  pub counts_moved : CountsMore u x c P n
  counts_moved = record {
    apart = m.apart;
    once = λ s. (
      (λ h. elim ((m.once s).0 (sym (same_of n.once (inl refl) s) ∙ h)) [ inl a ↦ inl (sym (k.same c.once vo s) ∙ a) | inr b ↦ inr ((g.means s).0 b) ]),
      (λ h. same_of n.once (inl refl) s ∙ (m.once s).1 (elim h [ inl a ↦ inl (k.same c.once vo s ∙ a) | inr p ↦ inr ((g.means s).1 p) ])),
    );
    twice = λ s. (
      (λ h. elim ((m.twice s).0 (sym (same_of n.twice (inr refl) s) ∙ h)) [
        | inl a ↦ inl (sym (k.same c.twice vt s) ∙ a)
        | inr b ↦ inr
            (sym (k.same c.once vo s) ∙ b.0, (g.means s).0 b.1)
      ]),
      (λ h. same_of n.twice (inr refl) s ∙ (m.twice s).1 (elim h
          [ inl a ↦ inl (k.same c.twice vt s ∙ a) | inr p ↦ inr (k.same c.once vo s ∙ p.0, (g.means s).1 p.1) ])),
    );
  }

-- the old sets are given back
module _ {Set : Type 0} (u v w x : View Set) (c n : Counts Set) {P : State → Type 0} (vo : Valid u c.once) (vt : Valid u c.twice)
    (pair : IsNewPair u v n) (m : CountsMore u v c P n) (f : Forgot v w c.once) (h : Forgot w x c.twice) where
  same_after : (b : Set) → IsOfCounts n b → (s : State) → x.has b s ≡ v.has b s
  same_after b is s =
      let vw = f.valid b (pair.trades.owned b is) (new_apart u v n c.once b pair vo is) in
      h.same b (h.valid b vw (new_apart u v n c.twice b pair vt is)) s ∙ f.same b vw s

  pub counts_after : CountsMore u x c P n
  counts_after = record {
    apart = m.apart;
    once = λ s. ((λ a. (m.once s).0 (sym (same_after n.once (inl refl) s) ∙ a)), (λ a. same_after n.once (inl refl) s ∙ (m.once s).1 a));
    twice = λ s. ((λ a. (m.twice s).0 (sym (same_after n.twice (inr refl) s) ∙ a)), (λ a. same_after n.twice (inr refl) s ∙ (m.twice s).1 a));
  }

-- where one of the facts holds, and where two do, one fact more
one_more : (task : TaskParts) (facts : List Fact) (i : ℕ) (f : Fact) (s : State) → i < length facts → get_or facts i f ≡ f
    → HasOne task (take (i + 1) facts) s ↔ (HasOne task (take i facts) s ⊎ Holds task s f)
one_more task facts i f s lt is = (
  (λ h. elim ((more facts i f h.0 lt is).0 h.1) [ inl a ↦ inl (h.0, a, h.2) | inr e ↦ inr (subst (Holds task s) (sym e) h.2) ]),
  (λ h. elim h [ inl a ↦ (a.0, (more facts i f a.0 lt is).1 (inl a.1), a.2) | inr b ↦ (f, (more facts i f f lt is).1 (inr refl), b) ]),
)

-- a fact of a list of different ones is none of those before it
fresh_at : (facts : List Fact) (i : ℕ) (f g : Fact) → AllPairs ◌≢◌ facts → i < length facts → get_or facts i f ≡ f → Contains (take i facts) g → g ≢ f
fresh_at facts i f g apart lt is has e = apart k i f le lt (get_or_default facts k f g below ∙ sym (get_or-take i facts k g le) ∙ has.2 ∙ e ∙ sym is)
  where
    k : ℕ
    k = has.0

    le : k < i
    le = omega (arith, has.1, length-take i facts)

    below : k < length facts
    below = omega (arith, le, lt)

two_more : (task : TaskParts) (facts : List Fact) (i : ℕ) (f : Fact) (s : State) → AllPairs ◌≢◌ facts → i < length facts → get_or facts i f ≡ f
    → HasTwo task (take (i + 1) facts) s ↔ (HasTwo task (take i facts) s ⊎ (HasOne task (take i facts) s × Holds task s f))
two_more task facts i f s apart lt is = (there, back)
  where
    there : HasTwo task (take (i + 1) facts) s → HasTwo task (take i facts) s ⊎ (HasOne task (take i facts) s × Holds task s f)
    there (a, b, ca, cb, ne, ha, hb) = elim ((more facts i f a lt is).0 ca) [
      | inl ka ↦ elim ((more facts i f b lt is).0 cb) [
        | inl kb ↦ inl (a, b, ka, kb, ne, ha, hb)
        | inr eb ↦ inr ((a, ka, ha), subst (Holds task s) (sym eb) hb)
      ]
      | inr ea ↦ elim ((more facts i f b lt is).0 cb) [
        | inl kb ↦ inr ((b, kb, hb), subst (Holds task s) (sym ea) ha)
        | inr eb ↦ absurd (ne (sym ea ∙ eb))
      ]
    ]

    back : HasTwo task (take i facts) s ⊎ (HasOne task (take i facts) s × Holds task s f) → HasTwo task (take (i + 1) facts) s
    back (inl (a, b, ca, cb, ne, ha, hb)) = (a, b, (more facts i f a lt is).1 (inl ca), (more facts i f b lt is).1 (inl cb), ne, ha, hb)
    back (inr ((a, ca, ha), hf)) = (
      a,
      f,
      (more facts i f a lt is).1 (inl ca),
      (more facts i f f lt is).1 (inr refl),
      fresh_at facts i f a apart lt is ca,
      ha,
      hf,
    )

-- no fact is looked at yet
pub counted_start : {Set : Type 0} (u w : View Set) (within : Set) (facts : List Fact) (c : Counts Set)
    → IsNewPair u w c → IsEmpty w c.once → IsEmpty w c.twice → CountsFacts u w within (take 0 facts) c
counted_start u w within facts c pair no_once no_twice = record {
  pair = pair;
  once = λ s. ((λ h. absurd (valid_clash h (no_once s))), (λ h. absurd (none facts h.1.0 h.1.1)));
  twice = λ s. ((λ h. absurd (valid_clash h (no_twice s))), (λ h. absurd (none facts h.1.0 h.1.2)));
}

-- one fact more is looked at
module _ {Set : Type 0} (u w x : View Set) (within : Set) (facts : List Fact) (i : ℕ) (f : Fact) (c n : Counts Set) (valid : Valid u within)
    (apart : AllPairs ◌≢◌ facts) (lt : i < length facts) (is : get_or facts i f ≡ f) (task : w.task ≡ u.task)
    (k : CountsFacts u w within (take i facts) c) (t : Trades w x (IsOfCounts c) (IsOfCounts n)) (m : CountsMore w x c (FactIn w f within) n) where
  fact_in : (s : State) → FactIn w f within s ↔ (Has u within s × Holds u.task s f)
  fact_in s =
      let same = (kept_made k.pair.trades).same within valid s in (
        (λ h. (sym same ∙ h.0, subst (λ (z : TaskParts). Holds z s f) task h.1)),
        (λ h. (same ∙ h.0, subst (λ (z : TaskParts). Holds z s f) (sym task) h.1)),
      )

  once_next : (s : State) → Has x n.once s ↔ (Has u within s × HasOne u.task (take (i + 1) facts) s)
  once_next s = (
    (λ h. elim ((m.once s).0 h) [
      | inl a ↦ (let b = (k.once s).0 a in (b.0, (one_more u.task facts i f s lt is).1 (inl b.1)))
      | inr a ↦ (let b = (fact_in s).0 a in (b.0, (one_more u.task facts i f s lt is).1 (inr b.1)))
    ]),
    (λ h. (m.once s).1 (elim ((one_more u.task facts i f s lt is).0 h.1) [
      | inl a ↦ inl ((k.once s).1 (h.0, a))
      | inr a ↦ inr ((fact_in s).1 (h.0, a))
    ])),
  )

  twice_next : (s : State) → Has x n.twice s ↔ (Has u within s × HasTwo u.task (take (i + 1) facts) s)
  twice_next s = (
    (λ h. elim ((m.twice s).0 h) [
      | inl a ↦ (let b = (k.twice s).0 a in (b.0, (two_more u.task facts i f s apart lt is).1 (inl b.1)))
      | inr a ↦ (let b = (k.once s).0 a.0 in (b.0, (two_more u.task facts i f s apart lt is).1 (inr (b.1, ((fact_in s).0 a.1).1))))
    ]),
    (λ h. (m.twice s).1 (elim ((two_more u.task facts i f s apart lt is).0 h.1) [
      | inl a ↦ inl ((k.twice s).1 (h.0, a))
      | inr a ↦ inr ((k.once s).1 (h.0, a.0), (fact_in s).1 (h.0, a.1))
    ])),
  )

  pub counted_next : CountsFacts u x within (take (i + 1) facts) n
  counted_next = record {
    pair = record { trades = trades_trans k.pair.trades t; apart = m.apart };
    once = once_next;
    twice = twice_next;
  }

-- two of the facts hold where two of the list with each fact once do
two_same : (task : TaskParts) (facts each : List Fact) (s : State) → IsEachOnce facts each → HasTwo task each s ↔ HasTwo task facts s
two_same task facts each s once = (
  (λ (a, b, ca, cb, ne, ha, hb). (a, b, (once.same a).0 ca, (once.same b).0 cb, ne, ha, hb)),
  (λ (a, b, ca, cb, ne, ha, hb). (a, b, (once.same a).1 ca, (once.same b).1 cb, ne, ha, hb)),
)

-- of the two sets the first is given back
module _ {Set : Type 0} (u w x : View Set) (within : Set) (facts each : List Fact) (c : Counts Set)
    (once : IsEachOnce facts each) (k : CountsFacts u w within each c) (f : Forgot w x c.once) where
  twice_valid : Valid w c.twice
  twice_valid = k.pair.trades.owned c.twice (inr refl)

  trade : Trades u x (λ a. ⊥) (λ a. a ≡ c.twice)
  trade =
      let beside = trades_beside (λ (a : Set). a ≡ c.twice) (trades_forgot c.once f)
      (λ a e. (subst (λ (z : Set). Valid w z) (sym e) twice_valid, (λ o. k.pair.apart (sym o ∙ e)))) in
      trades_trans k.pair.trades (trades_as beside (λ a. ((λ h. elim h [ inl y ↦ inr y | inr z ↦ inl z ]), (λ h. elim h [ inl y ↦ inr y | inr z ↦ inl z ])))
      (λ a. ((λ h. elim h [ inl y ↦ y | inr z ↦ absurd z ]), (λ h. inl h))))

  twice_same : (s : State) → x.has c.twice s ≡ w.has c.twice s
  twice_same s = f.same c.twice (f.valid c.twice twice_valid (λ e. k.pair.apart (sym e))) s

  pub twice_kept : Kept u x
  twice_kept = kept_made trade

  pub twice_gives : Gives u x (λ s. Has u within s × HasTwo u.task facts s) c.twice
  twice_gives = gives_made trade (λ s. (
    (λ h. let a = (k.twice s).0 (sym (twice_same s) ∙ h) in (a.0, (two_same u.task facts each s once).0 a.1)),
    (λ h. twice_same s ∙ (k.twice s).1 (h.0, (two_same u.task facts each s once).1 h.1)),
  ))

-- what holds of each fact holds of each of the list with each fact once
pub each_base : (P : Fact → Type 0) (facts each : List Fact) → IsEachOnce facts each → All P facts → All P each
each_base P facts each once all k d lt = All-contains P facts (get_or each k d) all ((once.same (get_or each k d)).0 (Contains-get_or each k d lt))

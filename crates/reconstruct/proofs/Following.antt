-- What follows an entry, as a turn.
use Rattle.std.proofs.Common.{◌≡◌, ℕ, ◌+◌, ◌<◌, ◌↔◌, inl, inr, Bool, true, false, ◌&&◌, eqb, IsTrue, List, [], ◌∷◌, ◌++◌, append-nil, length, Option, Some, None, Result, Ok, Err, OnErr, refl, sym, ◌∙◌, ap, subst, arith}
use Rattle.std.proofs.lemmas.Bool.{eqb-true}
use Rattle.task_system.specs.System.{State, System, RunsInSystem, IsSystemPlan, cost_in_system}
use Rattle.space_api.specs.View.{View}
use Rattle.space_api.proofs.Keeping.{kept_refl}
use Rattle.run_graph.specs.Reached.{ToGoalAt, Useful}
use Rattle.cost_layers.specs.Layers.{Held}
use Rattle.cost_layers.specs.declared.layers.Layers.{Layers}
use Rattle.plan_cuts.specs.Entries.{PlainEntry, BwdIn, zeros, Goes, IsBegun, height, entry_weight, entry_hits, begun_hits}
use Rattle.plan_cuts.specs.Growing.{Gathered}
use Rattle.plan_cuts.proofs.Paths.{both, either, run_one}
use Rattle.plan_cuts.proofs.Assembling.{goes_plain, goes_begun, gives_plain, head_some, tail_some, begins_same, not_begun}
use Rattle.reconstruct.specs.Entries.{as_plain_entry, plains, IsSingle, EntryOk, MakesEntries, member_in, Ready}
use Rattle.reconstruct.specs.Grown.{Expands}
use Rattle.reconstruct.specs.Turned.{IsDone, IsWholePrefix, Begun, BeginsToo, begun_entries, GoesOrGives, given_plan, MakesFollowers}
use Rattle.reconstruct.specs.declared.entries.Prefix.{Prefix}
use Rattle.reconstruct.specs.declared.entries.Suffix.{Suffix}
use Rattle.reconstruct.specs.declared.entries.Entry.{Entry}
use Rattle.reconstruct.specs.declared.entries.Entry.TheVariants.{Before, After, Partial}
use Rattle.reconstruct.proofs.Kept.{plains_append}
use Rattle.reconstruct.proofs.Sets.{makes_last, new_after}

pub err_of : {A : Type 0} {E : Type 0} (r : Result A E) (P : Type 0) → P → OnErr r P
err_of (Ok x) P h = tt
err_of (Err e) P h = h

pub clash : (b : Bool) → b ≡ true → b ≡ false → ⊥
clash b e f = cc

off : (cost : ℕ) (a : Bool) → ((cost ≡ 0) × (a ≡ true) → ⊥) → (eqb 0 cost && a) ≡ false
off cost a n = elim (either (eqb 0 cost && a)) [
  | inl h ↦ absurd (let b = both _ _ h in n (sym (eqb-true 0 cost b.0), b.1))
  | inr h ↦ h
]

module _ {Set : Type 0} (u v : View Set) (front back : Layers Set) (f b listed : ℕ) (others : List PlainEntry)
    (level falling : List (Entry Set)) (hb : Held u back) where
  abbrev y : System
  y = u.system

  abbrev fr : ℕ → State → Bool
  fr = member_in u front

  abbrev bk : ℕ → State → Bool
  bk = member_in u back

  -- a suffix
  pub suffix_turn : (e : Suffix) (done : Bool) → EntryOk u (After e) → (IsTrue done ↔ IsDone u (After e))
      → Ready y u front back f b listed (as_plain_entry u (After e))
      → Gathered y fr bk (as_plain_entry u (After e)) (plains v fr level) (plains v fr falling)
      → GoesOrGives y fr bk (others ++ as_plain_entry u (After e) ∷ []) (others ++ (plains v fr level ++ plains v fr falling))
      (given_plan {Set = Set} done (After e))
  suffix_turn e true ok says ready g =
      let d = says.0 refl in
      gives_plain y fr bk (as_plain_entry u (After e)) others (plains v fr level) (plains v fr falling) g e.operators.items (d.0, refl, (e.state, ok, d.1))
  suffix_turn e false ok says ready g =
      let open_ : e.cost ≡ 0 → IsSystemPlan y e.operators.items → ⊥ = λ z p.
      let at : p.0 ≡ e.state = run_one y y.initial e.operators.items p.0 e.state p.1 ok in
      clash false (says.1 (z, subst (λ (s : State). IsTrue (y.goal s)) at p.2)) refl in
      let some = tail_some listed ready.sides.tables g ready.stands (λ h. open_ h.0 h.1) in
      goes_plain y fr bk (as_plain_entry u (After e)) others (plains v fr level) (plains v fr falling) g open_ (λ p. refl) some

  -- a prefix that doesn't begin yet
  pub prefix_turn : (e : Prefix Set) → ¬ IsWholePrefix u e → Ready y u front back f b listed (as_plain_entry u (Before e))
      → Gathered y fr bk (as_plain_entry u (Before e)) (plains v fr level) (plains v fr falling)
      → Goes y fr bk (others ++ as_plain_entry u (Before e) ∷ []) (others ++ (plains v fr level ++ plains v fr falling))
  prefix_turn e none ready g =
      let some = head_some listed ready.sides.tables g ready.stands none in
      goes_plain y fr bk (as_plain_entry u (Before e)) others (plains v fr level) (plains v fr falling) g tt
      (λ p. not_begun y (u.has e.set) e.cost e.ring e.operators.items e.after p
      (off e.cost (u.has e.set y.initial) none)) some

  -- a prefix that begins
  pub begun_turn : (w : View Set) (e : Prefix Set) (c : Suffix) → IsWholePrefix u e → Begun u back e c
      → Ready y u front back f b listed (as_plain_entry u (Before e))
      → Gathered y fr bk (as_plain_entry u (Before e)) (plains v fr level) (plains v fr falling)
      → Goes y fr bk (others ++ as_plain_entry u (Before e) ∷ []) (others ++ ((plains v fr level ++ plains v fr falling) ++ as_plain_entry w (After c) ∷ []))
  begun_turn w e c start begins ready g =
      let m = ready.stands.2 y.initial start.1 in
      let same : m.0 ≡ c.state = run_one y y.initial e.operators.items m.0 c.state m.1 begins.runs in
      let run : RunsInSystem y y.initial e.operators.items c.state = begins.runs in
      let bwd : ToGoalAt y e.after c.state = subst (λ (x : State). ToGoalAt y e.after x) same m.2 in
      let serves : Useful y c.state = record { before = (cost_in_system y e.operators.items, (e.operators.items, run, refl)); after = (e.after, bwd) } in
      let at : BwdIn y e.after (zeros y bwd.0) c.state = (bwd.0, bwd.1, bwd.2, bwd.3, bwd.4, refl) in
      let there = ready.sides.back_rings.there e.after (zeros y bwd.0) c.state ready.stands.5 serves at in
      let in_ring : BwdIn y e.after c.ring c.state = ready.sides.back_rings.sound e.after c.ring c.state
      ready.stands.5 serves (begins.least there.0 there.2).1 in
      let cost = begins.cost_is in
      let ops = begins.operators_are in
      let begun : IsBegun y (as_plain_entry u (Before e)) (as_plain_entry w (After c)) = (
        start.0,
        start.1,
        cost,
        ops,
        (
          c.state,
          subst (λ (x : List ℕ). RunsInSystem y y.initial x c.state) (sym ops) run,
          subst (λ (x : ℕ). BwdIn y x c.ring c.state) (sym cost) in_ring,
        ),
      ) in
      let low : height (as_plain_entry w (After c)) < height (as_plain_entry u (Before e)) = omega (arith, begins.fits.0, begins.fits.1) in
      let long : entry_weight (as_plain_entry w (After c)) ≡ entry_weight (as_plain_entry u (Before e)) + 1 = omega (arith, ap length ops) in
      let hits : (p : List ℕ) → entry_hits y (as_plain_entry w (After c)) p ≡ begun_hits y (as_plain_entry u (Before e)) p =
      λ p. rw (ops, cost, start.0) (begins_same y (u.has e.set) e.ring e.operators.items e.after c.ring p
      start.1) in
      goes_begun y fr bk (as_plain_entry u (Before e)) others (plains v fr level) (plains v fr falling) g (as_plain_entry w (After c)) tt begun hits low long

-- the children were made in v
module _ {Set : Type 0} (u v : View Set) (front back : Layers Set) (hb : Held u back) where
  abbrev pub fu : ℕ → State → Bool
  fu = member_in u front

  -- a suffix has no set
  pub begun_made : (es : List (Entry Set)) (e : Prefix Set) (c : Suffix) → MakesEntries u v es → Begun u back e c → MakesEntries u v (es ++ After c ∷ [])
  begun_made es e c m b =
      let run : RunsInSystem u.system u.system.initial c.operators.items c.state =
      subst (λ (x : List ℕ). RunsInSystem u.system u.system.initial x c.state) (sym b.operators_are) b.runs in
      let fine : EntryOk v (After c) = subst (λ (y : System). RunsInSystem y y.initial c.operators.items c.state) (sym m.kept.system) run in
      makes_last u v v [] es (After c) m (kept_refl v) (new_after v c) fine

  pub follow_law : (e : Entry Set) (es all : List (Entry Set)) (done : Bool) (o : Option Suffix) → IsSingle e → EntryOk u e
      → (IsTrue done ↔ IsDone u e) → Expands u v front back e es → BeginsToo u back e o
      → all ≡ es ++ begun_entries o → MakesFollowers u v front back e all done
  follow_law (Partial e) es all done o made ok says ex too is = absurd made
  follow_law (After e) es all done (Some c) made ok says ex too is = absurd too
  follow_law (After e) es all done None made ok says ex too is =
      let all_is : all ≡ es = is ∙ append-nil es in (
        subst (λ (xs : List (Entry Set)). MakesEntries u v xs) (sym all_is) ex.0,
        (λ f b listed others ready.
            let parts : plains v fu all ≡ plains v fu ex.1.0 ++ plains v fu ex.1.1 = ap (plains v fu) (all_is ∙ ex.1.2) ∙ plains_append v fu ex.1.0 ex.1.1 in
            rw parts (suffix_turn u v front back f b listed others ex.1.0 ex.1.1 hb e done ok says ready (ex.1.3 f b listed ready))),
      )
  follow_law (Before e) es all true o made ok says ex too is = absurd (says.0 refl)
  follow_law (Before e) es all false None made ok says ex too is =
      let all_is : all ≡ es = is ∙ append-nil es in (
        subst (λ (xs : List (Entry Set)). MakesEntries u v xs) (sym all_is) ex.0,
        (λ f b listed others ready.
            let parts : plains v fu all ≡ plains v fu ex.1.0 ++ plains v fu ex.1.1 = ap (plains v fu) (all_is ∙ ex.1.2) ∙ plains_append v fu ex.1.0 ex.1.1 in
            rw parts (prefix_turn u v front back f b listed others ex.1.0 ex.1.1 hb e too ready (ex.1.3 f b listed ready))),
      )
  follow_law (Before e) es all false (Some c) made ok says ex too is = (
    subst (λ (xs : List (Entry Set)). MakesEntries u v xs) (sym is) (begun_made es e c ex.0 too.1),
    (λ f b listed others ready.
        let made : plains v fu es ≡ plains v fu ex.1.0 ++ plains v fu ex.1.1 = ap (plains v fu) ex.1.2 ∙ plains_append v fu ex.1.0 ex.1.1 in
        let parts : plains v fu all ≡ (plains v fu ex.1.0 ++ plains v fu ex.1.1) ++ as_plain_entry v (After c) ∷ [] = ap (plains v fu) is
        ∙ plains_append v fu es (After c ∷ []) ∙ ap (λ (q : List PlainEntry). q ++ as_plain_entry v (After c) ∷ []) made in
        rw parts (begun_turn u v front back f b listed others ex.1.0 ex.1.1 hb v e c too.0 too.1 ready (ex.1.3 f b listed ready))),
  )

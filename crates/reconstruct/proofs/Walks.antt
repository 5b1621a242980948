-- A walk, turn by turn.
use Rattle.std.proofs.Common.{◌≡◌, ℕ, ◌+◌, ◌<◌, ◌≤◌, ◌↔◌, Bool, true, false, List, [], ◌∷◌, ◌++◌, length, length-append, Option, Some, None, Result, Ok, Err, OnErr, sym, ap, subst, arith}
use Rattle.std.specs.List.{AllByRecursion}
use Rattle.task_system.specs.System.{State, System}
use Rattle.symk_task.specs.declared.parts.Mode.TheVariants.{TopK}
use Rattle.space_api.specs.View.{View, Valid}
use Rattle.space_api.specs.Frames.{Stays}
use Rattle.space_api.specs.Owned.{Trades}
use Rattle.space_api.proofs.Trading.{trades_stays}
use Rattle.space_api.proofs.Keeping.{stays_refl}
use Rattle.reconstruct.proofs.Sets.{in_valid}
use Rattle.lazy_plans.specs.Law.{Gave, top}
use Rattle.cost_layers.specs.Layers.{rings_at, union_at, known_of, Held, KeepsSet}
use Rattle.cost_layers.proofs.Holding.{kept_valid}
use Rattle.cost_layers.specs.declared.layers.Layers.{Layers}
use Rattle.plan_cuts.specs.declared.Cut.{Cut}
use Rattle.plan_cuts.specs.Entries.{PlainEntry, Goes, GivesPlan, Owed, Lawful, StandsOnLayers, height, entry_weight}
use Rattle.plan_cuts.proofs.Queue.{last_by, goes_lawful, goes_owed, goes_on, gives_lawful, gives_gave, gives_weight}
use Rattle.reconstruct.specs.Entries.{plains, SetIn, member_in, RightSides}
use Rattle.reconstruct.specs.Turned.{IsQueue, TurnsEntries, GoesOrGives}
use Rattle.reconstruct.specs.declared.entries.Entry.{Entry}
use Rattle.reconstruct.proofs.Kept.{plains_kept}
use Rattle.reconstruct.specs.Parts.{StandsForSame}
use Rattle.reconstruct.specs.Walked.{AreEntriesApart, IsLawful, IsOwed, OwesOn, GaveFrom}
use Rattle.reconstruct.proofs.Staying.{traded, member_same, stands_same, sides_same}

-- the queue so far, by the layers at the start
module _ {Set : Type 0} (u : View Set) (front back : Layers Set) (start : List (Entry Set)) where
  abbrev pub LawfulAt : ℕ → List PlainEntry → (Cut → Bool) → Type 0
  LawfulAt listed es undrawn = Lawful u.system (member_in u front) (member_in u back) (known_of front) (known_of back) listed es undrawn

  abbrev pub OwedAt : ℕ → List PlainEntry → (Cut → Bool) → List ℕ → Type 0
  OwedAt listed es undrawn p = Owed u.system (known_of back) listed es undrawn p

  pub record WalkedTo (es : List PlainEntry) : Type 0 where
    pub lawful : (listed : ℕ) × (undrawn : Cut → Bool) × LawfulAt listed es undrawn
    pub owes : (listed : ℕ) (undrawn : Cut → Bool) → LawfulAt listed (plains u (member_in u front) start) undrawn
        → LawfulAt listed es undrawn × ((p : List ℕ) → OwedAt listed es undrawn p ↔ OwedAt listed (plains u (member_in u front) start) undrawn p)

  pub walked_first : (listed : ℕ) × (undrawn : Cut → Bool) × LawfulAt listed (plains u (member_in u front) start) undrawn → WalkedTo (plains u (member_in u front) start)
  walked_first ok = record { lawful = ok; owes = λ listed undrawn fine. (fine, λ p. ((λ h. h), (λ h. h))) }

  pub walked_on : (es fs : List PlainEntry) → WalkedTo es → Goes u.system (member_in u front) (member_in u back) es fs
      → WalkedTo fs × (last_by height fs < last_by height es) × (last_by entry_weight fs ≡ last_by entry_weight es + 1)
  walked_on es fs w g =
      let y = u.system in
      let fr = member_in u front in
      let bk = member_in u back in
      let f = known_of front in
      let b = known_of back in
      let on = goes_on y fr bk f b w.lawful.0 w.lawful.1 es fs w.lawful.2 g in (
        record {
          lawful = (w.lawful.0, w.lawful.1, goes_lawful y fr bk f b w.lawful.0 w.lawful.1 es fs w.lawful.2 g);
          owes = λ listed undrawn ok.
              let o = w.owes listed undrawn ok in
              let iff = goes_owed y fr bk f b listed undrawn es fs o.0 g in
              (goes_lawful y fr bk f b listed undrawn es fs o.0 g, λ p. ((λ h. (o.1 p).0 ((iff p).0 h)), (λ h. (iff p).1 ((o.1 p).1 h))));
        },
        on.0,
        on.1,
      )

  pub walked_given : (es fs : List PlainEntry) (p : List ℕ) → WalkedTo es → GivesPlan u.system (member_in u front) (member_in u back) es fs p
      → ((listed : ℕ) (most : Option ℕ) → listed ≤ top most → (undrawn : Cut → Bool)
      → LawfulAt listed (plains u (member_in u front) start) undrawn → LawfulAt listed fs undrawn
      × Gave u.system TopK most (OwedAt listed (plains u (member_in u front) start) undrawn) (OwedAt listed fs undrawn) p)
      × (last_by entry_weight es ≡ length p + 1)
  walked_given es fs p w g =
      let y = u.system in
      let fr = member_in u front in
      let bk = member_in u back in
      let f = known_of front in
      let b = known_of back in (
        (λ listed most range undrawn ok.
            let o = w.owes listed undrawn ok in
            let c = gives_gave y fr bk f b listed undrawn es fs o.0 p g most range in (
              gives_lawful y fr bk f b listed undrawn es fs o.0 p g,
              record {
                pended = (o.1 p).0 c.pended;
                fits = c.fits;
                least = λ q k. c.least q ((o.1 q).1 k);
                rest = λ q. ((λ k. let r = (c.rest q).0 k in ((o.1 q).0 r.0, r.1)), (λ k. (c.rest q).1 ((o.1 q).1 k.0, k.1)));
              },
            )),
        gives_weight y fr bk f b w.lawful.0 w.lawful.1 es fs w.lawful.2 p g,
      )

-- in a later view that keeps the layers' sets
module _ {Set : Type 0} (u v : View Set) (front back : Layers Set) (sys : v.system ≡ u.system)
    (mf : member_in v front ≡ member_in u front) (mb : member_in v back ≡ member_in u back) where
  pub to_view : (listed : ℕ) (es : List (Entry Set)) (undrawn : Cut → Bool)
      → LawfulAt u front back es listed (plains v (member_in u front) es) undrawn → IsLawful v front back listed es undrawn
  to_view listed es undrawn l =
      let f = known_of front in
      let b = known_of back in
      let l1 = subst (λ (y : System). Lawful y (member_in u front) (member_in u back) f b listed (plains v (member_in u front) es) undrawn) (sym sys) l in
      let l2 = subst (λ (p : ℕ → State → Bool). Lawful v.system p (member_in u back) f b listed (plains v p es) undrawn) (sym mf) l1 in
      subst (λ (p : ℕ → State → Bool). Lawful v.system (member_in v front) p f b listed (plains v (member_in v front) es) undrawn) (sym mb) l2

  pub goes_at : (es fs : List PlainEntry) → Goes v.system (member_in v front) (member_in v back) es fs
      → Goes u.system (member_in u front) (member_in u back) es fs
  goes_at es fs g =
      let g1 = subst (λ (y : System). Goes y (member_in v front) (member_in v back) es fs) sys g in
      let g2 = subst (λ (p : ℕ → State → Bool). Goes u.system p (member_in v back) es fs) mf g1 in
      subst (λ (p : ℕ → State → Bool). Goes u.system (member_in u front) p es fs) mb g2

  pub gives_at : (es fs : List PlainEntry) (p : List ℕ) → GivesPlan v.system (member_in v front) (member_in v back) es fs p
      → GivesPlan u.system (member_in u front) (member_in u back) es fs p
  gives_at es fs p g =
      let g1 = subst (λ (y : System). GivesPlan y (member_in v front) (member_in v back) es fs p) sys g in
      let g2 = subst (λ (q : ℕ → State → Bool). GivesPlan u.system q (member_in v back) es fs p) mf g1 in
      subst (λ (q : ℕ → State → Bool). GivesPlan u.system (member_in u front) q es fs p) mb g2

  pub owed_at : (listed : ℕ) (es : List (Entry Set)) (undrawn : Cut → Bool) (p : List ℕ)
      → OwedAt u front back es listed (plains v (member_in u front) es) undrawn p ↔ IsOwed v front back listed es undrawn p
  owed_at listed es undrawn p = (
    (λ h. subst (λ (q : ℕ → State → Bool). Owed v.system (known_of back) listed (plains v q es) undrawn p) (sym mf)
        (subst (λ (y : System). Owed y (known_of back) listed (plains v (member_in u front) es) undrawn p) (sym sys) h)),
    (λ h. subst (λ (y : System). Owed y (known_of back) listed (plains v (member_in u front) es) undrawn p) sys
        (subst (λ (q : ℕ → State → Bool). Owed v.system (known_of back) listed (plains v q es) undrawn p) mf h)),
  )

-- one turn of the walk, from the view u at its start
module _ {Set : Type 0} {u v w : View Set} {front back : Layers Set} (start old new : List (Entry Set))
    (hf : Held u front) (hb : Held u back) (af : AreEntriesApart start front) (ab : AreEntriesApart start back)
    (sides : RightSides u.system u front back (known_of front) (known_of back))
    (t : Trades u v (SetIn start) (SetIn old)) (t2 : Trades u w (SetIn start) (SetIn new))
    (walked : WalkedTo u front back start (plains v (member_in u front) old)) where
  abbrev pub fu : ℕ → State → Bool
  fu = member_in u front

  ff : (a : Set) → KeepsSet front a → Valid v a × ((s : State) → v.has a s ≡ u.has a s)
  ff = traded u v start old t front hf af

  fb : (a : Set) → KeepsSet back a → Valid v a × ((s : State) → v.has a s ≡ u.has a s)
  fb = traded u v start old t back hb ab

  mf : member_in v front ≡ member_in u front
  mf = member_same u v front hf ff

  mb : member_in v back ≡ member_in u back
  mb = member_same u v back hb fb

  wf : member_in w front ≡ member_in u front
  wf = member_same u w front hf (traded u w start new t2 front hf af)

  wb : member_in w back ≡ member_in u back
  wb = member_same u w back hb (traded u w start new t2 back hb ab)

  sides_v : RightSides v.system v front back (known_of front) (known_of back)
  sides_v = subst (λ (y : System). RightSides y v front back (known_of front) (known_of back)) (sym t.system)
      (sides_same mf mb (stands_same u v front hf ff) (stands_same u v back hb fb) sides)

  stands_v : AllByRecursion (StandsOnLayers v.system (known_of front) (known_of back) walked.lawful.0) (plains v fu old)
  stands_v = subst (λ (y : System). AllByRecursion (StandsOnLayers y (known_of front) (known_of back) walked.lawful.0)
      (plains v fu old)) (sym t.system) walked.lawful.2.stands

  turned : (o : Option (List ℕ)) → TurnsEntries v w front back old new o
      → GoesOrGives v.system (member_in v front) (member_in v back) (plains v fu old) (plains w fu new) o
  turned o turns = subst (λ (q : ℕ → State → Bool). GoesOrGives v.system (member_in v front) (member_in v back) (plains v q old)
      (plains w q new) o) mf (turns (known_of front) (known_of back) walked.lawful.0 sides_v
      (subst (λ (q : ℕ → State → Bool). AllByRecursion (StandsOnLayers v.system (known_of front) (known_of back) walked.lawful.0)
      (plains v q old)) (sym mf) stands_v))

  pub turn_goes : TurnsEntries v w front back old new None → WalkedTo u front back start (plains w fu new)
      × (last_by height (plains w fu new) < last_by height (plains v fu old))
      × (last_by entry_weight (plains w fu new) ≡ last_by entry_weight (plains v fu old) + 1)
  turn_goes turns = walked_on u front back start (plains v fu old) (plains w fu new) walked
      (goes_at u v front back t.system mf mb (plains v fu old) (plains w fu new) (turned None turns))

  pub turn_left : TurnsEntries v w front back old new None → 0 < length (plains w fu new)
  turn_left turns = let g = turned None turns in omega (
    arith,
    ap length g.is,
    length-append g.others
        (g.pushed ++ g.last ∷ []),
    length-append g.pushed (g.last ∷ []),
  )

  pub turn_gives : (p : List ℕ) → TurnsEntries v w front back old new (Some p) → GaveFrom u w front back start new p
      × (last_by entry_weight (plains v fu old) ≡ length p + 1)
  turn_gives p turns =
      let r = walked_given u front back start (plains v fu old) (plains w fu new) p walked
      (gives_at u v front back t.system mf mb (plains v fu old) (plains w fu new) p (turned (Some p) turns)) in (
        (λ listed most range undrawn ok.
            let q = r.0 listed most range undrawn ok in
            let iff = owed_at u w front back t2.system wf wb listed new undrawn in (
              to_view u w front back t2.system wf wb listed new undrawn q.0,
              record {
                pended = q.1.pended;
                fits = q.1.fits;
                least = q.1.least;
                rest = λ x. ((λ k. (q.1.rest x).0 ((iff x).1 k)), (λ k. (iff x).0 ((q.1.rest x).1 k)));
              },
            )),
        r.1,
      )

-- a walk that is left
module _ {Set : Type 0} {u w : View Set} {front back : Layers Set} (start new : List (Entry Set))
    (hf : Held u front) (hb : Held u back) (af : AreEntriesApart start front) (ab : AreEntriesApart start back)
    (t : Trades u w (SetIn start) (SetIn new)) (walked : WalkedTo u front back start (plains w (member_in u front) new)) where
  pub walk_left : OwesOn u w front back start new
  walk_left listed undrawn ok =
      let o = walked.owes listed undrawn ok in
      let wf = member_same u w front hf (traded u w start new t front hf af) in
      let wb = member_same u w back hb (traded u w start new t back hb ab) in
      let iff = owed_at u w front back t.system wf wb listed new undrawn in (
        to_view u w front back t.system wf wb listed new undrawn o.0,
        (λ p. ((λ h. (o.1 p).0 ((iff p).1 h)), (λ h. (iff p).0 ((o.1 p).1 h)))),
      )

-- a refused turn
module _ {Set : Type 0} {u v w : View Set} {front back : Layers Set} (start old : List (Entry Set))
    (hf : Held u front) (hb : Held u back) (af : AreEntriesApart start front) (ab : AreEntriesApart start back)
    (t2 : Trades u w (SetIn start) (SetIn old)) (walked : WalkedTo u front back start (plains v (member_in u front) old))
    (q : IsQueue v old) (s : Stays v w) where
  pub turn_refused : OwesOn u w front back start old
  turn_refused = walk_left start old hf hb af ab t2 (subst (λ (es : List PlainEntry). WalkedTo u front back start es)
      (sym (plains_kept v w s.kept (member_in u front) old q.each)) walked)

not_fresh : (b : Bool) → b ≡ true → b ≡ false → ⊥
not_fresh b e f = cc

pub err_of : {A : Type 0} {E : Type 0} (r : Result A E) (P : Type 0) → P → OnErr r P
err_of (Ok x) P h = tt
err_of (Err e) P h = h

pub none_traded : {Set : Type 0} (u : View Set) (es : List (Entry Set)) → IsQueue u es → Trades u u (SetIn es) (SetIn es)
none_traded u es q = trades_stays u u (SetIn es) (stays_refl u) (λ a h. in_valid u es a q.each h)

-- a queue that stands for something has an entry
pub some_stand : {Set : Type 0} (v : View Set) (fr : ℕ → State → Bool) (es : List (Entry Set)) → 0 < length (plains v fr es) → 0 < length es
some_stand v fr [] h = absurd (omega (arith, h))
some_stand v fr (e ∷ es) h = omega arith

-- a later queue, by the layers of the view at the start
module _ {Set : Type 0} {u v : View Set} (front : Layers Set) (start old : List (Entry Set)) (hf : Held u front)
    (af : AreEntriesApart start front) (t : Trades u v (SetIn start) (SetIn old)) where
  pub same_stand : (w : View Set) (new : List (Entry Set)) → StandsForSame v w front old new
      → plains w (member_in u front) new ≡ plains v (member_in u front) old
  same_stand w new same = subst (λ (p : ℕ → State → Bool). plains w p new ≡ plains v p old)
      (member_same u v front hf (traded u v start old t front hf af)) same

  pub still_apart : AreEntriesApart old front
  still_apart a h k = not_fresh (u.valid a) (kept_valid u (rings_at front) (union_at front) hf a k) (t.fresh a h (λ o. af a o k))

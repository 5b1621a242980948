-- The shell of an engine before its first call, at one, and after its last: what is owed with the plan that it holds is fair
-- and computed, and so is what it hands out.
use Rattle.std.proofs.Common.{◌≡◌, ℕ, ◌⊎◌, inl, inr, Bool, true, false, ◌||◌, IsTrue, List, Option, Some, None, Result, Ok, Err, refl, sym, ◌∙◌, ap, subst}
use Rattle.std.specs.Prelude.{IfOk, OnOk}
use Rattle.std.specs.Result.{is_ok}
use Rattle.std.specs.Bool.{Decides}
use Rattle.std.proofs.lemmas.Bool.Decides.{Decides-or, Decides-like}
use Rattle.symk_task.specs.declared.parts.Mode.{Mode}
use Rattle.task_system.specs.System.{System, IsSystemPlanOf, are_equal}
use Rattle.lazy_plans.specs.Law.{Gave, PendsAlike, MayStop, Turned, Fair, Last, last_of}
use Rattle.lazy_plans.specs.declared.stop.Stop.{Stop}
use Rattle.lazy_plans.specs.declared.stop.Stop.TheVariants.{Memory}
use Rattle.lazy_plans.specs.declared.stop.Ending.{Ending}
use Rattle.lazy_plans.specs.declared.stop.Ending.TheVariants.{Exhausted, StoppedBy}
use Rattle.lazy_plans.specs.declared.shell.Shell.{Shell}
use Rattle.lazy_plans.specs.Queue.{IsByList}
use Rattle.lazy_plans.specs.Shell.{OwesHeld, tells_held, IsHeld, IsNewShell, IsShellSound, shell_answer, shell_keeps, HandsOut, ShellAnswers}
use Rattle.lazy_plans.proofs.Given.{turned_from, ended_by, again}
use Rattle.lazy_plans.proofs.Told.{equal_is, equal_self}

equal_told : (p q : List ℕ) → Decides (are_equal p q) (p ≡ q)
equal_told p q = (equal_is p q, λ e. subst (λ (z : List ℕ). are_equal p z ≡ true) e (equal_self p))

inner : (p q : List ℕ) → Some p ≡ Some q → p ≡ q
inner p q e = cc

none_is : (p : List ℕ) → None ≡ Some p → ⊥
none_is p e = cc

held_told : (held : Option (List ℕ)) (p : List ℕ) → Decides (tells_held held p) (held ≡ Some p)
held_told None p = ((λ e. absurd (falsum e)), (λ e. absurd (none_is p e)))
  where
    falsum : false ≡ true → ⊥
    falsum e = cc
held_told (Some q) p = Decides-like (are_equal q p) (λ e. ap (λ (x : List ℕ). Some x) e) (λ e. inner q p e) (equal_told q p)

pub shell_told : (t : Bool) (owed : List ℕ → Type 0) (held : Option (List ℕ)) (p : List ℕ)
    → Decides t (owed p) → Decides (t || tells_held held p) (OwesHeld owed held p)
shell_told t owed held p d = Decides-or t (tells_held held p) d (held_told held p)

held_plan : (y : System) (m : Mode) (held : Option (List ℕ)) (ended : Last) (p : List ℕ) → IsHeld y m held ended → held ≡ Some p → IsSystemPlanOf y m p
held_plan y m None ended p h e = absurd (none_is p e)
held_plan y m (Some q) ended p h e = subst (IsSystemPlanOf y m) (inner q p e) h.0

pub shell_fair : (y : System) (m : Mode) (most : Option ℕ) (owed : List ℕ → Type 0) (held : Option (List ℕ)) (ended : Last)
    → Fair y m most owed → IsHeld y m held ended → Fair y m most (OwesHeld owed held)
shell_fair y m most owed held ended f holds = record {
  members = λ p h. elim h [ inl o ↦ f.members p o | inr e ↦ held_plan y m held ended p holds e ];
  dearer = λ p plan lt. inl (f.dearer p plan lt);
}

-- it goes on, so no plan is held
pub none_held : (y : System) (m : Mode) (held : Option (List ℕ)) → IsHeld y m held None → held ≡ None
none_held y m None h = refl
none_held y m (Some p) h = absurd (none_some h.1)
  where
    none_some : None ≡ Some (StoppedBy Memory) → ⊥
    none_some e = cc

-- out of memory says nothing of what pends
pub memory_stops : (y : System) (most : Option ℕ) (before : List ℕ → Type 0) → MayStop y most before Memory
memory_stops y None before = tt
memory_stops y (Some c) before = tt

-- what is owed where no plan is held
pub owes_pends : (owed : List ℕ → Type 0) → PendsAlike owed (OwesHeld owed None)
owes_pends owed p = ((λ h. elim h [ inl o ↦ o | inr e ↦ absurd (none_is p e) ]), (λ o. inl o))

turn_back : (a b : List ℕ → Type 0) → PendsAlike a b → PendsAlike b a
turn_back a b s p = ((s p).1, (s p).0)

-- the law, told of a later value of which the same pends
pub turned_to : (y : System) (m : Mode) (most : Option ℕ) (a b c : List ℕ → Type 0) (r : Result (Option (List ℕ)) Stop)
    → Turned y m most a b r → PendsAlike b c → Turned y m most a c r
turned_to y m most a b c (Ok (Some p)) g s = record {
  pended = g.pended;
  fits = g.fits;
  least = g.least;
  rest = λ q. ((λ h. (g.rest q).0 ((s q).0 h)), (λ h. (s q).1 ((g.rest q).1 h)));
}
turned_to y m most a b c (Ok None) g s = (g.0, λ q. ((λ h. (g.1 q).0 ((s q).0 h)), (λ h. (s q).1 ((g.1 q).1 h))))
turned_to y m most a b c (Err stop) g s = (g.0, λ q. ((λ h. (g.1 q).0 ((s q).0 h)), (λ h. (s q).1 ((g.1 q).1 h))))

-- the plan that was found is held
held_stays : (y : System) (m : Mode) (most : Option ℕ) → IsByList m → (a b : List ℕ → Type 0) (p : List ℕ)
    → Gave y m most a b p → PendsAlike a (OwesHeld b (Some p))
held_stays y m most by_list a b p g q = (
  (λ h. elim h [ inl k ↦ ((g.rest q).0 k).0 | inr e ↦ subst a (inner p q e) g.pended ]),
  (λ h. by (are_equal q p) refl h),
)
  where
    by : (t : Bool) → are_equal q p ≡ t → a q → b q ⊎ (Some p ≡ Some q)
    by true e h = inr (ap (λ (x : List ℕ). Some x) (sym ((equal_told q p).0 e)))
    by false e h = inl ((g.rest q).1 (h, by_list q p ∙ e))

-- one call took what is owed from a to b; no plan was held before
module _ (y : System) (m : Mode) (most : Option ℕ) (a b : List ℕ → Type 0) where
  -- what it answers of what is owed holds with the plan that is held, of which there is none
  pub owed_law : (r : Result (Option (List ℕ)) Stop) → Turned y m most a b r → Turned y m most (OwesHeld a None) (OwesHeld b None) r
  owed_law r h = turned_from y m most (OwesHeld a None) a (OwesHeld b None) r
      (turn_back a (OwesHeld a None) (owes_pends a))
      (turned_to y m most a b (OwesHeld b None) r h (owes_pends b))

  -- what it found is held in place of being handed out: what is owed stays
  held_law : IsByList m → (found : Option (List ℕ)) → Turned y m most a b (Ok found)
      → Turned y m most (OwesHeld a None) (OwesHeld b found) (Err Memory)
  held_law by_list None h = (memory_stops y most (OwesHeld a None), (owed_law (Ok None) h).1)
  held_law by_list (Some p) h = (
    memory_stops y most (OwesHeld a None),
    λ q.
        let k = held_stays y m most by_list a b p h q in
        let o = owes_pends a q in ((λ z. o.1 (k.0 z)), (λ z. k.1 (o.0 z))),
  )

  held_fine : ((p : List ℕ) → a p → IsSystemPlanOf y m p) → (found : Option (List ℕ)) → Turned y m most a b (Ok found)
      → IsHeld y m found (Some (StoppedBy Memory))
  held_fine plans None h = tt
  held_fine plans (Some p) h = (plans p h.pended, refl)

  found_law : IsByList m → (found : Option (List ℕ)) (tidied : Bool) → Turned y m most a b (Ok found)
      → Turned y m most (OwesHeld a None) (OwesHeld b (shell_keeps found tidied)) (shell_answer found tidied)
  found_law by_list found true h = owed_law (Ok found) h
  found_law by_list found false h = held_law by_list found h

  found_fine : ((p : List ℕ) → a p → IsSystemPlanOf y m p) → (found : Option (List ℕ)) (tidied : Bool)
      → Turned y m most a b (Ok found) → IsHeld y m (shell_keeps found tidied) (last_of (shell_answer found tidied))
  found_fine plans found true h = tt
  found_fine plans found false h = held_fine plans found h

-- after a plan or None the space is tidy
found_room : (tidy : Type 0) (found : Option (List ℕ)) (tidied : Bool) → (IsTrue tidied → tidy) → IfOk (shell_answer found tidied) (λ o. tidy)
found_room tidy found true t = t refl
found_room tidy found false t = tt

none_left : (tidy : Type 0) (r : Result (Option (List ℕ)) Stop) → IfOk r (λ o. tidy) → last_of r ≡ Some Exhausted → tidy
none_left tidy (Ok (Some p)) t e = t
none_left tidy (Ok None) t e = t
none_left tidy (Err s) t e = absurd (other e)
  where
    other : Some (StoppedBy s) ≡ Some Exhausted → ⊥
    other e = cc

-- one call took what is owed from a to b and the shell, which held no plan, from x to z
module _ (y : System) (m : Mode) (a b : List ℕ → Type 0) (tidy : Type 0) (x z : Shell) (none : x.held ≡ None) where
  sound : (r : Result (Option (List ℕ)) Stop) (held : Option (List ℕ)) → HandsOut x z r held
      → Turned y m x.most (OwesHeld a None) (OwesHeld b held) r → IsHeld y m held (last_of r) → IfOk r (λ o. tidy)
      → ShellAnswers y m a b tidy x z r
  sound r held hands law fine room = record {
    sound = record {
      holds = rw (hands.holds, hands.last) fine;
      said = rw (hands.holds, hands.last, hands.wanted) (ended_by y m x.most (OwesHeld a None) (OwesHeld b held) r law);
      room = λ e. none_left tidy r room (sym hands.last ∙ e);
    };
    law = rw (hands.holds, none) law;
    last = hands.last;
    room = room;
  }

  pub answers_stop : (stop : Stop) → Turned y m x.most a b (Err stop) → HandsOut x z (Err stop) x.held
      → ShellAnswers y m a b tidy x z (Err stop)
  answers_stop stop law hands = sound (Err stop) None
      (subst (λ (held : Option (List ℕ)). HandsOut x z (Err stop) held) none hands) (owed_law y m x.most a b (Err stop) law) tt tt

  pub answers_found : IsByList m → ((p : List ℕ) → a p → IsSystemPlanOf y m p) → (found : Option (List ℕ)) (tidied : Bool)
      → Turned y m x.most a b (Ok found) → HandsOut x z (shell_answer found tidied) (shell_keeps found tidied)
      → (IsTrue tidied → tidy) → ShellAnswers y m a b tidy x z (shell_answer found tidied)
  answers_found by_list plans found tidied law hands t = sound (shell_answer found tidied) (shell_keeps found tidied) hands
      (found_law y m x.most a b by_list found tidied law) (found_fine y m x.most a b plans found tidied law)
      (found_room tidy found tidied t)

-- what a call promises where it isn't refused
pub on_done : {T E P : Type 0} (r : Result T E) → OnOk r P → is_ok r ≡ true → P
on_done (Ok x) p e = p
on_done (Err x) p e = absurd (never e)
  where
    never : false ≡ true → ⊥
    never e = cc

none_some : (e : Ending) → None ≡ Some e → ⊥
none_some e is = cc

-- the space is tidy yet where None is answered again
room_again : (tidy : Type 0) (r : Result (Option (List ℕ)) Stop) (e : Ending) → last_of r ≡ Some e → (Some e ≡ Some Exhausted → tidy)
    → IfOk r (λ o. tidy)
room_again tidy (Ok None) e is room = room (sym is)
room_again tidy (Ok (Some p)) e is room = absurd (none_some e is)
room_again tidy (Err s) e is room = tt

module _ (y : System) (m : Mode) (owed : List ℕ → Type 0) (tidy : Type 0) (x : Shell) where
  -- nothing was asked of it yet
  pub new_sound : (most : Option ℕ) → IsNewShell most x → IsShellSound y m owed tidy x
  new_sound most new = record {
    holds = rw new.free tt;
    said = rw new.goes_on tt;
    room = λ e. absurd (none_some Exhausted (sym new.goes_on ∙ e));
  }

  -- the answer that ended it is given again
  pub answers_again : IsShellSound y m owed tidy x → (r : Result (Option (List ℕ)) Stop) (e : Ending)
      → x.ended ≡ Some e → last_of r ≡ Some e → ShellAnswers y m owed owed tidy x x r
  answers_again s r e at is = record {
    sound = s;
    law = again y m x.most (OwesHeld owed x.held) r e is (rw at at s.said);
    last = at ∙ sym is;
    room = room_again tidy r e is (λ same. s.room (at ∙ same));
  }

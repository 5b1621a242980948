-- One call, by how it ends.
use Rattle.std.proofs.Common.{◌≡◌, ℕ, ◌↔◌, inl, inr, Bool, true, false, IsTrue, List, [], Option, Some, None, Result, Ok, Err, refl, sym, ◌∙◌, ap, subst}
use Rattle.std.specs.Prelude.{OnOk, is_ok}
use Rattle.task_system.specs.System.{System, IsSystemPlan}
use Rattle.symk_task.specs.declared.parts.Mode.TheVariants.{TopK}
use Rattle.space_api.specs.View.{View, Valid}
use Rattle.space_api.specs.Frames.{Stays as SetsStay}
use Rattle.space_api.specs.Owned.{Trades}
use Rattle.space_api.specs.Tidied.{Tidied}
use Rattle.space_api.proofs.Trading.{valid_clash}
use Rattle.lazy_plans.specs.Law.{PendsAlike, Turned, last_of}
use Rattle.lazy_plans.specs.Shell.{OwesHeld, IsShellSound, IsNewShell, HandsOut, ShellAnswers, shell_answer, shell_keeps, shell_most, shell_held}
use Rattle.lazy_plans.specs.declared.shell.Shell.{Shell}
use Rattle.lazy_plans.specs.declared.stop.Stop.{Stop}
use Rattle.lazy_plans.specs.declared.stop.Ending.{Ending}
use Rattle.lazy_plans.proofs.Shells.{owes_pends, turned_to, answers_stop, answers_found, new_sound}
use Rattle.reconstruct.specs.Expansions.{RemembersNone}
use Rattle.reconstruct.proofs.Remembering.{right_empty}
use Rattle.reconstruct.proofs.Staying.{right_kept}
use Rattle.cost_layers.specs.declared.layers.Layers.{Layers}
use Rattle.bidirectional.specs.Both.{IsBeneath, IsBoth, IsOwnOf, front_layers, back_layers}
use Rattle.bidirectional.specs.declared.search.Both.{Both}
use Rattle.reconstruct.specs.declared.entries.Entry.{Entry}
use Rattle.reconstruct.specs.declared.next_plan.Agenda.{Agenda}
use Rattle.reconstruct.specs.Working.{IsWorking, InWantedRange, FewTurns, OwesByCuts, OwedBy, TradesAll}
use Rattle.reconstruct.specs.Pending.{IsTidyCutSpace, IsKeptByCuts, IsCutEngineReady, IsSound, AnsweredByCuts}
use Rattle.reconstruct.specs.Engine.{IsReadyFor}
use Rattle.reconstruct.specs.Laws.{owed_plan}
use Rattle.reconstruct.proofs.Ends.{right_ends, stays_ends}
use Rattle.reconstruct.proofs.Tidying.{at_kept, owes_kept}

-- a call of an engine, by what its parts did; it went on, so no plan was held
module _ {Set P : Type 0} {within : Option Set} {v w : View Set} {both both2 : Both Set P} {old new : Agenda Set} (x : Shell)
    (ready : IsCutEngineReady v both (shell_most x) within old) (t : TradesAll v w both both2 old new)
    (working : IsWorking w both2 new) (range : InWantedRange (shell_most x) new.listed) (none : shell_held x ≡ None) where
  -- ready after the parts went on: a set that is valid afterwards is kept
  ready_given : IsCutEngineReady w both2 (shell_most x) within new
  ready_given = record {
    working = working;
    range = range;
    keeps = λ a h. elim (t.only a h) [
      | inl k ↦ inl k
      | inr k ↦ elim (ready.keeps a k) [ inl o ↦ inl (t.given a o h) | inr e ↦ inr e ]
    ];
  }

  -- what its shell answers, of the space as it is then
  answered : (u : View Set) (z : Shell) (r : Result (Option (List ℕ)) Stop) → u.system ≡ v.system
      → IsCutEngineReady u both2 (shell_most x) within new → shell_most z ≡ shell_most x
      → ShellAnswers v.system TopK (OwedBy v both old) (OwedBy u both2 new) (IsTidyCutSpace u) x z r
      → AnsweredByCuts v u both both2 within old new x z r
  answered u z r same fit wanted answers = record {
    engine = record {
      ready = subst (λ (most : Option ℕ). IsCutEngineReady u both2 most within new) (sym wanted) fit;
      shell = subst (λ (y : System). IsShellSound y TopK (OwedBy u both2 new) (IsTidyCutSpace u) z) (sym same) answers.sound;
    };
    system = same;
    shell = answers;
  }

  pub stopped : (z : Shell) (stop : Stop) → Turned v.system TopK (shell_most x) (OwedBy v both old) (OwedBy w both2 new) (Err stop)
      → HandsOut x z (Err stop) (shell_held x) → AnsweredByCuts v w both both2 within old new x z (Err stop)
  stopped z stop law hands = answered w z (Err stop) t.system ready_given hands.wanted
      (answers_stop v.system TopK (OwedBy v both old) (OwedBy w both2 new) (IsTidyCutSpace w) x z none stop law hands)

  -- the space was tidied, or that was refused
  module _ {u : View Set} (s : SetsStay w u) where
    ready_tidied : IsCutEngineReady u both2 (shell_most x) within new
    ready_tidied =
        let right = right_ends w both2 working.stands in
        record {
          working = record {
            stands = stays_ends w u both2 s.kept working.stands;
            at = at_kept w u (IsBeneath both2) (front_layers both2) (back_layers both2) right s new.listed new.queue working.at;
            moves = right_kept w u (back_layers both2) new.memo right.back_held s.kept working.moves;
          };
          range = range;
          keeps = λ a h. ready_given.keeps a (s.only a h);
        }

    owes_tidied : PendsAlike (OwedBy w both2 new) (OwedBy u both2 new)
    owes_tidied q = owes_kept w u (IsBeneath both2) (front_layers both2) (back_layers both2) (right_ends w both2 working.stands) s
        new.listed new.queue working.at q

    pub handed_out : (z : Shell) (found : Option (List ℕ)) (tidied : Bool)
        → Turned v.system TopK (shell_most x) (OwedBy v both old) (OwedBy w both2 new) (Ok found)
        → HandsOut x z (shell_answer found tidied) (shell_keeps found tidied) → (IsTrue tidied → IsTidyCutSpace u)
        → AnsweredByCuts v u both both2 within old new x z (shell_answer found tidied)
    handed_out z found tidied law hands few = answered u z (shell_answer found tidied) (s.kept.system ∙ t.system) ready_tidied hands.wanted
        (answers_found v.system TopK (OwedBy v both old) (OwedBy u both2 new) (IsTidyCutSpace u) x z none (λ p q. refl)
        (λ p o. owed_plan v (front_layers both) (back_layers both) old.listed old.queue p o) found tidied
        (turned_to v.system TopK (shell_most x) (OwedBy v both old) (OwedBy w both2 new) (OwedBy u both2 new) (Ok found) law owes_tidied)
        hands few)

-- none is full where that was not refused
pub few_tidied : {Set E : Type 0} (Needed Needs : ℕ → Type 0) (v w : View Set) (r : Result Unit E) (tidied : Bool)
    → tidied ≡ is_ok r → OnOk r (Tidied Needed Needs v w) → IsTrue tidied → IsTidyCutSpace w
few_tidied Needed Needs v w (Ok x) tidied e h t = h.few
few_tidied Needed Needs v w (Err s) tidied e h t = absurd (falsum (sym e ∙ t))
  where
    falsum : false ≡ true → ⊥
    falsum e = cc

-- a plan that is held takes as many turns as one that is handed out, and no number is asked for
pub turns_of : (old new : ℕ) (found : Option (List ℕ)) (tidied : Bool) → FewTurns old new (Ok found) → FewTurns old new (shell_answer found tidied)
turns_of old new found true h = h
turns_of old new found false h = tt

-- the answer that ended it takes no turn when it is given again
pub turns_again : (now : ℕ) (r : Result (Option (List ℕ)) Stop) (e : Ending) → last_of r ≡ Some e → FewTurns now now r
turns_again now (Ok (Some p)) e is = absurd (none_ends is)
  where
    none_ends : None ≡ Some e → ⊥
    none_ends e = cc
turns_again now (Ok None) e is = refl
turns_again now (Err s) e is = tt

-- an engine of which nothing was asked yet: no set is valid but those of the search and the one that was handed over
pub engine_begins : {Set P : Type 0} {most : Option ℕ} {within : Option Set} {u v : View Set} {both : Both Set P} {x : Shell}
    (agenda : Agenda Set) → IsReadyFor u within → Trades u v (λ a. ⊥) (IsOwnOf both) → IsBoth v both
    → agenda.listed ≡ None → agenda.queue ≡ [] → RemembersNone agenda.memo → IsNewShell most x → IsSound v both within agenda x
engine_begins {Set = Set} {most = most} {within = within} {u = u} {v = v} {both = both} {x = x} agenda start t stands first empty none new = record {
  ready = record {
    working = record { stands = stands; at = rw first empty; moves = right_empty v (back_layers both) agenda.memo none };
    range = rw first tt;
    keeps = λ a h. elim (t.only a h) [ inl o ↦ inl (inl o) | inr k ↦ kept_first within start a k ];
  };
  shell = new_sound v.system TopK (OwedBy v both agenda) (IsTidyCutSpace v) x most new;
}
  where
    kept_first : (o : Option Set) → IsReadyFor u o → (a : Set) → Valid u a → IsKeptByCuts both o agenda.queue a
    kept_first None r a k = absurd (valid_clash k (r a))
    kept_first (Some b) r a k = inr (some_is (r.1 a k))
      where
        some_is : a ≡ b → Some b ≡ Some a
        some_is e = sym (ap (λ (z : Set). Some z) e)

-- at first every plan pends
pub pends_all : {Set : Type 0} (u v : View Set) (front back : Layers Set) (queue : List (Entry Set)) (held : Option (List ℕ))
    → held ≡ None → v.system ≡ u.system → (p : List ℕ)
    → OwesHeld (OwesByCuts v front back None queue) held p ↔ IsSystemPlan u.system p
pends_all u v front back queue held free e p = rw free (
    let k = owes_pends (OwesByCuts v front back None queue) p in (
      (λ h. subst (λ (y : System). IsSystemPlan y p) e (k.0 h)),
      (λ h. k.1 (subst (λ (y : System). IsSystemPlan y p) (sym e) h)),
    ))

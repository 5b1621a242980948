-- The Ids that a space makes of its own Ids and of its sets have the states that they are made for.
use Rattle.std.proofs.Common.{◌≡◌, ◌↔◌, ℕ, ◌<◌, ◌⊎◌, inl, inr, Bool, true, false, not, ◌&&◌, ◌||◌, List, length, Some, IsTrue, refl, sym, ◌∙◌, ap, subst, true≢false}
use Rattle.task_system.specs.System.{State, Listed}
use Rattle.task_system.specs.Computed.{system_of, assignments}
use Rattle.task_system.proofs.RunsLaw.{start_listed}
use Rattle.task_system.proofs.StatesLaw.{states_law}
use Rattle.bdd_table.specs.declared.node.Node.{Node}
use Rattle.bdd_table.specs.Diagram.{Bits, means}
use Rattle.var_order.specs.Codes.{IsStateOf}
use Rattle.var_order.proofs.Laying.{state_of}
use Rattle.space_api.specs.View.{GoalIn, Unites, Meets, Lacks}
use Rattle.bdd_space.specs.Slots.{set_at}
use Rattle.bdd_space.specs.Members.{has_state, IsKnownSet, HasThose}
use Rattle.bdd_space.specs.Symbolic.{Symbolic, IsSpace, Makes}
use Rattle.bdd_space.specs.Seen.{seen}
use Rattle.bdd_space.proofs.Having.{has_parts, has_those, those_has, set_of_those, conj_set, disj_set, minus_set, conj_has, disj_has, minus_has, false_set, false_has}
use Rattle.bdd_space.proofs.Keeping.{over, id_there, has_there}

and_says : (x y z : Bool) → z ≡ (x && y) → (z ≡ true) ↔ ((x ≡ true) × (y ≡ true))
and_says true y z e = ((λ h. (refl, sym e ∙ h)), (λ h. e ∙ h.1))
and_says false y z e = ((λ h. absurd (true≢false (sym h ∙ e))), (λ h. absurd (true≢false (sym h.0))))

or_says : (x y z : Bool) → z ≡ (x || y) → (z ≡ true) ↔ ((x ≡ true) ⊎ (y ≡ true))
or_says true y z e = ((λ h. inl refl), (λ h. e))
or_says false y z e = ((λ h. inr (sym e ∙ h)), (λ h. elim h [ inl a ↦ absurd (true≢false (sym a)) | inr b ↦ e ∙ b ]))

not_says : (x y z : Bool) → z ≡ (x && not y) → (z ≡ true) ↔ ((x ≡ true) × (y ≡ false))
not_says true true z e = ((λ h. absurd (true≢false (sym h ∙ e))), (λ h. absurd (true≢false h.1)))
not_says true false z e = ((λ h. (refl, refl)), (λ h. e))
not_says false y z e = ((λ h. absurd (true≢false (sym h ∙ e))), (λ h. absurd (true≢false (sym h.0))))

module _ (e : Symbolic) (start : List ℕ) (i : IsSpace e start) where
  -- the space's own Ids

  pub none_made : Makes e (λ s. ⊥) 0
  none_made = record {
    set = false_set e.order e.nodes i.reduced;
    has = λ s. ((λ h. true≢false (sym h ∙ false_has e.order e.nodes s)), (λ x. absurd x));
  }

  -- an Id that has those states, all of which are states
  made_of : (P : State → Type 0) (id : ℕ) → ((s : State) → P s → IsStateOf e.order s) → HasThose e.order e.nodes P id → Makes e P id
  made_of P id states h = record {
    set = set_of_those e.order e.nodes P id h;
    has = λ s. ((λ has. (those_has e.order e.nodes P id s i.order.layout h has).1), (λ p. has_those e.order e.nodes P id s i.order.layout h (states s p) p));
  }

  listed_state : (s : State) → Listed (assignments e.task.variables) s → IsStateOf e.order s
  listed_state s listed = state_of e.task e.order s i.order ((states_law e.task s).1 listed)

  pub all_made : Makes e (Listed (system_of e.task).states) e.own.all
  all_made = made_of (Listed (system_of e.task).states) e.own.all listed_state i.own.all

  pub start_state : IsStateOf e.order (system_of e.task).initial
  start_state = listed_state (system_of e.task).initial (start_listed e.task i.fits)

  pub start_made : Makes e (λ s. s ≡ (system_of e.task).initial) e.own.start
  start_made = made_of (λ s. s ≡ (system_of e.task).initial) e.own.start (λ s same. subst (IsStateOf e.order) (sym same) start_state) i.own.start

  -- two sets

  module _ (a f : ℕ) (is : set_at e.sets a ≡ Some f) where
    known : IsKnownSet e.order e.nodes f
    known = id_there e.order e.nodes e.sets a f i.sets is

    seen_is : (s : State) → has_state e.order e.nodes f s ≡ (seen e).has a s
    seen_is s = sym (has_there e a f s is)

    pub goals_made : (new : List Node) (id : ℕ) → id < length new
        → ((b : Bits) → means new id b ≡ (means e.nodes f b && means e.nodes e.own.goals b))
        → Makes (over e new) (GoalIn (seen e) a) id
    goals_made new id at both = record {
      set = conj_set e.order e.nodes new f e.own.goals id i.order.layout known
          (set_of_those e.order e.nodes (λ s. IsTrue ((system_of e.task).goal s)) e.own.goals i.own.goals) at both;
      has = λ s. (
          let says = and_says (has_state e.order e.nodes f s) (has_state e.order e.nodes e.own.goals s)
          (has_state e.order new id s) (conj_has e.order e.nodes new f e.own.goals id s both) in (
            (λ h. (let x = says.0 h in (
              sym (seen_is s) ∙ x.0,
              (those_has e.order e.nodes (λ s. IsTrue ((system_of e.task).goal s)) e.own.goals s
                  i.order.layout i.own.goals x.1).1,
            ))),
            (λ (h, goal). (
                let here = seen_is s ∙ h in
                says.1 (
                  here,
                  has_those e.order e.nodes (λ s. IsTrue ((system_of e.task).goal s)) e.own.goals s
                      i.order.layout i.own.goals (has_parts e.order e.nodes f s here).0 goal,
                ))),
          ));
    }

    module _ (b g : ℕ) (there : set_at e.sets b ≡ Some g) (new : List Node) (id : ℕ) (at : id < length new) where
      other : IsKnownSet e.order e.nodes g
      other = id_there e.order e.nodes e.sets b g i.sets there

      other_is : (s : State) → has_state e.order e.nodes g s ≡ (seen e).has b s
      other_is s = sym (has_there e b g s there)

      pub united_made : ((v : Bits) → means new id v ≡ (means e.nodes f v || means e.nodes g v)) → Makes (over e new) (Unites (seen e) a b) id
      united_made either = record {
        set = disj_set e.order e.nodes new f g id i.order.layout known other at either;
        has = λ s. or_says ((seen e).has a s) ((seen e).has b s) (has_state e.order new id s)
            (disj_has e.order e.nodes new f g id s either ∙ ap (λ (x : Bool). x || has_state e.order e.nodes g s)
            (seen_is s) ∙ ap (λ (x : Bool). (seen e).has a s || x) (other_is s));
      }

      pub common_made : ((v : Bits) → means new id v ≡ (means e.nodes f v && means e.nodes g v)) → Makes (over e new) (Meets (seen e) a b) id
      common_made both = record {
        set = conj_set e.order e.nodes new f g id i.order.layout known other at both;
        has = λ s. and_says ((seen e).has a s) ((seen e).has b s) (has_state e.order new id s)
            (conj_has e.order e.nodes new f g id s both ∙ ap (λ (x : Bool). x && has_state e.order e.nodes g s)
            (seen_is s) ∙ ap (λ (x : Bool). (seen e).has a s && x) (other_is s));
      }

      pub left_made : ((v : Bits) → means new id v ≡ (means e.nodes f v && not (means e.nodes g v))) → Makes (over e new) (Lacks (seen e) a b) id
      left_made one = record {
        set = minus_set e.order e.nodes new f g id i.order.layout known other at one;
        has = λ s. not_says ((seen e).has a s) ((seen e).has b s) (has_state e.order new id s)
            (minus_has e.order e.nodes new f g id s one ∙ ap (λ (x : Bool). x && not (has_state e.order e.nodes g s))
            (seen_is s) ∙ ap (λ (x : Bool). (seen e).has a s && not x) (other_is s));
      }

-- The states of a set in which a base variable has a value.
use Rattle.std.proofs.Common.{◌≡◌, ℕ, ◌<◌, ◌==◌, true, ◌&&◌, List, length, get_or, Option, Some, IsSome, refl, sym, ◌∙◌, ap, subst}
use Rattle.std.specs.Option.{option_map_or}
use Rattle.std.proofs.lemmas.Bool.{eq-eqb, eqb-true, and_parts, and_from}
use Rattle.symk_task.specs.declared.parts.Fact.{Fact}
use Rattle.symk_task.specs.Variables.{IsBase, place}
use Rattle.bdd_table.specs.declared.node.Node.{Node}
use Rattle.bdd_table.specs.Diagram.{Bits, means, Keeps}
use Rattle.var_order.specs.Layout.{slot_of}
use Rattle.var_order.specs.Codes.{IsCode, coded_value}
use Rattle.var_order.proofs.Values.{base_slot}
use Rattle.transitions.specs.Relations.{Names}
use Rattle.space_api.specs.View.{FactIn}
use Rattle.space_api.proofs.Facts.{base_holds}
use Rattle.bdd_space.specs.Slots.{set_at}
use Rattle.bdd_space.specs.Members.{has_state, IsKnownSet, HasThose}
use Rattle.bdd_space.specs.Symbolic.{Symbolic, IsSpace, Makes}
use Rattle.bdd_space.specs.Seen.{seen}
use Rattle.bdd_space.proofs.Having.{has_parts, has_member, member_has, those_has, has_those, set_of_those}
use Rattle.bdd_space.proofs.Keeping.{over, id_there, has_there}

module _ (e : Symbolic) (start : List ℕ) (i : IsSpace e start) (fact : Fact) (base : IsBase e.task fact.var) where
  slot_is : slot_of e.order fact.var ≡ Some (place e.task fact.var)
  slot_is = base_slot e.task e.order fact.var i.order base

  -- the variable has a value in each state
  pub slot_there : IsSome (slot_of e.order fact.var)
  slot_there = subst (λ (x : Option ℕ). IsSome x) (sym slot_is) refl

  value_is : (s : List ℕ) → coded_value e.order s fact.var ≡ get_or s (place e.task fact.var) 0
  value_is s = ap (λ (x : Option ℕ). option_map_or (λ slot. get_or s slot 0) x 0) slot_is

  -- `facts` holds over the table in the middle where the variable has the value, and `id` where `f` does, too
  module _ (a f : ℕ) (is : set_at e.sets a ≡ Some f) (mid new : List Node) (facts id : ℕ) (k : Keeps e.nodes mid) (at : id < length new)
      (both : (b : Bits) → means new id b ≡ (means mid f b && means mid facts b))
      (says : (s : List ℕ) (b : Bits) → IsCode e.order 0 s b → means mid facts b ≡ (coded_value e.order s fact.var == fact.val)) where
    set : IsKnownSet e.order e.nodes f
    set = id_there e.order e.nodes e.sets a f i.sets is

    abbrev Chosen : List ℕ → Type 0
    Chosen s = (has_state e.order e.nodes f s ≡ true) × (get_or s (place e.task fact.var) 0 ≡ fact.val)

    named : Names e.order Chosen (means new id)
    named b = (
      (λ h. (
          let p = and_parts (means mid f b) (means mid facts b) (sym (both b) ∙ h) in
          let x = (set.set b).0 (sym (k.meaning f b set.known) ∙ p.0) in (
            x.0,
            x.1,
            x.2,
            (
              member_has e.order e.nodes f x.0 i.order.layout set.set x.1 x.3,
              sym (value_is x.0) ∙ eqb-true (coded_value e.order x.0 fact.var) fact.val (sym (says x.0 b x.2) ∙ p.1),
            ),
          ))),
      (λ (s, state, code, (has, val)). (
          let here = (set.set b).1 (s, state, code, has_member e.order e.nodes f s i.order.layout has) in
          both b ∙ and_from (means mid f b) (means mid facts b) (k.meaning f b set.known ∙ here)
          (says s b code ∙ eq-eqb (coded_value e.order s fact.var) fact.val (value_is s ∙ val)))),
    )

    those : HasThose e.order new Chosen id
    those = record { known = at; names = named }

    pub fact_made : Makes (over e new) (FactIn (seen e) fact a) id
    fact_made = record {
      set = set_of_those e.order new Chosen id those;
      has = λ s. (
        (λ h. (
            let x = those_has e.order new Chosen id s i.order.layout those h in
            (has_there e a f s is ∙ x.1.0, (base_holds e.task s fact base).1 x.1.1))),
        (λ (h, holds). (
            let here = sym (has_there e a f s is) ∙ h in
            has_those e.order new Chosen id s i.order.layout those (has_parts e.order e.nodes f s here).0 (here, (base_holds e.task s fact base).0 holds))),
      );
    }

-- What the calls of a table say of a set.
use Rattle.std.proofs.Common.{◌≡◌, ◌↔◌, ℕ, ◌+◌, ◌<◌, ◌≤◌, ◌⊎◌, inl, inr, Bool, true, false, not, ◌&&◌, eqb, List, length, IsTrue, MatchBool, Option, Some, None, MatchOption, IsSomeAnd, sym, ◌∙◌, ap, subst, arith, eq-eqb, true≢false}
use Rattle.std.specs.List.{All}
use Rattle.std.proofs.lemmas.Bool.{ne_eqb}
use Rattle.std.proofs.lemmas.Option.{slice_get_cases}
use Rattle.symk_task.specs.declared.parts.Operator.{Operator}
use Rattle.symk_task.specs.declared.parts.TaskParts.{TaskParts}
use Rattle.symk_task.specs.Variables.{IsState}
use Rattle.symk_task.specs.Fits.{Fits}
use Rattle.symk_task.specs.Steps.{Holds, Allows, Step as Leads}
use Rattle.symk_task.specs.Plans.{IsInitial}
use Rattle.bdd_table.specs.declared.node.Node.{Node}
use Rattle.bdd_table.specs.Diagram.{Bits, means, IsReduced, Keeps}
use Rattle.bdd_table.proofs.Meaning.{means_false}
use Rattle.var_order.specs.Layout.{Layout, IsOrderOf}
use Rattle.bdd_sets.specs.Sets.{HasCodedState, IsOfState, IsSetOfStates}
use Rattle.axiom_layers.specs.Roots.{IsTrueWhere}
use Rattle.transitions.specs.Relations.{Names, HoldsForState, IsSet, Relates, Successor, AreOver}
use Rattle.transitions.proofs.Using.{set_alike, steps_of_relates}
use Rattle.certificates.specs.Inductive.{Begins, ClosedBy}
use Rattle.cert_check.specs.Judging.{LeavesBy, MeetsGoal, HasNoGoalState}
use Rattle.bdd_table.proofs.Witness.{is_zero, holds_for_some}
use Rattle.cert_check.proofs.Judged.{member_alike, closed_alike, leaves_alike, meets_alike, misses_alike, leaves, closed, meets, misses, members_set, members_are, has_is, begins_at}

-- an Id that isn't false holds for some bits
says_some : (nodes : List Node) → IsReduced nodes → (id : ℕ) → id < length nodes → (P Q : Type 0)
    → ((b : Bits) → means nodes id b ≡ true → P) → (((b : Bits) → means nodes id b ≡ false) → Q)
    → MatchBool (not (eqb id 0)) P Q
says_some nodes r id known P Q there none = elim (is_zero id) [
  | inl z ↦ subst (λ (t : Bool). MatchBool (not t) P Q) (sym (eq-eqb id 0 z)) (none (λ b. ap (λ (n : ℕ). means nodes n b) z ∙ means_false nodes r b))
  | inr some ↦ subst (λ (t : Bool). MatchBool (not t) P Q) (sym (ne_eqb id 0 some)) (let w = holds_for_some nodes r id known some in there w.0 w.1)
]

pub match_true : (b : Bool) (P Q : Type 0) → b ≡ true → MatchBool b P Q → P
match_true b P Q e h = subst (λ (t : Bool). MatchBool t P Q) e h

pub match_false : (b : Bool) (P Q : Type 0) → b ≡ false → MatchBool b P Q → Q
match_false b P Q e h = subst (λ (t : Bool). MatchBool t P Q) e h

pub match_some : (r : Option ℕ) (P : Type 0) (Q : ℕ → Type 0) (x : ℕ) → r ≡ Some x → MatchOption r P Q → Q x
match_some r P Q x e h = subst (λ (o : Option ℕ). MatchOption o P Q) e h

pub match_none : (r : Option ℕ) (P : Type 0) (Q : ℕ → Type 0) → r ≡ None → MatchOption r P Q → P
match_none r P Q e h = subst (λ (o : Option ℕ). MatchOption o P Q) e h

-- an Id that was known has the same members
pub kept_members : (o : Layout) (old new : List Node) (id : ℕ) → Keeps old new → id < length old → (s : List ℕ)
    → HoldsForState o (means new id) s ↔ HoldsForState o (means old id) s
kept_members o old new id k lt s = member_alike o (means new id) (means old id) s (λ b. sym (k.meaning id b lt))

pub kept_set : (o : Layout) (old new : List Node) (id : ℕ) → Keeps old new → id < length old → IsSet o (means old id) → IsSet o (means new id)
kept_set o old new id k lt set = set_alike o (means old id) (means new id) (λ b. k.meaning id b lt) set

pub kept_known : (old new : List Node) (id : ℕ) → Keeps old new → id < length old → id < length new
kept_known old new id k lt = (let more = k.known in omega (arith, more, lt))

module _ (task : TaskParts) (o : Layout) (fits : Fits task) (order : IsOrderOf task o) where
  -- One operator.
  module _ (op : ℕ) (ops0 ops1 : List Node) (members : ℕ) (places : List ℕ) (root : ℕ) (known : members < length ops0)
      (set : IsSet o (means ops0 members)) (k1 : Keeps ops0 ops1)
      (relates : Relates o places (λ s t. Leads task s op t) (means ops1 root)) where
    pub over : AreOver o places (means ops1 root) (means ops1 members)
    over = record {
      layout = order.layout;
      steps = steps_of_relates o places (λ s t. Leads task s op t)
          (means ops1 root) relates;
      states = kept_set o ops0 ops1 members k1 known set;
    }

    pub leads_says : (ops2 ops3 : List Node) (reached out : ℕ) → Keeps ops1 ops2 → IsReduced ops3
        → Names o (Successor o places (means ops1 root) (means ops1 members)) (means ops2 reached)
        → out < length ops3 → ((b : Bits) → means ops3 out b ≡ (means ops2 reached b && not (means ops2 members b)))
        → MatchBool (not (eqb out 0)) (LeavesBy task (HoldsForState o (means ops0 members)) op) (ClosedBy task (HoldsForState o (means ops0 members)) op)
    leads_says ops2 ops3 reached out k2 reduced names there minus =
        let F = means ops1 members in
        let set1 : IsSet o F = kept_set o ops0 ops1 members k1 known set in
        let in1 = kept_known ops0 ops1 members k1 known in
        let less : (b : Bits) → means ops3 out b ≡ (means ops2 reached b && not (means ops1 members b)) = λ b. minus b
        ∙ ap (λ (t : Bool). means ops2 reached b && not t) (k2.meaning members b in1) in
        let same : (s : List ℕ) → IsState task s → HoldsForState o (means ops1 members) s
        ↔ HoldsForState o (means ops0 members) s = λ s state. kept_members o ops0 ops1 members k1 known s in
        says_some ops3 reduced out there (LeavesBy task (HoldsForState o (means ops0 members)) op) (ClosedBy task (HoldsForState o (means ops0 members)) op)
        (λ b h. leaves_alike task fits (HoldsForState o F) (HoldsForState o (means ops0 members)) same op
        (leaves task o fits order op places (means ops1 root) F (means ops2 reached) (means ops3 out)
        relates set1 names less b h))
        (λ none. closed_alike task fits (HoldsForState o F) (HoldsForState o (means ops0 members)) same op
        (closed task o fits order op places (means ops1 root) F (means ops2 reached) (means ops3 out)
        relates set1 names less none))

  -- The goal.
  pub goal_says : {ops0 ops1 ops2 : List Node} (members goals met : ℕ) → members < length ops0
      → IsSet o (means ops0 members) → Keeps ops0 ops1 → IsReduced ops2
      → IsTrueWhere task o ops1 (λ s. All (Holds task s) task.goal) goals → met < length ops2
      → ((b : Bits) → means ops2 met b ≡ (means ops1 members b && means ops1 goals b))
      → MatchBool (not (eqb met 0)) (MeetsGoal task (HoldsForState o (means ops0 members))) (HasNoGoalState task (HoldsForState o (means ops0 members)))
  goal_says {ops0} {ops1} {ops2} members goals met known set k1 reduced says there both =
      let F = means ops1 members in
      let set1 : IsSet o F = kept_set o ops0 ops1 members k1 known set in
      let same : (s : List ℕ) → IsState task s → HoldsForState o (means ops1 members) s
      ↔ HoldsForState o (means ops0 members) s = λ s state. kept_members o ops0 ops1 members k1 known s in
      says_some ops2 reduced met there (MeetsGoal task (HoldsForState o (means ops0 members))) (HasNoGoalState task (HoldsForState o (means ops0 members)))
      (λ b h. meets_alike task fits (HoldsForState o F) (HoldsForState o (means ops0 members)) same
      (meets task o fits order F (means ops1 goals) (means ops2 met) set1 says both b h))
      (λ none. misses_alike task fits (HoldsForState o F) (HoldsForState o (means ops0 members)) same
      (misses task o fits order F (means ops1 goals) (means ops2 met) set1 says both none))

  -- The members of a set.
  pub record AreMembers (ops0 : List Node) (set : ℕ) (ops1 : List Node) (members : ℕ) : Type 0 where
    pub known : members < length ops1
    pub is_set : IsSet o (means ops1 members)
    pub same : (s : List ℕ) → IsState task s → HoldsForState o (means ops0 set) s ↔ HoldsForState o (means ops1 members) s

  pub members_made : {ops0 ops1 : List Node} (ops2 : List Node) (set valid members : ℕ) → set < length ops0
      → IsSetOfStates o ops0 set → Keeps ops0 ops1 → ((b : Bits) → (means ops1 valid b ≡ true) ↔ IsOfState o b)
      → members < length ops2 → ((b : Bits) → means ops2 members b ≡ (means ops1 valid b && means ops1 set b)) → AreMembers ops0 set ops2 members
  members_made {ops0} {ops1} ops2 set valid members known alone k1 all there both =
      let less : (b : Bits) → means ops2 members b ≡ (means ops1 valid b && means ops0 set b) = λ b. both b
      ∙ ap (λ (t : Bool). means ops1 valid b && t) (k1.meaning set b known) in
      record {
        known = there;
        is_set = members_set task o fits order (means ops1 valid) (means ops0 set) (means ops2 members) all alone less;
        same = λ s state. (let h = members_are task o fits order (means ops1 valid) (means ops0 set) (means ops2 members) all alone less s state in (h.1, h.0));
      }

  -- the initial state
  pub begins_has : (nodes : List Node) (set : ℕ) (start : List ℕ) (r : Bool) → IsInitial task start
      → IsSetOfStates o nodes set → IsTrue r ↔ HasCodedState o nodes set start → r ≡ true
      → Begins task (HoldsForState o (means nodes set))
  begins_has nodes set start r i alone says e = begins_at task (HoldsForState o (means nodes set)) start i
      ((has_is task o fits order nodes set start i.state alone).0 (says.0 e))

  pub begins_not : (nodes : List Node) (set : ℕ) (start : List ℕ) (r : Bool) → IsInitial task start
      → IsSetOfStates o nodes set → IsTrue r ↔ HasCodedState o nodes set start → r ≡ false → (s : List ℕ) × IsInitial task s
      × (HoldsForState o (means nodes set) s → ⊥)
  begins_not nodes set start r i alone says e = (
    start,
    i,
    λ member. true≢false
        (sym (says.1 ((has_is task o fits order nodes set start i.state alone).1 member)) ∙ e),
  )

-- an operator less to look at
pub closed_more : (task : TaskParts) (I : List ℕ → Type 0) (n : ℕ) → ((a : ℕ) → a < n → ClosedBy task I a)
    → ClosedBy task I n → (a : ℕ) → a < n + 1 → ClosedBy task I a
closed_more task I n before here a lt = elim (below_or_at a n lt) [
  | inl less ↦ before a less
  | inr e ↦ subst (ClosedBy task I) (sym e) here
]
  where
    below_or_at : (op n : ℕ) → op < n + 1 → (op < n) ⊎ (op ≡ n)
    below_or_at op n h = grind arith

-- no number past the last is an operator's
pub past_operators : (task : TaskParts) (I : List ℕ → Type 0) (n : ℕ) → length task.operators ≤ n
    → ((a : ℕ) → a < n → ClosedBy task I a) → (a : ℕ) → ClosedBy task I a
past_operators task I n all before a s t state member step = elim (slice_get_cases task.operators a).1 [
  | inl some ↦ (let lt = some.1 in before a (omega (arith, lt, all)) s t state member step)
  | inr past ↦ absurd (subst (λ (x : Option Operator). IsSomeAnd x
      (λ operator. All (Holds task s) operator.prevail × All (Allows task s) operator.effects)) past.1 step.0)
]

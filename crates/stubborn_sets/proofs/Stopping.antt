-- Barred variables whose rules are stopped, and such whose rules wait for that.
use Rattle.std.proofs.Common.{◌≡◌, ℕ, ◌<◌, ◌⊎◌, inl, inr, Bool, false, IsTrue, List, [], ◌∷◌, ◌++◌, length, get_or, replicate, refl, sym, ap, subst, ◌∙◌, Vec, Global}
use Rattle.std.specs.List.{Contains}
use Rattle.std.proofs.Math.ListN.{length-replicate}
use Rattle.std.proofs.lemmas.Bool.{cases_eq}
use Rattle.std.proofs.lemmas.List.Elements.{All-contains, Contains-append_left, Contains-append_right, Contains-append_cases, Contains-push, Contains-push_cases}
use Rattle.symk_task.specs.declared.parts.Rule.{Rule}
use Rattle.symk_task.specs.declared.parts.TaskParts.{TaskParts}
use Rattle.stubborn_sets.specs.declared.growing.Growing.{Growing}
use Rattle.stubborn_sets.specs.Barring.{IsStopped, AreStopped, AreBarredRules}
use Rattle.stubborn_sets.specs.Closing.{has_mark, GrowsMarks}
use Rattle.stubborn_sets.specs.Growing.{AddsNumbers, IsBarring}
use Rattle.stubborn_sets.specs.Kept.{AreRulesFor}
use Rattle.stubborn_sets.proofs.ListsLaw.{none_in}
use Rattle.stubborn_sets.proofs.Marks.{none_marked}
use Rattle.stubborn_sets.proofs.Needs.{stopped_grows}

-- a number is in a list or not
either_in : (xs : List ℕ) (x : ℕ) → Contains xs x ⊎ (¬ Contains xs x)
either_in [] x = inr (none_in x)
either_in (y ∷ xs) x = elim (cases_eq y x) [
  | inl same ↦ inl (subst (λ (z : ℕ). Contains (y ∷ xs) z) same (Contains-append_left (y ∷ []) xs y (Contains-push [] y)))
  | inr off ↦ elim (either_in xs x) [
    | inl has ↦ inl (Contains-append_right (y ∷ []) xs x has)
    | inr none ↦ inr (λ h. elim (Contains-append_cases (y ∷ []) xs x h) [
      | inl first ↦ elim (Contains-push_cases [] y x first) [ inl never ↦ none_in x never | inr is ↦ off is ]
      | inr rest ↦ none rest
    ])
  ]
]

-- the rules for a variable are stopped where those are that are listed for it
pub all_stopped : (task : TaskParts) (values : List ℕ) (barred marks : List Bool) (var : ℕ) (numbers : List ℕ) → AreRulesFor task.rules var numbers
    → ((j d : ℕ) (e : Rule) → j < length numbers → IsStopped task values barred marks
    (get_or task.rules (get_or numbers j d) e)) → AreStopped task values barred marks var
all_stopped task values barred marks var numbers are each k d lt on = elim (either_in numbers k) [
  | inl has ↦ All-contains (λ (n : ℕ). IsStopped task values barred marks (get_or task.rules n d)) numbers k (λ j e below. each j e d below) has
  | inr off ↦ absurd (are.out k lt off d on)
]

-- one variable is barred
pub barring_begins : (task : TaskParts) (values : List ℕ) (first next set : Growing) (n : ℕ)
    → n ≡ length task.variables → first.marks.items ≡ replicate n false → first.waiting.items ≡ [] → AddsNumbers first next
    → IsBarring task values next set
barring_begins task values first next set n each marks last d = record {
  each = d.each ∙ ap (λ (z : List Bool). length z) marks ∙ length-replicate n false ∙ each;
  marked = λ var h. elim (d.marked var h) [
    | inl was ↦ absurd (none_in var (subst (λ (z : List ℕ). Contains z var) last was))
    | inr it_is ↦ it_is
  ];
  rules = λ var h. elim (d.waits var h) [
    | inl was ↦ absurd (none_marked n var (subst (λ (z : List Bool). IsTrue (has_mark z var)) marks was))
    | inr new ↦ inl new
  ];
}

-- the rules for one that waited are stopped
pub barring_on : {task : TaskParts} {values : List ℕ} {bars next old : Growing} (new : Growing)
    (rest : Vec ℕ Global) (one : ℕ) → IsBarring task values bars old → bars.waiting.items ≡ rest.items ++ one ∷ []
    → AddsNumbers (record { marks = bars.marks; waiting = rest }) next → GrowsMarks old.marks.items new.marks.items
    → AreStopped task values next.marks.items new.marks.items one → IsBarring task values next new
barring_on {task} {values} {bars} {next} {old} new rest one g last d grows here = record {
  each = d.each ∙ g.each;
  marked = λ var h. elim (d.marked var h) [
    | inl was ↦ d.grows var (g.marked var (subst (λ (z : List ℕ). Contains z var) (sym last) (Contains-append_left rest.items (one ∷ []) var was)))
    | inr it_is ↦ it_is
  ];
  rules = λ var h. elim (d.waits var h) [
    | inl was ↦ elim (g.rules var was) [
      | inl waited ↦ elim (Contains-push_cases rest.items one var (subst (λ (z : List ℕ). Contains z var) last waited)) [
        | inl still ↦ inl (d.keeps var still)
        | inr is ↦ inr (subst (λ (z : ℕ). AreStopped task values next.marks.items new.marks.items z) is here)
      ]
      | inr stopped ↦ inr (λ k e lt on. stopped_grows task values bars.marks.items next.marks.items old.marks.items
          new.marks.items (get_or task.rules k e) d.grows grows (stopped k e lt on))
    ]
    | inr new ↦ inl new
  ];
}

-- none waits
pub barring_ends : (task : TaskParts) (values : List ℕ) (barred set : Growing) → IsBarring task values barred set
    → barred.waiting.items ≡ [] → AreBarredRules task values barred.marks.items set.marks.items task.rules
barring_ends task values barred set g last k d lt on = elim (g.rules (get_or task.rules k d).var on) [
  | inl waits ↦ absurd (none_in (get_or task.rules k d).var (subst (λ (z : List ℕ). Contains z (get_or task.rules k d).var) last waits))
  | inr stopped ↦ stopped k d lt refl
]

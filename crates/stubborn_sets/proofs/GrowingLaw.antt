-- Sets that grow.
use Rattle.std.proofs.Common.{◌≡◌, ◌≢◌, ℕ, ◌<◌, ◌⊎◌, inl, inr, Bool, true, false, IsTrue, List, [], ◌∷◌, ◌++◌, length, get_or, Option, Some, IsSomeAnd, Result, Ok, Err, OnOk, IfOk, slice_get, replicate, refl, sym, ap, subst, ◌∙◌, arith}
use Rattle.std.specs.List.{All, Contains}
use Rattle.std.proofs.Math.ListN.{set, length-set, length-append, length-replicate}
use Rattle.std.proofs.lemmas.List.{get_or-set_other}
use Rattle.std.proofs.lemmas.Bool.{cases_eq}
use Rattle.std.proofs.lemmas.List.Elements.{All-contains, Contains-get_or, Contains-append_left, Contains-push, Contains-push_cases}
use Rattle.symk_task.specs.declared.parts.Fact.{Fact}
use Rattle.symk_task.specs.declared.parts.Operator.{Operator}
use Rattle.symk_task.specs.declared.parts.TaskParts.{TaskParts}
use Rattle.task_run.specs.Values.{AppliesBy}
use Rattle.stubborn_sets.specs.declared.growing.Growing.{Growing}
use Rattle.stubborn_sets.specs.Making.{IsMissingFact}
use Rattle.stubborn_sets.specs.Closing.{has_mark, HasMakers, StaysFalse, HasConflicts, HasNeeds}
use Rattle.stubborn_sets.specs.Kept.{LeavesOut, AreMakers, AreConflicts}
use Rattle.stubborn_sets.specs.Growing.{left, AddsNumbers, IsGrowing, IsPopped, IsClosedByNeeds}
use Rattle.stubborn_sets.proofs.ListsLaw.{none_in}
use Rattle.stubborn_sets.proofs.Marks.{here, still, further, one_fewer, none_marked, is_there}
use Rattle.stubborn_sets.proofs.Needs.{Needs, needs_grow}

-- An operator that is in the set or not.

either : (b : Bool) → IsTrue b ⊎ (¬ IsTrue b)
either true = inl refl
either false = inr (λ h. (cc))

-- the makers of a fact, once they are in the set
pub has_makers : (task : TaskParts) (fact : Fact) (ops : List ℕ) (marks : List Bool) → AreMakers task fact ops
    → All (λ op. IsTrue (has_mark marks op)) ops → HasMakers task fact marks
has_makers task fact ops marks makers all a lt = elim (either (has_mark marks a)) [
  | inl it_is ↦ inl it_is
  | inr off ↦ inr (makers.out a lt (λ h. off (All-contains (λ (op : ℕ). IsTrue (has_mark marks op)) ops a all h)))
]

pub has_conflicts : (task : TaskParts) (one : ℕ) (ops : List ℕ) (marks : List Bool) → AreConflicts task one ops
    → All (λ op. IsTrue (has_mark marks op)) ops → HasConflicts task one marks
has_conflicts task one ops marks conflicts all a lt = elim (either (has_mark marks a)) [
  | inl it_is ↦ inl it_is
  | inr off ↦ inr (conflicts.out a lt (λ h. off (All-contains (λ (op : ℕ). IsTrue (has_mark marks op)) ops a all h)))
]

-- What an addition keeps.

pub adds_refl : (set : Growing) → AddsNumbers set set
adds_refl s = record { grows = λ a h. h; each = refl; keeps = λ a h. h; waits = λ a h. inl h; marked = λ a h. inl h; room = refl }

pub adds_trans : (a b c : Growing) → AddsNumbers a b → AddsNumbers b c → AddsNumbers a c
adds_trans a b c to on = record {
  grows = further a.marks.items b.marks.items c.marks.items to.grows on.grows;
  each = on.each ∙ to.each;
  keeps = λ x h. on.keeps x (to.keeps x h);
  waits = λ x h. elim (on.waits x h) [
    | inl was ↦ elim (to.waits x was) [ inl old ↦ inl old | inr new ↦ inr (on.keeps x new) ]
    | inr new ↦ inr new
  ];
  marked = λ x h. elim (on.marked x h) [
    | inl was ↦ elim (to.marked x was) [ inl old ↦ inl old | inr marked ↦ inr (on.grows x marked) ]
    | inr marked ↦ inr marked
  ];
  room = on.room ∙ to.room;
}

-- one number, which was not in the set
pub adds_new : (old new : Growing) (op : ℕ) → op < length old.marks.items → ¬ IsTrue (has_mark old.marks.items op)
    → new.marks.items ≡ set old.marks.items op true → new.waiting.items ≡ old.waiting.items ++ op ∷ []
    → AddsNumbers old new
adds_new old new op lt off marks last = record {
  grows = λ a h. subst (λ (z : List Bool). IsTrue (has_mark z a)) (sym marks) (still old.marks.items op lt a h);
  each = ap (λ (z : List Bool). length z) marks ∙ simp length-set;
  keeps = λ a h. subst (λ (z : List ℕ). Contains z a) (sym last) (Contains-append_left old.waiting.items (op ∷ []) a h);
  waits = waits;
  marked = λ a h. elim (Contains-push_cases old.waiting.items op a (subst (λ (z : List ℕ). Contains z a) last h)) [
    | inl was ↦ inl was
    | inr is ↦ inr (subst (λ (z : ℕ). IsTrue (has_mark new.marks.items z)) is
        (subst (λ (z : List Bool). IsTrue (has_mark z op)) (sym marks) (here old.marks.items op lt)))
  ];
  room = (
      let f = one_fewer old.marks.items op lt off in
      let m = ap left marks in
      let o = ap (λ (z : List ℕ). length z) last in
      let l = length-append old.waiting.items (op ∷ []) in
      omega (arith, f, m, o, l));
}
  where
    waits : (a : ℕ) → IsTrue (has_mark new.marks.items a) → IsTrue (has_mark old.marks.items a) ⊎ Contains new.waiting.items a
    waits a h = elim (cases_eq a op) [
      | inl same ↦ inr (subst (λ (z : List ℕ). Contains z a) (sym last)
          (subst (λ (z : ℕ). Contains (old.waiting.items ++ op ∷ []) z) (sym same)
          (Contains-push old.waiting.items op)))
      | inr off ↦ (let ne : a ≢ op = off in inl (sym (get_or-set_other old.marks.items op a true false ne) ∙ subst
          (λ (z : List Bool). IsTrue (has_mark z a)) marks h))
    ]

-- A set of operators before its growth, and after each step.

pub growing_begins : (task : TaskParts) (values : List ℕ) (set : Growing) (n : ℕ) → n ≡ length task.operators
    → set.marks.items ≡ replicate n false → set.waiting.items ≡ [] → IsGrowing task values set
growing_begins task values s n each marks last = record {
  each = ap (λ (z : List Bool). length z) marks ∙ length-replicate n false ∙ each;
  marked = λ a h. absurd (none_in a (subst (λ (z : List ℕ). Contains z a) last h));
  needs = λ a h. absurd (none_marked n a (subst (λ (z : List Bool). IsTrue (has_mark z a)) marks h));
}

pub growing_adds : (task : TaskParts) (values : List ℕ) (old new : Growing) → IsGrowing task values old → AddsNumbers old new → IsGrowing task values new
growing_adds task values old new g d = record {
  each = d.each ∙ g.each;
  marked = λ a h. elim (d.marked a h) [ inl was ↦ d.grows a (g.marked a was) | inr it_is ↦ it_is ];
  needs = λ a h. elim (d.waits a h) [
    | inl was ↦ elim (g.needs a was) [
      | inl waiting ↦ inl (d.keeps a waiting)
      | inr needs ↦ inr (needs_grow task values a old.marks.items new.marks.items (slice_get task.operators a) d.grows needs)
    ]
    | inr new ↦ inl new
  ];
}

-- one that was popped has what it needs
growing_served : (task : TaskParts) (values : List ℕ) (one : ℕ) (old new : Growing) → IsPopped task values one old
    → AddsNumbers old new → HasNeeds task values one new.marks.items → IsGrowing task values new
growing_served task values one old new p d has = record {
  each = d.each ∙ p.each;
  marked = λ a h. elim (d.marked a h) [ inl was ↦ d.grows a (p.marked a was) | inr it_is ↦ it_is ];
  needs = λ a h. elim (d.waits a h) [
    | inl was ↦ elim (p.needs a was) [
      | inl same ↦ inr (subst (λ (z : ℕ). HasNeeds task values z new.marks.items) (sym same) has)
      | inr (inl waiting) ↦ inl (d.keeps a waiting)
      | inr (inr needs) ↦ inr (needs_grow task values a old.marks.items new.marks.items (slice_get task.operators a) d.grows needs)
    ]
    | inr new ↦ inl new
  ];
}

-- by what a missing precondition waits for
pub served_false : {task : TaskParts} {values : List ℕ} {one : ℕ} {old new : Growing} (operator : Operator)
    (fact : Fact) → slice_get task.operators one ≡ Some operator → IsMissingFact values operator fact
    → IsPopped task values one old → AddsNumbers old new → StaysFalse task values new.marks.items fact
    → IsGrowing task values new
served_false {task} {values} {one} {old} {new} operator fact is lacks p d stays =
    growing_served task values one old new p d
    (subst (λ (o : Option Operator). IsSomeAnd o (Needs task values one new.marks.items)) (sym is) (inr (fact, lacks, stays)))

-- by those that don't commute with it
pub served_conflicts : {task : TaskParts} {values : List ℕ} {one : ℕ} {old new : Growing} (operator : Operator)
    (ops : List ℕ) → slice_get task.operators one ≡ Some operator → AppliesBy values operator
    → AreConflicts task one ops → IsPopped task values one old → AddsNumbers old new
    → All (λ op. IsTrue (has_mark new.marks.items op)) ops → IsGrowing task values new
served_conflicts {task} {values} {one} {old} {new} operator ops is applies conflicts p d all =
    growing_served task values one old new p d
    (subst (λ (o : Option Operator). IsSomeAnd o (Needs task values one new.marks.items)) (sym is)
    (inl (applies, has_conflicts task one ops new.marks.items conflicts all)))

-- both of what is said of a value
pub on_both : {T E : Type 0} (r : Result T E) (A B C : Type 0) → (A → B → C) → OnOk r A → OnOk r B → OnOk r C
on_both (Ok x) A B C f a b = f a b
on_both (Err e) A B C f a b = tt

-- so where that speaks of the value
pub if_both : {T E : Type 0} (r : Result T E) (A B C : T → Type 0) → ((x : T) → A x → B x → C x) → IfOk r A → IfOk r B → IfOk r C
if_both (Ok x) A B C f a b = f x a b
if_both (Err e) A B C f a b = tt

-- operators that were listed are there
pub all_within : {Fine : ℕ → Type 0} (n m : ℕ) (ops : List ℕ) → LeavesOut Fine n ops → m ≡ n → All (λ op. op < m) ops
all_within n m ops h same k d lt = (let within = h.within (get_or ops k d) (Contains-get_or ops k d lt) in omega (arith, within, same))

-- one is popped
pub popped : (task : TaskParts) (values : List ℕ) (old new : Growing) (one : ℕ) → IsGrowing task values old
    → old.waiting.items ≡ new.waiting.items ++ one ∷ [] → new.marks.items ≡ old.marks.items
    → IsPopped task values one new
popped task values old new one g last marks = record {
  within = (let lt = is_there old.marks.items one member in omega (arith, lt, g.each));
  each = ap (λ (z : List Bool). length z) marks ∙ g.each;
  marked = λ a h. subst (λ (z : List Bool). IsTrue (has_mark z a)) (sym marks)
      (g.marked a (subst (λ (z : List ℕ). Contains z a) (sym last)
      (Contains-append_left new.waiting.items (one ∷ []) a h)));
  needs = λ a h. elim (g.needs a (subst (λ (z : List Bool). IsTrue (has_mark z a)) marks h)) [
    | inl was ↦ elim (Contains-push_cases new.waiting.items one a (subst (λ (z : List ℕ). Contains z a) last was)) [
      | inl still ↦ inr (inl still)
      | inr is ↦ inl (sym is)
    ]
    | inr needs ↦ inr (inr (subst (λ (z : List Bool). HasNeeds task values a z) (sym marks) needs))
  ];
}
  where
    member : IsTrue (has_mark old.marks.items one)
    member = g.marked one (subst (λ (z : List ℕ). Contains z one) (sym last) (Contains-push new.waiting.items one))

-- nothing is last
pub closed : (task : TaskParts) (values : List ℕ) (set : Growing) → IsGrowing task values set → set.waiting.items ≡ [] → IsClosedByNeeds task values set
closed task values s g last = record {
  each = g.each;
  needs = λ a h. elim (g.needs a h) [
    | inl was ↦ absurd (none_in a (subst (λ (z : List ℕ). Contains z a) last was))
    | inr needs ↦ needs
  ];
}

-- What a check has found after one block more.
use Rattle.std.proofs.Common.{◌≡◌, ℕ, ◌+◌, ◌-◌, ◌<◌, ◌≤◌, List, [], ◌∷◌, ◌++◌, length, get_or, take, Option, Some, None, inl, inr, refl, sym, ap, ◌∙◌, subst, arith}
use Rattle.std.specs.Prelude.{slice_get, IsSomeAnd}
use Rattle.std.proofs.lemmas.Bool.{cases_eq}
use Rattle.std.proofs.lemmas.List.{take_more, length-take-le}
use Rattle.std.proofs.lemmas.Option.{slice_get_read, slice_get_within}
use Rattle.symk_task.specs.declared.parts.Mode.{Mode}
use Rattle.symk_task.specs.declared.parts.TaskParts.{TaskParts}
use Rattle.symk_task.specs.Fits.{Fits}
use Rattle.plan_out.specs.declared.blocks.ReadBlock.{ReadBlock}
use Rattle.plan_out.specs.declared.check.Why.{Why}
use Rattle.plan_out.specs.declared.check.Checked.TheVariants.{Good, Bad}
use Rattle.plan_out.specs.Fails.{IsFirstReason, Fails, Finds}
use Rattle.plan_out.specs.Checks.{Passes}
use Rattle.plan_out.proofs.Reasons.{passes_clear}

-- none of the first blocks fails
abbrev pub NoneBelow : TaskParts → Mode → List ReadBlock → ℕ → Type 0
NoneBelow task mode blocks i = (k : ℕ) (why : Why) → k < i → ¬ Fails task mode blocks k why

pub count_before : (blocks : List ReadBlock) (i : ℕ) → i < length blocks → i + 1 ≡ length (take i blocks) + 1
count_before blocks i lt = (let e = length-take-le i blocks (omega arith) in omega (arith, e))

pub before_more : (blocks : List ReadBlock) (i : ℕ) (b : ReadBlock) → i < length blocks → b ≡ get_or blocks i b → take i blocks ++ b ∷ [] ≡ take (i + 1) blocks
before_more blocks i b lt is = ap (λ (x : ReadBlock). take i blocks ++ x ∷ []) is ∙ sym (take_more blocks i b lt)

here : (blocks : List ReadBlock) (i : ℕ) (b : ReadBlock) → i < length blocks → b ≡ get_or blocks i b → slice_get blocks i ≡ Some b
here blocks i b lt is = slice_get_read blocks (length blocks) i b refl lt is

pub none_more : (task : TaskParts) (mode : Mode) (blocks : List ReadBlock) (i : ℕ) (b : ReadBlock) → Fits task → i < length blocks → b ≡ get_or blocks i b
    → NoneBelow task mode blocks i → Passes task mode (take i blocks) b → NoneBelow task mode blocks (i + 1)
none_more task mode blocks i b fits lt is none passes k why below fails = elim (cases_eq k i) [
  | inl e ↦ (let at : Fails task mode blocks i why = subst (λ (n : ℕ). Fails task mode blocks n why) e fails in
      let one : IsFirstReason task mode (take i blocks) b why =
      subst (λ (o : Option ReadBlock). IsSomeAnd o (λ x. IsFirstReason task mode (take i blocks) x why))
      (here blocks i b lt is) at in
      passes_clear task mode (take i blocks) b fits passes why one.0)
  | inr ne ↦ none k why (omega (arith, below, ne)) fails
]

pub found_bad : (task : TaskParts) (mode : Mode) (blocks : List ReadBlock) (i : ℕ) (b : ReadBlock) (why : Why) → i < length blocks → b ≡ get_or blocks i b
    → NoneBelow task mode blocks i → IsFirstReason task mode (take i blocks) b why → Finds task mode blocks (Bad (i + 1) why)
found_bad task mode blocks i b why lt is none reason =
    let place : i ≡ i + 1 - 1 = omega arith in
    let at : Fails task mode blocks i why = subst (λ (o : Option ReadBlock). IsSomeAnd o
    (λ x. IsFirstReason task mode (take i blocks) x why)) (sym (here blocks i b lt is)) reason in
    (omega arith, subst (λ (n : ℕ). Fails task mode blocks n why) place at, (λ k other below fails. none k other (omega (arith, below)) fails))

pub found_good : (task : TaskParts) (mode : Mode) (blocks : List ReadBlock) (i : ℕ) → length blocks ≤ i
    → NoneBelow task mode blocks i → Finds task mode blocks (Good (length blocks))
found_good task mode blocks i all none = (refl, good)
  where
    good : (k : ℕ) (why : Why) → ¬ Fails task mode blocks k why
    good k why fails = none k why (omega (arith, all, within k (slice_get blocks k) refl fails)) fails
      where
        within : (k : ℕ) (o : Option ReadBlock) → slice_get blocks k ≡ o → IsSomeAnd o (λ x. IsFirstReason task mode (take k blocks) x why) → k < length blocks
        within k None e h = absurd h
        within k (Some b) e h = slice_get_within blocks k b e

-- What the steps of a check find.
use Rattle.std.specs.Prelude.{◌≡◌, ℕ, ◌-◌, ◌<◌, ◌≤◌, ◌↔◌, List, [], ◌∷◌, ◌++◌, length, slice_get, All, Contains, IsTrue, MatchOption, Option, Some, None, if◌then◌else◌}
use Rattle.std.specs.Option.{option_map_or}
use Rattle.std.specs.List.Sorted.{IsPermutation, IsNonDecreasing}
use Rattle.std.specs.BTreeSet.{contains}
use Rattle.std.specs.Cmp.Lexicographic.{pointwise, slice_cmp}
use Rattle.std.specs.Ordering.{nat_cmp}
use Rattle.std.specs.Prelude.{◌==◌}
use Rattle.indexmap.specs.IndexMap.{get}
use Rattle.symk_task.specs.declared.parts.Mode.{Mode}
use Rattle.symk_task.specs.declared.parts.Mode.TheVariants.{TopK, Loopless, Unordered}
use Rattle.symk_task.specs.declared.parts.TaskParts.{TaskParts}
use Rattle.symk_task.specs.Plans.{IsInitial, IsPlan, Trace, Same, cost_of}
use Rattle.task_run.specs.Verdicts.{AreOperators, IsTooLarge, Stops, Misses}
use Rattle.plan_out.specs.declared.blocks.ReadBlock.{ReadBlock}
use Rattle.plan_out.specs.declared.run.Outcome.{Outcome}
use Rattle.plan_out.specs.declared.run.Outcome.TheVariants.{Reaches}
use Rattle.plan_out.specs.declared.run.Outcome.TheVariants as outcome
use Rattle.plan_out.specs.declared.run.Passed.{Passed}
use Rattle.plan_out.specs.declared.seen.Seen.{Seen}
use Rattle.plan_out.specs.declared.check.Why.{Why}
use Rattle.plan_out.specs.declared.check.Why.TheVariants.{NoSuchOperator, WrongName, StopsAt, MissesGoal, WrongCost, Repeats, Cheaper, Loops}
use Rattle.plan_out.specs.Fails.{AreNamed, IsMisnamed, IsCostLine, IsFirstSame, IsCheaper, Recurs, IsFirstReturn}

-- what is wrong with the spelling of a block
abbrev pub IsSpelling : TaskParts → ReadBlock → Why → Type 0
IsSpelling task b (NoSuchOperator step) = (1 ≤ step) × IsTooLarge (length task.operators) b.ops (step - 1)
IsSpelling task b (WrongName step) = AreOperators task b.ops × (1 ≤ step) × IsMisnamed task.operators b.ops b.names (step - 1)
IsSpelling task b (StopsAt step) = ⊥
IsSpelling task b MissesGoal = ⊥
IsSpelling task b (WrongCost cost) = ⊥
IsSpelling task b (Repeats earlier) = ⊥
IsSpelling task b Cheaper = ⊥
IsSpelling task b (Loops step) = ⊥

-- no state stands at two places
abbrev pub AreFresh : List (List ℕ) → Type 0
AreFresh passed = (k : ℕ) → k < length passed → ¬ Recurs passed k

-- the first step after which a state recurs, where the mode asks and one does
abbrev pub WalksBack : TaskParts → Mode → List ℕ → Option ℕ → Type 0
WalksBack task TopK p back = back ≡ None
WalksBack task Unordered p back = back ≡ None
WalksBack task Loopless p back = (s : List ℕ) × (passed : List (List ℕ)) × IsInitial task s × Trace task s p passed × MatchOption back (AreFresh passed) (IsFirstReturn passed)

-- What the run of operators comes to; steps count from 1.
abbrev pub IsOutcome : TaskParts → Mode → List ℕ → Outcome → Type 0
IsOutcome task mode p (outcome.StopsAt step) = (1 ≤ step) × Stops task p (step - 1)
IsOutcome task mode p outcome.MissesGoal = Misses task p
IsOutcome task mode p (Reaches back) = IsPlan task p × WalksBack task mode p back

-- the states left before this one, and the first step that led back, are noted where the mode asks
abbrev pub IsPassed : Mode → List (List ℕ) → List ℕ → Passed → Type 0
IsPassed TopK left state passed = passed.back ≡ None
IsPassed Unordered left state passed = passed.back ≡ None
IsPassed Loopless left state passed =
    MatchOption passed.back
    (((x : List ℕ) → IsTrue (contains (slice_cmp nat_cmp) passed.left x) ↔ Contains left x) × AreFresh (left ++ state ∷ []))
    (IsFirstReturn (left ++ state ∷ []))

-- what a plan is noted by
abbrev pub IsKey : Mode → List ℕ → List ℕ → Type 0
IsKey TopK p key = p ≡ key
IsKey Loopless p key = p ≡ key
IsKey Unordered p key = IsPermutation p key × IsNonDecreasing key

-- the number of the first block that is noted by the key
abbrev pub first_of : Seen → List ℕ → Option ℕ
first_of seen key = get (pointwise ◌==◌) seen.first key

-- the key is noted with this number, and every other key as before
abbrev pub IsNoted : Seen → Seen → List ℕ → ℕ → Type 0
IsNoted old new key number = ((q : List ℕ) → first_of new q ≡ (if pointwise ◌==◌ key q then Some number else first_of old q)) × (new.cost ≡ old.cost)

-- The blocks are noted: the first of each plan, and what the last costs.
pub record IsSeen (mode : Mode) (blocks : List ReadBlock) (seen : Seen) : Type 0 where
  pub first : (p key : List ℕ) → IsKey mode p key
      → MatchOption (first_of seen key) (All (λ b. ¬ Same mode b.ops p) blocks) (λ number. (1 ≤ number) × IsFirstSame mode blocks p (number - 1))
  pub cost : seen.cost ≡ option_map_or (λ b. b.cost) (slice_get blocks (length blocks - 1)) 0

-- Nothing is wrong with the block, given those before it.
pub record Passes (task : TaskParts) (mode : Mode) (blocks : List ReadBlock) (b : ReadBlock) : Type 0 where
  pub operators : AreOperators task b.ops
  pub names : AreNamed task b
  pub plan : IsPlan task b.ops
  pub cost : IsCostLine task b (cost_of task b.ops)
  pub once : All (λ earlier. ¬ Same mode earlier.ops b.ops) blocks
  pub rising : ¬ IsCheaper blocks b
  pub back : WalksBack task mode b.ops None

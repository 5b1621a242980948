-- A block is read exactly.
use Rattle.std.proofs.Common.{◌≡◌, ℕ, ◌^◌, ◌<◌, Bool, List, [], ◌∷◌, ◌++◌, length, map, refl, ap}
use Rattle.std.specs.List.{flat_map, All}
use Rattle.line_grammar.specs.Reading.{Reading, row_at, both_at}
use Rattle.line_grammar.proofs.Exact as grammar
use Rattle.line_grammar.proofs.Joining as joining
use Rattle.plan_out.specs.declared.blocks.ReadBlock.{ReadBlock}
use Rattle.plan_out.specs.Plans.{PlanRow, plan, ops, step, cost, IsPlanRowSpelled, block_rows, IsBlock}
use Rattle.plan_out.specs.Reading.{plan_in, ops_in, step_in, cost_in, kept_state, step_at, steps_at, read_block_of, read_block_at}
use Rattle.plan_out.proofs.BlockRows.{shape_of, IsSmall, plan_is, ops_is, step_is, cost_is}

abbrev pub Exact : {A : Type 0} → Reading (Unit {0}) A → (A → List PlanRow) → (A → Type 0) → Type 0
Exact = grammar.Exact shape_of IsPlanRowSpelled

abbrev step_rows : List ℕ → List PlanRow
step_rows name = step name ∷ []

abbrev cost_rows : ℕ × Bool → List PlanRow
cost_rows x = cost x.0 x.1 ∷ []

abbrev StepsFit : ℕ → List (List ℕ) → Type 0
StepsFit n names = (length names ≡ n) × grammar.FitFrom shape_of IsPlanRowSpelled (λ (_ : Unit {0}) _. Unit {0}) kept_state tt names

exact_steps : (n : ℕ) → Exact (steps_at n) (flat_map step_rows) (StepsFit n)
exact_steps n =
    grammar.exact_many shape_of IsPlanRowSpelled step_at kept_state step_rows (λ _ _. Unit {0}) (λ _. Unit {0})
    (λ u _. grammar.exact_row shape_of IsPlanRowSpelled tt step_in step joining.Always step_is) (λ _ _ _ _. tt) n tt tt

abbrev ending_rows : List (List ℕ) × (ℕ × Bool) → List PlanRow
ending_rows x = flat_map step_rows x.0 ++ cost_rows x.1

exact_ending : (n : ℕ) → Exact (both_at (steps_at n) (λ _. row_at tt cost_in)) ending_rows (λ x. StepsFit n x.0 × Unit {0})
exact_ending n =
    joining.exact_both shape_of IsPlanRowSpelled (steps_at n) (λ _. row_at tt cost_in) (flat_map step_rows) (StepsFit n) (λ _. cost_rows) (λ _ _. Unit {0})
    (exact_steps n) (λ _ _. grammar.exact_row shape_of IsPlanRowSpelled tt cost_in (λ x. cost x.0 x.1) joining.Always cost_is)

abbrev PartsFit : List ℕ × (List (List ℕ) × (ℕ × Bool)) → Type 0
PartsFit x = All IsSmall x.0 × (StepsFit (length x.0) x.1.0 × Unit {0})

abbrev parts_rows : List ℕ × (List (List ℕ) × (ℕ × Bool)) → List PlanRow
parts_rows x = ops x.0 ∷ [] ++ ending_rows x.1

exact_parts : Exact (both_at (row_at tt ops_in) (λ p. both_at (steps_at (length p)) (λ _. row_at tt cost_in))) parts_rows PartsFit
exact_parts =
    joining.exact_both shape_of IsPlanRowSpelled (row_at tt ops_in)
    (λ p. both_at (steps_at (length p)) (λ _. row_at tt cost_in)) (λ p. ops p ∷ []) (All IsSmall)
    (λ _. ending_rows) (λ p x. StepsFit (length p) x.0 × Unit {0})
    (grammar.exact_row shape_of IsPlanRowSpelled tt ops_in ops (All IsSmall) ops_is) (λ p _. exact_ending (length p))

abbrev parts_of : ReadBlock → List ℕ × (List (List ℕ) × (ℕ × Bool))
parts_of b = (b.ops, (b.names, (b.cost, b.unit)))

each_step : (names : List (List ℕ)) → flat_map step_rows names ≡ map step names
each_step [] = refl
each_step (name ∷ names) = ap (λ (rows : List PlanRow). step name ∷ rows) (each_step names)

all_fit : (names : List (List ℕ)) → grammar.FitFrom shape_of IsPlanRowSpelled (λ (_ : Unit {0}) _. Unit {0}) kept_state tt names
all_fit [] = tt
all_fit (name ∷ names) = (tt, all_fit names)

pub exact_block : (i : ℕ) → i < 2 ^ 64 → Exact (read_block_at i) (block_rows i) IsBlock
unfolding read_block_at
exact_block i small =
    grammar.exact_as shape_of IsPlanRowSpelled (read_block_at i) (λ b. plan i ∷ parts_rows (parts_of b)) (block_rows i) (λ b. PartsFit (parts_of b)) IsBlock
    (joining.exact_made shape_of IsPlanRowSpelled read_block_of parts_of (λ a. refl) (λ b. refl) _ _ PartsFit
    (joining.exact_after shape_of IsPlanRowSpelled tt (plan_in i) (plan i) _ parts_rows PartsFit (plan_is i small) exact_parts))
    (λ b f. (record { named = f.1.0.0; small = f.0 }, ap (λ (rows : List PlanRow). plan i ∷ ops b.ops ∷ rows ++ cost b.cost b.unit ∷ []) (each_step b.names)))
    (λ b f. (f.small, ((f.named, all_fit b.names), tt)))

-- Reading a block from the first line on, up to the first line that is not as it should be.
use Rattle.std.specs.Prelude.{◌≡◌, ℕ, zero, suc, ◌+◌, ◌-◌, ◌^◌, ◌≤◌, ◌==◌, ◌&&◌, ◌||◌, nat_lt, nat_le, if◌then◌else◌, Bool, true, false, List, [], ◌∷◌, length, take, drop, slice_index, codes, Option, Some, None}
use Rattle.std.specs.Option.{option_map, option_and_then}
use Rattle.std.specs.Str.{bytes_eq}
use Rattle.line_grammar.specs.declared.Stopped.{Stopped}
use Rattle.line_grammar.specs.declared.Stopped.TheVariants as stopped
use Rattle.line_grammar.specs.Rows.{Lines, Offends}
use Rattle.line_grammar.specs.Reading.{Reading, row_at, many_at, both_at, made_at, after_at}
use Rattle.line_grammar.specs.Fields.{after, number_then, is_numbered}
use Rattle.plan_out.specs.declared.blocks.ReadBlock.{ReadBlock}
use Rattle.plan_out.specs.Plans.{IsPlansOf}

-- The tests of single lines.

abbrev pub if_operator : ℕ × List ℕ → Option (ℕ × List ℕ)
if_operator x = if nat_lt x.0 (2 ^ 32) then Some x else None

-- the operator that follows one space, and what follows it
unfoldable pub operator_then : List ℕ → Option (ℕ × List ℕ)
operator_then bytes = option_and_then if_operator (number_then (codes " ") bytes)

abbrev pub plan_in : ℕ → List ℕ → Option (Unit {0})
plan_in i line = if is_numbered (codes "; plan ") i line then Some tt else None

-- the operators that the bytes list, of which there are at most so many
unfoldable pub spaced_in : ℕ → List ℕ → Option (List ℕ)
spaced_in most [] = Some []
spaced_in zero (b ∷ bytes) = None
spaced_in (suc most) (b ∷ bytes) = option_and_then (λ x. option_map (λ ops. x.0 ∷ ops) (spaced_in most x.1)) (operator_then (b ∷ bytes))

abbrev pub ops_in : List ℕ → Option (List ℕ)
ops_in line = option_and_then (λ spaced. spaced_in (length spaced) spaced) (after (codes "; ops") line)

-- what stands between parentheses
abbrev pub step_in : List ℕ → Option (List ℕ)
step_in line = if nat_le 2 (length line) && slice_index line 0 == 40 && slice_index line (length line - 1) == 41 then Some (take (length line - 2) (drop 1 line)) else None

abbrev pub with_word : ℕ × List ℕ → Option (ℕ × Bool)
with_word x = if bytes_eq x.1 (codes " (unit cost)") then Some (x.0, true) else (if bytes_eq x.1 (codes " (general cost)") then Some (x.0, false) else None)

-- the cost, and whether each operator costs 1
abbrev pub cost_in : List ℕ → Option (ℕ × Bool)
cost_in line = option_and_then with_word (number_then (codes "; cost = ") line)

-- the line says that n blocks are as many as were asked for
abbrev pub says_enough : ℕ → List ℕ → Bool
says_enough n line = is_numbered (codes "; reached ") n line || is_numbered (codes "; more ") n line

-- the line says that n blocks are all
abbrev pub says_all : ℕ → List ℕ → Bool
says_all n line = is_numbered (codes "; exhausted ") n line || is_numbered (codes "; bounded ") n line

-- the line ends a list of n blocks
abbrev pub is_end : ℕ → List ℕ → Bool
is_end n line = says_enough n line || says_all n line || bytes_eq line (codes "; cost range")

-- the first of the lines is there, and ends a list of n blocks
abbrev pub begins_with_end : ℕ → Lines → Bool
begins_with_end n [] = false
begins_with_end n (line ∷ lines) = is_end n line

-- The reading of a block.

abbrev pub kept_state : {T X : Type 0} → T → X → T
kept_state state _ = state

abbrev pub step_at : Unit {0} → Reading (Unit {0}) (List ℕ)
step_at _ = row_at tt step_in

abbrev pub steps_at : ℕ → Reading (Unit {0}) (List (List ℕ))
steps_at n = many_at step_at kept_state n tt

abbrev pub read_block_of : List ℕ × (List (List ℕ) × (ℕ × Bool)) → ReadBlock
read_block_of parts = record { ops = parts.0; names = parts.1.0; cost = parts.1.1.0; unit = parts.1.1.1 }

unfoldable pub read_block_at : ℕ → Reading (Unit {0}) ReadBlock
read_block_at i = made_at read_block_of (after_at tt (plan_in i) (both_at (row_at tt ops_in) (λ ops. both_at (steps_at (length ops)) (λ _. row_at tt cost_in))))

-- The line at which the reading of these lines stopped is the first at which no plan text can go on so.
abbrev pub Refuses : Lines → Stopped (Unit {0}) → Type 0
Refuses lines stopped.Memory = Unit {0}
Refuses lines (stopped.Offence o) = (o.left ≤ length lines) × Offends IsPlansOf lines (length lines - o.left + 1)

-- reading stopped at the second of these lines
abbrev pub IsAfterEnd : Lines → Stopped (Unit {0}) → Type 0
IsAfterEnd lines stopped.Memory = ⊥
IsAfterEnd lines (stopped.Offence o) = (1 ≤ o.left) × (length lines ≡ o.left + 1)

-- What a plan text is.
use Rattle.std.specs.Prelude.{◌≡◌, ℕ, ◌+◌, ◌^◌, ◌<◌, ◌⊎◌, Bool, if◌then◌else◌, List, [], ◌∷◌, ◌++◌, length, map, codes, All}
use Rattle.line_grammar.specs.Rows.{Lines, Spells}
use Rattle.line_grammar.specs.Numbers.{IsNumber, IsNumbered}
use Rattle.plan_out.specs.declared.blocks.ReadBlock.{ReadBlock}

-- the bytes are one space and a number for each operator
abbrev pub AreSpaced : List ℕ → List ℕ → Type 0
AreSpaced [] bytes = bytes ≡ []
AreSpaced (op ∷ ops) bytes = (digits : List ℕ) × (others : List ℕ) × IsNumber digits op × AreSpaced ops others × (bytes ≡ codes " " ++ digits ++ others)

-- what ends a cost line: whether each operator costs 1
abbrev pub cost_word : Bool → List ℕ
cost_word unit = if unit then codes " (unit cost)" else codes " (general cost)"

-- A row of a block: its number in the list, its operators, the name of one step, or its cost and the word of the cost.
pub data PlanRow : Type 0 where
  plan : ℕ → PlanRow
  ops : List ℕ → PlanRow
  step : List ℕ → PlanRow
  cost : ℕ → Bool → PlanRow

-- the line spells the row
abbrev pub IsPlanRowSpelled : PlanRow → List ℕ → Type 0
IsPlanRowSpelled (plan i) line = IsNumbered (codes "; plan ") i line
IsPlanRowSpelled (ops p) line = (spaced : List ℕ) × AreSpaced p spaced × (line ≡ codes "; ops" ++ spaced)
IsPlanRowSpelled (step name) line = line ≡ codes "(" ++ name ++ codes ")"
IsPlanRowSpelled (cost c unit) line = (digits : List ℕ) × IsNumber digits c × (line ≡ codes "; cost = " ++ digits ++ cost_word unit)

-- the rows of the block of this number
abbrev pub block_rows : ℕ → ReadBlock → List PlanRow
block_rows i b = plan i ∷ ops b.ops ∷ map step b.names ++ cost b.cost b.unit ∷ []

-- the rows of blocks, of which the first has this number
abbrev pub rows_from : ℕ → List ReadBlock → List PlanRow
rows_from i [] = []
rows_from i (b ∷ blocks) = block_rows i b ++ rows_from (i + 1) blocks

-- A block has a name for each operator, and each of these is below 2^32.
pub record IsBlock (b : ReadBlock) : Type 0 where
  pub named : length b.names ≡ length b.ops
  pub small : All (λ op. op < 2 ^ 32) b.ops

-- the line ends a list of n blocks
abbrev pub IsEndLine : ℕ → List ℕ → Type 0
IsEndLine n line = IsNumbered (codes "; reached ") n line ⊎ (IsNumbered (codes "; exhausted ") n line ⊎ (IsNumbered (codes "; more ") n line ⊎ (IsNumbered (codes "; bounded ") n line ⊎ (line ≡ codes "; cost range"))))

-- after n blocks there is nothing more, or one end line alone
abbrev pub IsEnding : ℕ → Lines → Type 0
IsEnding n [] = Unit {0}
IsEnding n (line ∷ []) = IsEndLine n line
IsEnding n (line ∷ next ∷ lines) = ⊥

-- The lines are those of a plan text of these blocks, numbered from 1, and then at most one end line.
pub record IsPlansOf (lines : List (List ℕ)) (blocks : List ReadBlock) : Type 0 where
  pub main : Lines
  pub ending : Lines
  pub whole : lines ≡ main ++ ending
  pub spelled : Spells IsPlanRowSpelled (rows_from 1 blocks) main
  pub ends : IsEnding (length blocks) ending
  pub each : All IsBlock blocks

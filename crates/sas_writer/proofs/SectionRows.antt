-- The lines that are written for a section spell its rows.
use Rattle.std.proofs.Common.{◌≡◌, ℕ, ◌^◌, ◌<◌, ◌≤◌, List, [], ◌∷◌, ◌++◌, length, map, Some, refl, sym, subst, append_assoc, arith, codes, decimal}
use Rattle.std.proofs.lemmas.Fmt.{decimal_digit}
use Rattle.std.specs.List.{flat_map, All, AllByRecursion}
use Rattle.symk_task.specs.declared.parts.Fact.{Fact}
use Rattle.symk_task.specs.declared.parts.Variable.{Variable}
use Rattle.symk_task.specs.declared.parts.Effect.{Effect}
use Rattle.symk_task.specs.declared.parts.Operator.{Operator}
use Rattle.symk_task.specs.declared.parts.Rule.{Rule}
use Rattle.symk_task.specs.declared.parts.TaskParts.{TaskParts}
use Rattle.symk_task.specs.Fits.{IsName, InRange, AreFacts, FitsVariable, FitsEffect, FitsOperator, FitsRule}
use Rattle.line_grammar.specs.Rows.{Lines}
use Rattle.sas_reader.specs.declared.fault.Shape.{Shape}
use Rattle.sas_reader.specs.declared.fault.Shape.TheVariants as shape
use Rattle.sas_reader.specs.Known.{Known}
use Rattle.sas_reader.specs.Rows.{Row, word, numbers, one_number}
use Rattle.sas_reader.specs.Format.{header_rows, name_rows, variable_rows, counted_rows, fact_numbers, fact_rows, group_rows, value_rows, state_rows, goal_rows, effect_numbers, effect_rows, operator_rows, head_numbers, rule_rows}
use Rattle.sas_writer.specs.Spelling.{name_line, or_minus_one, fact_line, effect_line}
use Rattle.sas_writer.specs.TaskLines.{head_lines, facts_lines, variable_lines, mutex_lines, state_lines, goal_lines, operator_lines, head_line, rule_lines}
use Rattle.sas_writer.proofs.Numbers.{word_alone, or_minus_one_is_word, fact_is_line, effect_is_line, head_is_line}
use Rattle.sas_writer.proofs.Rows.{AreWritten, IsWritten, IsPlain, word_written, numbers_written, number_written, name_written, then_written, each_line, each_lines}
use Rattle.sas_writer.proofs.Small.{each_of, within, fact_small, effect_small, layer_small}

-- a word, lines, and a word
framed : (first last : Shape) (begins ends : List ℕ) (rows : List Row) (ls : Lines) → IsPlain begins → IsPlain ends → AreWritten rows ls
    → AreWritten (word first begins ∷ (rows ++ word last ends ∷ [])) (begins ∷ (ls ++ ends ∷ []))
framed first last begins ends rows ls b e h = (
  word_written first begins b,
  then_written rows (word last ends ∷ []) ls
      (ends ∷ []) h (word_written last ends e, tt),
)

pub header_written : (metric : ℕ) → metric < 2 → AreWritten (header_rows metric) (head_lines metric)
unfolding head_lines
header_written metric lt =
    let ending : AreWritten (one_number shape.Metric metric ∷ word shape.EndMetric (codes "end_metric") ∷ []) (decimal metric ∷ codes "end_metric" ∷ []) =
    (number_written shape.Metric metric (omega arith), (word_written shape.EndMetric (codes "end_metric") refl, tt)) in
    let three = subst (IsWritten (one_number shape.Three 3)) (decimal_digit 3 (omega arith)) (number_written shape.Three 3 (omega arith)) in (
      word_written shape.BeginVersion (codes "begin_version") refl,
      (
        three,
        (
          word_written shape.EndVersion (codes "end_version") refl,
          (word_written shape.BeginMetric (codes "begin_metric") refl, ending),
        ),
      ),
    )

facts_written : (variables : List Variable) (facts : List Fact) → Known variables → AreFacts variables facts
    → AreWritten (counted_rows fact_rows facts) (facts_lines facts)
unfolding facts_lines
facts_written variables facts known h = (
  (let few = h.0 in number_written shape.Count (length facts) (omega arith)),
  each_line fact_rows fact_line facts (each_of (InRange variables) (λ f. AreWritten (fact_rows f) (fact_line f ∷ []))
      (λ f in_range. (numbers_written shape.Fact (fact_numbers f) (fact_line f) (fact_is_line f (fact_small variables known f in_range)), tt)) facts h.1),
)

pub variable_written : (v : Variable) → FitsVariable v → AreWritten (variable_rows v) (variable_lines v)
unfolding variable_lines
variable_written v h =
    let layer = numbers_written shape.Layer (v.layer ∷ []) (or_minus_one v.layer)
    (word_alone v.layer (or_minus_one v.layer) (or_minus_one_is_word v.layer
    (layer_small v.layer h.range.layer_most))) in
    let most = h.range.most in
    let count = number_written shape.Range (length v.values) (omega arith) in
    let values = each_line name_rows name_line v.values (each_of IsName
    (λ n. AreWritten (name_rows n) (name_line n ∷ [])) (λ n is. (name_written n is, tt)) v.values h.values) in
    let ending = then_written (flat_map name_rows v.values) (word shape.EndVariable (codes "end_variable") ∷ [])
    (map name_line v.values) (codes "end_variable" ∷ []) values
    (word_written shape.EndVariable (codes "end_variable") refl, tt) in
    (word_written shape.BeginVariable (codes "begin_variable") refl, (name_written v.name h.name, (layer, (count, ending))))

pub mutex_written : (variables : List Variable) → Known variables → (facts : List Fact) → AreFacts variables facts
    → AreWritten (group_rows facts) (mutex_lines facts)
unfolding mutex_lines
mutex_written variables known facts h =
    framed shape.BeginMutex shape.EndMutex (codes "begin_mutex_group") (codes "end_mutex_group")
    (counted_rows fact_rows facts) (facts_lines facts) refl refl (facts_written variables facts known h)

pub state_written : (values : List ℕ) → AllByRecursion (λ n. n < 2 ^ 64) values → AreWritten (state_rows values) (state_lines values)
unfolding state_lines
state_written values small =
    framed shape.BeginState shape.EndState (codes "begin_state") (codes "end_state") (flat_map value_rows values)
    (map decimal values) refl refl (each_line value_rows decimal values (each values small))
  where
    each : (values : List ℕ) → AllByRecursion (λ n. n < 2 ^ 64) values → AllByRecursion (λ n. AreWritten (value_rows n) (decimal n ∷ [])) values
    each [] h = tt
    each (n ∷ values) h = ((number_written shape.Value n h.0, tt), each values h.1)

pub goal_written : (variables : List Variable) → Known variables → (facts : List Fact) → AreFacts variables facts
    → AreWritten (goal_rows facts) (goal_lines facts)
unfolding goal_lines
goal_written variables known facts h =
    framed shape.BeginGoal shape.EndGoal (codes "begin_goal") (codes "end_goal") (counted_rows fact_rows facts)
    (facts_lines facts) refl refl (facts_written variables facts known h)

regroup_operator : (begins n cost ends : List ℕ) (prevail effects : Lines)
    → (((begins ∷ n ∷ prevail) ++ effects) ++ cost ∷ []) ++ ends ∷ [] ≡ begins ∷ n
    ∷ (prevail ++ (effects ++ (cost ∷ ends ∷ [])))
regroup_operator begins n cost ends prevail effects = simp append_assoc

effects_written : (variables : List Variable) → Known variables → (effects : List Effect) → length effects ≤ 65536 → All (FitsEffect variables) effects
    → AreWritten (counted_rows effect_rows effects) (decimal (length effects) ∷ map effect_line effects)
effects_written variables known effects few h = (
  number_written shape.Count (length effects) (omega arith),
  each_line effect_rows effect_line effects (each_of (FitsEffect variables) (λ e. AreWritten (effect_rows e) (effect_line e ∷ []))
      (λ e fits. (numbers_written shape.Effect (effect_numbers e) (effect_line e) (effect_is_line e (effect_small variables known e fits)), tt)) effects h),
)

pub operator_written : (variables : List Variable) → Known variables → (o : Operator) → FitsOperator variables o
    × (o.cost < 2 ^ 64) → AreWritten (operator_rows o) (operator_lines o)
unfolding operator_lines
operator_written variables known o h =
    let effects = decimal (length o.effects) ∷ map effect_line o.effects in
    let ending = one_number shape.Cost o.cost ∷ word shape.EndOperator (codes "end_operator") ∷ [] in
    subst (AreWritten (operator_rows o))
    (sym (regroup_operator (codes "begin_operator") (name_line o.name) (decimal o.cost) (codes "end_operator")
    (facts_lines o.prevail) effects)) (
      word_written shape.BeginOperator (codes "begin_operator") refl,
      (
        name_written o.name h.0.name,
        then_written (counted_rows fact_rows o.prevail) (counted_rows effect_rows o.effects ++ ending)
            (facts_lines o.prevail) (effects ++ (decimal o.cost ∷ codes "end_operator" ∷ []))
            (facts_written variables o.prevail known h.0.prevail)
            (then_written (counted_rows effect_rows o.effects) ending effects
            (decimal o.cost ∷ codes "end_operator" ∷ [])
            (effects_written variables known o.effects h.0.effects h.0.each)
            (number_written shape.Cost o.cost h.1, (word_written shape.EndOperator (codes "end_operator") refl, tt))),
      ),
    )

regroup_rule : (begins head ends : List ℕ) (conds : Lines) → ((begins ∷ conds) ++ head ∷ []) ++ ends ∷ [] ≡ begins ∷ (conds ++ (head ∷ ends ∷ []))
regroup_rule begins head ends conds = simp append_assoc

pub rule_written : (task : TaskParts) → Known task.variables → (r : Rule) → FitsRule task r → AreWritten (rule_rows r) (rule_lines r)
unfolding rule_lines
rule_written task known r h =
    let few = known.few in
    let var = within (λ v. v.layer ≡ Some h.layer) task.variables r.var h.on in
    let new = h.new in
    subst (AreWritten (rule_rows r)) (sym (regroup_rule (codes "begin_rule") (head_line r) (codes "end_rule") (facts_lines r.conds))) (
      word_written shape.BeginRule (codes "begin_rule") refl,
      then_written (counted_rows fact_rows r.conds) (numbers shape.Head (head_numbers r) ∷ word shape.EndRule
          (codes "end_rule") ∷ []) (facts_lines r.conds) (head_line r ∷ codes "end_rule" ∷ [])
          (facts_written task.variables r.conds known h.conds) (
            numbers_written shape.Head (head_numbers r) (head_line r) (head_is_line r (omega arith) (omega arith)),
            (word_written shape.EndRule (codes "end_rule") refl, tt),
          ),
    )

-- so many, and then each
pub counted_written : {X : Type 0} (P : X → Type 0) (rows : X → List Row) (pieces : X → Lines)
    → ((x : X) → P x → AreWritten (rows x) (pieces x)) → (xs : List X) → length xs < 2 ^ 64 → All P xs
    → AreWritten (counted_rows rows xs) (decimal (length xs) ∷ flat_map pieces xs)
counted_written P rows pieces each xs few h = (
  number_written shape.Count (length xs) few,
  each_lines rows pieces xs
      (each_of P (λ x. AreWritten (rows x) (pieces x)) each xs h),
)

-- The lines of the text that is written for a task are those of its file, and no such lines are refused.
use Rattle.std.proofs.Common.{◌≡◌, ◌+◌, ◌^◌, ◌<◌, ◌≤◌, ◌⊎◌, inl, inr, List, [], ◌++◌, length, take, drop, refl, sym, subst, append_assoc, arith}
use Rattle.std.proofs.lemmas.List.{append-nil, take-append-drop}
use Rattle.symk_text.specs.Lines.{lines}
use Rattle.symk_task.specs.declared.parts.TaskParts.{TaskParts}
use Rattle.symk_task.specs.Fits.{AreFacts, FitsVariable, FitsOperator, FitsRule, Fits}
use Rattle.line_grammar.specs.Rows.{Lines}
use Rattle.sas_reader.specs.declared.fault.ReadFault.{ReadFault}
use Rattle.sas_reader.specs.declared.fault.ReadFault.TheVariants.{Offence, Memory}
use Rattle.sas_reader.specs.Rows.{Row}
use Rattle.sas_reader.specs.Format.{header_rows, variable_rows, counted_rows, group_rows, state_rows, goal_rows, operator_rows, rule_rows, file_rows, IsFileOf}
use Rattle.sas_reader.specs.Refused.{RefusedAt}
use Rattle.sas_writer.specs.TaskLines.{HasSmallCosts, head_lines, variable_lines, variables_lines, mutex_lines, mutexes_lines, state_lines, goal_lines, operator_lines, operators_lines, rule_lines, rules_lines, task_lines, task_text}
use Rattle.sas_writer.proofs.Rows.{AreWritten, then_written, written_spelled}
use Rattle.sas_writer.proofs.Small.{known_of, values_small}
use Rattle.sas_writer.proofs.SectionRows.{header_written, variable_written, mutex_written, state_written, goal_written, operator_written, rule_written, counted_written}

regroup : (a b c d e f g : Lines) → (((((a ++ b) ++ c) ++ d) ++ e) ++ f) ++ g ≡ a ++ (b ++ (c ++ (d ++ (e ++ (f ++ g)))))
regroup a b c d e f g = simp append_assoc

-- The rows of a section, the lines that are written for them, and that they are.
record Section : Type 0 where
  rows : List Row
  made : Lines
  written : AreWritten rows made

-- rows are written section after section
sections_written : (a b c d e f g : Section)
    → AreWritten (a.rows ++ (b.rows ++ (c.rows ++ (d.rows ++ (e.rows ++ (f.rows ++ g.rows))))))
    ((((((a.made ++ b.made) ++ c.made) ++ d.made) ++ e.made) ++ f.made) ++ g.made)
sections_written a b c d e f g =
    subst (AreWritten (whole a (whole b (whole c (whole d (whole e (whole f g)))))).rows)
    (sym (regroup a.made b.made c.made d.made e.made f.made g.made))
    (whole a (whole b (whole c (whole d (whole e (whole f g)))))).written
  where
    whole : Section → Section → Section
    whole x y = record {
      rows = x.rows ++ y.rows;
      made = x.made ++ y.made;
      written = then_written x.rows y.rows x.made y.made x.written y.written;
    }

task_written : (task : TaskParts) → Fits task → HasSmallCosts task.operators → AreWritten (file_rows task) (task_lines task)
unfolding task_lines variables_lines mutexes_lines operators_lines rules_lines
task_written task h costs =
    let known = known_of task.variables h.variables h.each_variable in
    let few_variables = h.variables in
    let few_mutexes = h.mutexes in
    let few_operators = h.operators in
    let few_rules = h.rules in
    let rules = counted_written (FitsRule task) rule_rows rule_lines (rule_written task known) task.rules (omega arith) h.each_rule in
    let operators = counted_written (λ o. FitsOperator task.variables o × (o.cost < 2 ^ 64)) operator_rows
    operator_lines (operator_written task.variables known) task.operators (omega arith)
    (λ k d lt. (h.each_operator k d lt, costs k d lt)) in
    let goal = goal_written task.variables known task.goal h.goal in
    let state = state_written task.initial (values_small task.variables task.initial h.initial known.small h.each_value) in
    let mutexes = counted_written (AreFacts task.variables) group_rows mutex_lines
    (mutex_written task.variables known) task.mutexes (omega arith) h.each_mutex in
    let variables = counted_written FitsVariable variable_rows variable_lines variable_written task.variables (omega arith) h.each_variable in
    let header = header_written task.metric h.metric in
    sections_written
    (record { rows = header_rows task.metric; made = head_lines task.metric; written = header })
    (record {
      rows = counted_rows variable_rows task.variables;
      made = variables_lines task.variables;
      written = variables;
    })
    (record { rows = counted_rows group_rows task.mutexes; made = mutexes_lines task.mutexes; written = mutexes })
    (record { rows = state_rows task.initial; made = state_lines task.initial; written = state })
    (record { rows = goal_rows task.goal; made = goal_lines task.goal; written = goal })
    (record {
      rows = counted_rows operator_rows task.operators;
      made = operators_lines task.operators;
      written = operators;
    })
    (record { rows = counted_rows rule_rows task.rules; made = rules_lines task.rules; written = rules })

pub text_is_file : (task : TaskParts) → Fits task → HasSmallCosts task.operators → IsFileOf (lines (task_text task)) task
text_is_file task h costs = record {
  main = lines (task_text task);
  tail = [];
  whole = sym (append-nil (lines (task_text task)));
  spelled = written_spelled (file_rows task) (task_lines task) (task_written task h costs);
  follows = tt;
  fits = h;
}

-- what is a file is not refused
pub file_is_taken : (ls : Lines) (task : TaskParts) (fault : ReadFault) → IsFileOf ls task → RefusedAt ls fault → fault ≡ Memory
file_is_taken ls task Memory h refused = refl
file_is_taken ls task (Offence line wanted) h (refused, wants) = absurd (by_end refused.stuck)
  where
    whole : IsFileOf (take line ls ++ drop line ls) task
    whole = subst (λ (l : Lines). IsFileOf l task) (sym (take-append-drop line ls)) h

    by_end : ((line ≤ length ls) × (((more : Lines) × (a : TaskParts) × IsFileOf (take line ls ++ more) a) → ⊥))
        ⊎ ((line ≡ length ls + 1) × ((a : TaskParts) → IsFileOf ls a → ⊥)) → ⊥
    by_end (inl s) = s.1 (drop line ls, task, whole)
    by_end (inr s) = s.1 task h

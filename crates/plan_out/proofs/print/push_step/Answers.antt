use Rattle.std.proofs.Common.{◌≡◌, ◌++◌, ◌∷◌, [], List, ℕ, sym, ap, ◌∙◌}
use Rattle.symk_task.specs.declared.parts.Operator.{Operator}
use Rattle.std.specs.Prelude.{slice_get}
use Rattle.std.specs.Option.{option_map_or}
use Rattle.symk_task.specs.declared.parts.TaskParts.{TaskParts}
use Rattle.plan_out.specs.Texts.{step_line}
use Rattle.plan_out.proofs.Growth.{step, on_ok, named}
use Rattle.plan_out.proofs.print.push_step.Goals as goal

pub returns : goal.returns
unfolding step_line
returns c =
    let t = c.args.text.now in
    let op = c.args.operator in
    let ops = c.args.task.now.operators in
    let same = c.as_slice.ensures ∙ ap (λ (x : TaskParts). x.operators) c.parts-parts.ensures.value in
    let name : List ℕ = option_map_or (λ operator. operator.name) (slice_get ops op) [] in
    let is : c.as_slice-2.result.now ≡ name = c.as_slice-2.ensures
    ∙ ap (λ (o : Operator). o.name) (sym c.index-as_slice-operator.is)
    ∙ named ops c.as_slice.result.now op c.index-as_slice-operator.result same c.requires
    c.index-as_slice-operator.is in
    let second : c.push_bytes-2.new.text ≡ c.push_bytes.new.text ++ name = c.in_ok-push_bytes-2.ensures.ok
    ∙ ap (λ (x : List ℕ). c.push_bytes.new.text ++ x) is in
    on_ok c.push_bytes-3.result _ _ (λ e. step t (40 ∷ name) (41 ∷ 10 ∷ [])
    (step t (40 ∷ []) name c.in_ok-push_bytes.ensures.ok second) e) c.push_bytes-3.ensures.ok

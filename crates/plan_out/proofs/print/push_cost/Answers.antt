use Rattle.std.proofs.Common.{◌≡◌, ◌++◌, Bool, sym, subst}
use Rattle.std.specs.Prelude.{codes, decimal, OnOk}
use Rattle.plan_out.specs.Texts.{cost_line}
use Rattle.plan_out.proofs.Growth.{step, on_ok}
use Rattle.plan_out.proofs.print.push_cost.Goals as goal

pub returns-then-unit : goal.returns-then-unit
unfolding cost_line
returns-then-unit c =
    let t = c.args.text.now in
    let n = c.args.cost in
    let front = step t (codes "; cost = ") (decimal n) c.in_ok-push_bytes.ensures.ok c.in_ok-push_number.ensures.ok in
    subst (λ (u : Bool). OnOk c.push_bytes-then-unit.result (c.push_bytes-then-unit.new.text ≡ t ++ cost_line n u)) (sym c.if-unit.true)
    (on_ok c.push_bytes-then-unit.result _ _ (λ e. step t (codes "; cost = " ++ decimal n) (codes " (unit cost)\n") front e) c.push_bytes-then-unit.ensures.ok)

pub returns-else-unit : goal.returns-else-unit
unfolding cost_line
returns-else-unit c =
    let t = c.args.text.now in
    let n = c.args.cost in
    let front = step t (codes "; cost = ") (decimal n) c.in_ok-push_bytes.ensures.ok c.in_ok-push_number.ensures.ok in
    subst (λ (u : Bool). OnOk c.push_bytes-else-unit.result (c.push_bytes-else-unit.new.text ≡ t ++ cost_line n u)) (sym c.if-unit.false)
    (on_ok c.push_bytes-else-unit.result _ _ (λ e. step t (codes "; cost = " ++ decimal n) (codes " (general cost)\n")
    front e) c.push_bytes-else-unit.ensures.ok)

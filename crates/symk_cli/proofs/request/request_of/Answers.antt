use Rattle.std.proofs.Common.{◌∙◌, sym, ap, option_map}
use Rattle.symk_words.specs.Texts.{view_of}
use Rattle.symk_cli.specs.Wishes.{spelled}
use Rattle.symk_cli.specs.Requests.{wish_asked}
use Rattle.symk_cli.proofs.Asked.{plan_no_number, plan_no_mode, plan_no_direction, plan_no_reach, plan_spelled, check_spelled, demo_spelled, prove_spelled, refute_spelled}
use Rattle.symk_cli.proofs.request.request_of.Goals as goal

pub returns-in_err-count-in-Plan-clause-wish : goal.returns-in_err-count-in-Plan-clause-wish
returns-in_err-count-in-Plan-clause-wish c =
    ap (option_map wish_asked) c.from_residual.ensures
    ∙ sym (ap (λ a. spelled (view_of a)) c.in-Plan.is ∙ plan_no_number _ (sym c.in_err-count-in-Plan.ensures.number))

pub returns-in_err-mode-in-Plan-clause-wish : goal.returns-in_err-mode-in-Plan-clause-wish
returns-in_err-mode-in-Plan-clause-wish c =
    ap (option_map wish_asked) c.from_residual-in_err-mode-in-Plan.ensures
    ∙ sym (ap (λ a. spelled (view_of a)) c.in-Plan.is ∙ plan_no_mode _ c.in_ok-count-in-Plan.count (sym c.in_ok-count-in-Plan.ensures.number) (sym c.in_err-mode-in-Plan.ensures))

pub returns-in_err-direction-in-Plan-clause-wish : goal.returns-in_err-direction-in-Plan-clause-wish
returns-in_err-direction-in-Plan-clause-wish c =
    ap (option_map wish_asked) c.from_residual-in_err-direction-in-Plan.ensures
    ∙ sym (ap (λ a. spelled (view_of a)) c.in-Plan.is
    ∙ plan_no_direction _ c.in_ok-count-in-Plan.count c.in_ok-mode-in-Plan.mode (sym c.in_ok-count-in-Plan.ensures.number) (sym c.in_ok-mode-in-Plan.ensures) (sym c.in_err-direction-in-Plan.ensures))

pub returns-in_err-reach-in-Plan-clause-wish : goal.returns-in_err-reach-in-Plan-clause-wish
returns-in_err-reach-in-Plan-clause-wish c =
    ap (option_map wish_asked) c.from_residual-in_err-reach-in-Plan.ensures
    ∙ sym (ap (λ a. spelled (view_of a)) c.in-Plan.is
    ∙ plan_no_reach _ c.in_ok-count-in-Plan.count c.in_ok-mode-in-Plan.mode c.in_ok-direction-in-Plan.direction (sym c.in_ok-count-in-Plan.ensures.number) (sym c.in_ok-mode-in-Plan.ensures) (sym c.in_ok-direction-in-Plan.ensures) (sym c.in_err-reach-in-Plan.ensures.reach))

pub returns-then-is_served-clause-wish : goal.returns-then-is_served-clause-wish
returns-then-is_served-clause-wish c =
    c.list_request.ensures.wish
    ∙ sym (ap (λ a. spelled (view_of a)) c.in-Plan.is
    ∙ plan_spelled _ c.in_ok-count-in-Plan.count c.in_ok-mode-in-Plan.mode c.in_ok-direction-in-Plan.direction c.in_ok-reach-in-Plan.reach _ (sym c.in_ok-count-in-Plan.ensures.number) (sym c.in_ok-mode-in-Plan.ensures) (sym c.in_ok-direction-in-Plan.ensures) (sym c.in_ok-reach-in-Plan.ensures.reach) (sym c.if-is_served.ensures))

pub returns-else-is_served-clause-wish : goal.returns-else-is_served-clause-wish
returns-else-is_served-clause-wish c =
    sym (ap (λ a. spelled (view_of a)) c.in-Plan.is
    ∙ plan_spelled _ c.in_ok-count-in-Plan.count c.in_ok-mode-in-Plan.mode c.in_ok-direction-in-Plan.direction c.in_ok-reach-in-Plan.reach _ (sym c.in_ok-count-in-Plan.ensures.number) (sym c.in_ok-mode-in-Plan.ensures) (sym c.in_ok-direction-in-Plan.ensures) (sym c.in_ok-reach-in-Plan.ensures.reach) (sym c.if-is_served.ensures))

pub returns-in_err-mode_of-in-Check-clause-wish : goal.returns-in_err-mode_of-in-Check-clause-wish
returns-in_err-mode_of-in-Check-clause-wish c =
    ap (option_map wish_asked) c.from_residual-in_err-mode_of-in-Check.ensures
    ∙ sym (ap (λ a. spelled (view_of a)) c.in-Check.is ∙ check_spelled _ _ _ _ (sym c.in_err-mode_of-in-Check.ensures))

pub returns-in_ok-mode_of-in-Check-clause-wish : goal.returns-in_ok-mode_of-in-Check-clause-wish
returns-in_ok-mode_of-in-Check-clause-wish c =
    sym (ap (λ a. spelled (view_of a)) c.in-Check.is ∙ check_spelled _ _ _ _ (sym c.in_ok-mode_of-in-Check.ensures))

pub returns-in_err-number_within-in-Demo-clause-wish : goal.returns-in_err-number_within-in-Demo-clause-wish
returns-in_err-number_within-in-Demo-clause-wish c =
    ap (option_map wish_asked) c.from_residual-in_err-number_within-in-Demo.ensures
    ∙ sym (ap (λ a. spelled (view_of a)) c.in-Demo.is ∙ demo_spelled _ _ (sym c.in_err-number_within-in-Demo.ensures.number))

pub returns-in_ok-number_within-in-Demo-clause-wish : goal.returns-in_ok-number_within-in-Demo-clause-wish
returns-in_ok-number_within-in-Demo-clause-wish c =
    sym (ap (λ a. spelled (view_of a)) c.in-Demo.is ∙ demo_spelled _ _ (sym c.in_ok-number_within-in-Demo.ensures.number))

pub returns-in-Prove-clause-wish : goal.returns-in-Prove-clause-wish
returns-in-Prove-clause-wish c = sym (ap (λ a. spelled (view_of a)) c.in-Prove.is ∙ prove_spelled _)

pub returns-in-Refute-clause-wish : goal.returns-in-Refute-clause-wish
returns-in-Refute-clause-wish c = sym (ap (λ a. spelled (view_of a)) c.in-Refute.is ∙ refute_spelled _ _)

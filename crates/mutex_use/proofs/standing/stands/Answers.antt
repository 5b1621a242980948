use Rattle.std.proofs.Common.{List, ℕ, ◌↔◌, IsTrue, sym, subst}
use Rattle.std.proofs.lemmas.Result.{IfOk-weaker}
use Rattle.space_api.specs.View.{Has}
use Rattle.mutex_use.specs.Rounds.{StandsFrom}
use Rattle.mutex_use.specs.Sets.{IsSafe}
use Rattle.mutex_use.specs.Balance.{HaveBreaking}
use Rattle.mutex_use.proofs.Stable.{safe_stands, stands_safe}
use Rattle.mutex_use.proofs.standing.stands.Goals as goal

pub returns-clause-ok : goal.returns-clause-ok
returns-clause-ok g c =
    let view = g.S.Space.view in
    let v = view c.args.space.now in
    let w = view c.breaking.new.space in
    let task = c.args.task.now in
    let facts = c.facts_of.result.now in
    let operators = c.deref.result.now in
    let kept = c.args.kept in
    let broken = c.in_ok-broken.broken in
    let breaking =
    subst (λ (z : List ℕ). HaveBreaking task facts z) (sym c.deref.ensures.value)
    (subst (λ (z : _). HaveBreaking task z c.in_ok-operators.operators.items) (sym c.facts_of.ensures.value)
    c.in_ok-operators.ensures) in
    IfOk-weaker c.is_safe-stands.result (λ r. IsTrue r ↔ IsSafe w operators kept broken) (λ r. IsTrue r ↔ StandsFrom task (Has v kept) c.args.group)
    (λ r h. (
      (λ t. safe_stands task v w c.args.group facts operators c.args.all kept broken c.facts_of.ensures.fits
          c.requires.task (g.met.S.Space.of_task c.args.space.now) c.facts_of.ensures.value c.requires.group
          breaking c.requires.all c.requires.keeps c.requires.kept c.breaking.ensures.kept
          c.in_ok-broken.ensures.ok (h.0 t)),
      (λ s. h.1 (stands_safe task v w c.args.group facts operators c.args.all kept broken c.facts_of.ensures.fits
          c.requires.task (g.met.S.Space.of_task c.args.space.now) c.facts_of.ensures.value c.requires.group
          breaking c.requires.all c.requires.keeps c.requires.kept c.breaking.ensures.kept
          c.in_ok-broken.ensures.ok s)),
    )) c.is_safe-stands.ensures.ok

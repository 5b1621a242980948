use Rattle.std.proofs.Common.{◌≡◌, ◌∙◌, ◌<◌, List, ℕ, length, get_or, take, All, sym, ap, subst, refl, arith}
use Rattle.std.proofs.Math.Nat.{le_antisymm}
use Rattle.std.proofs.Math.Seq.{take-length}
use Rattle.std.proofs.lemmas.List.Elements.{All-more}
use Rattle.symk_task.specs.Fits.{IsName}
use Rattle.symk_task.proofs.fits.are_names.Goals as goal

pub returns-then-not-is_name : goal.returns-then-not-is_name
returns-then-not-is_name c =
    let i = c.loop-name.name-index in
    let items = c.as_slice-name-items.ensures in
    let here : c.name-item.result ≡ get_or c.args.names.now i c.name-item.result = c.name-item.is
    ∙ ap (λ (z : List (List ℕ)). get_or z i c.name-item.result) items in
    let within : i < length c.args.names.now = subst (λ (z : List (List ℕ)). i < length z) items c.loop-name-test.true in (
      (λ t. cc),
      (λ all. let yes = c.is_name.ensures.1 (subst IsName (sym here) (all i c.name-item.result within)) in cc),
    )

pub loop-name-preserved : goal.loop-name-preserved
loop-name-preserved c =
    let i = c.loop-name.name-index in
    let items = c.as_slice-name-items.ensures in
    let here : c.name-item.result ≡ get_or c.args.names.now i c.name-item.result = c.name-item.is
    ∙ ap (λ (z : List (List ℕ)). get_or z i c.name-item.result) items in
    let within : i < length c.args.names.now = subst (λ (z : List (List ℕ)). i < length z) items c.loop-name-test.true in
    All-more IsName c.args.names.now i c.name-item.result within c.loop-name.invariant (subst IsName here (c.is_name.ensures.0 c.if-not-is_name.false))

pub returns : goal.returns
returns c =
    let far : length c.as_slice-name-items.result.now ≡ length c.args.names.now = ap (λ (z : List (List ℕ)). length z) c.as_slice-name-items.ensures in
    let full : c.loop-name.name-index ≡ length c.args.names.now = le_antisymm (omega arith) (omega arith) in (
      (λ t. subst (All IsName) (ap (λ (n : ℕ). take n c.args.names.now) full ∙ take-length c.args.names.now) c.loop-name.invariant),
      (λ all. refl),
    )

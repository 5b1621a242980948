use Rattle.std.proofs.Common.{◌≡◌, ◌+◌, ◌++◌, ◌∷◌, [], List, length, take, get_or, set, refl, sym, ◌∙◌, subst, arith}
use Rattle.std.proofs.lemmas.List.{get_or_default}
use Rattle.bdd_ops.specs.declared.waiting.Frame.{Frame}
use Rattle.bdd_ops.specs.Waiting.{with_lo}
use Rattle.bdd_ops.proofs.Stacks.{cut_last, put_last}
use Rattle.bdd_ops.proofs.waiting.hand.Goals as goal

pub returns-in_default-lo : goal.returns-in_default-lo
returns-in_default-lo c =
    let xs : List Frame = c.args.stack.now.items in
    let n = c.in-Some.last in
    let fr : Frame = c.index-frame.result.now in
    let b = c.in-Some.ensures in
    let long : length xs ≡ n + 1 = omega (arith, c.len.ensures, b.0, b.1, c.args.stack.now.ok) in
    let is : fr ≡ get_or xs n fr = c.index-frame.ensures in
    let same : c.index_mut.result.now ≡ fr = c.index_mut.ensures.value ∙ get_or_default xs n c.index_mut.result.now fr (omega (arith, long)) ∙ sym is in (
      take n xs,
      fr,
      subst (λ (f : Frame). xs ≡ take n xs ++ f ∷ []) (sym is) (cut_last xs n fr long),
      c.in_default-lo.is,
      subst (λ (f : Frame). set xs n (with_lo f c.args.id) ≡ take n xs ++ with_lo fr c.args.id ∷ []) (sym same) (put_last xs n (with_lo fr c.args.id) long),
      refl,
    )

-- The cuts that were found and aren't drawn yet.
use Rattle.std.proofs.Common.{◌≡◌, ℕ, List, [], ◌∷◌, length, drop, slice_get, Option, Some, None, option_copied, true, false, refl, sym, ◌∙◌, ap, subst, arith}
use Rattle.std.specs.Slice.{IsItemAt}
use denote.Ref.{Bor}
use Rattle.task_system.specs.System.{System}
use Rattle.plan_cuts.specs.Cuts.{IsNextCut}
use Rattle.plan_cuts.specs.declared.Cut.{Cut}
use Rattle.bidirectional.specs.NextCuts.{AreAlike, AreNextCuts}
use Rattle.reconstruct.specs.Listing.{AreReady}

alike_ready : (y : System) (b cost : ℕ) (a : Cut) (cs : List Cut) → AreAlike y b cost a cs → AreReady y b cost (Some a) cs
alike_ready y b cost a [] h = tt
alike_ready y b cost a (c ∷ cs) h = (h.0, alike_ready y b cost c cs h.2)

-- those that the search names
pub found_ready : (y : System) (b cost : ℕ) (after : Option Cut) (cs ready : List Cut) → ready ≡ cs
    → AreNextCuts y b cost after cs → AreReady y b cost after ready
found_ready y b cost after cs ready e h = subst (AreReady y b cost after) (sym e) (named cs h)
  where
    named : (ds : List Cut) → AreNextCuts y b cost after ds → AreReady y b cost after ds
    named [] k = tt
    named (c ∷ ds) k = (k.0, alike_ready y b cost c ds k.1)

pub found_none : (y : System) (b cost : ℕ) (after : Option Cut) (cs ready : List Cut) → ready ≡ cs
    → AreNextCuts y b cost after cs → ready ≡ [] → IsNextCut y b cost after None
found_none y b cost after [] ready e h empty = h
found_none y b cost after (c ∷ cs) ready e h empty = absurd (omega (arith, ap length e, ap length empty))

-- the first of those that are ready is the next, and the rest are ready after it
pub ready_next : (y : System) (b cost : ℕ) (after : Option Cut) (cuts : List Cut) (cut : Cut)
    → AreReady y b cost after cuts → slice_get cuts 0 ≡ Some cut → IsNextCut y b cost after (Some cut)
    × AreReady y b cost (Some cut) (drop 1 cuts)
ready_next y b cost after [] cut r e = absurd (none_some e)
  where
    none_some : None ≡ Some cut → ⊥
    none_some e = cc
ready_next y b cost after (c ∷ cs) cut r e = subst (λ (d : Cut). IsNextCut y b cost after (Some d) × AreReady y b cost (Some d) cs) (inner c cut e) r
  where
    inner : (a d : Cut) → Some a ≡ Some d → a ≡ d
    inner a d e = cc

falsum : false ≡ true → ⊥
falsum e = cc

-- the first of a queue, as it is read
pub front_is : (cuts : List Cut) (r : Option (Bor Cut)) (o : Option Cut) → o ≡ option_copied r → IsItemAt cuts 0 r → slice_get cuts 0 ≡ o
front_is [] None o e i = sym e
front_is [] (Some x) o e i = absurd (cc)
front_is (c ∷ cs) None o e i = absurd (falsum (i.2 (omega arith)))
front_is (c ∷ cs) (Some x) o e i = sym (e ∙ ap (λ (d : Cut). Some d) i.1)

pub front_none : (cuts : List Cut) → slice_get cuts 0 ≡ None → cuts ≡ []
front_none [] e = refl
front_none (c ∷ cs) e = absurd (some_none e)
  where
    some_none : Some c ≡ None → ⊥
    some_none e = cc

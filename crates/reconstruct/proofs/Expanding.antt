-- All children, in one list.
use Rattle.std.proofs.Common.{Result, Ok, Err, IfOk, OnErr, ◌≡◌, sym, subst, List}
use Rattle.space_api.specs.View.{View}
use Rattle.space_api.specs.Frames.{Stays}
use Rattle.cost_layers.specs.declared.layers.Layers.{Layers}
use Rattle.reconstruct.specs.Entries.{MakesEntries}
use Rattle.reconstruct.specs.Grown.{Expands}
use Rattle.reconstruct.specs.declared.entries.Entry.{Entry}

pub joined : {Set : Type 0} {X : Type 0} {E : Type 0} (items : X → List (Entry Set)) {u v : View Set} (w : View Set)
    (front back : Layers Set) (e : Entry Set) (es : List (Entry Set)) (r : Result X E)
    → Expands u v front back e es → IfOk r (λ x. items x ≡ es) → IfOk r (λ x. w ≡ v) → IfOk r (λ x. Expands u w front back e (items x))
joined items w front back e es (Err x) m is same = tt
joined items {u = u} {v = v} w front back e es (Ok x) m is same =
    subst (λ (z : View _). Expands u z front back e (items x)) (sym same) (subst (λ (xs : List (Entry _)). Expands u v front back e xs) (sym is) m)

pub joined_err : {Set : Type 0} {X : Type 0} {E : Type 0} (u v w : View Set) (es : List (Entry Set)) (r : Result X E)
    → MakesEntries u v es → OnErr r ((x : View Set) → MakesEntries x v es → Stays x w) → OnErr r (Stays u w)
joined_err u v w es (Err x) m f = f u m
joined_err u v w es (Ok x) m f = tt

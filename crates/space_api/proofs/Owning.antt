-- Sets in a list that an owner keeps: one more.
use Rattle.std.proofs.Common.{◌≡◌, ◌⊎◌, ◌↔◌, List, [], ◌∷◌, ◌++◌, arith}
use Rattle.space_api.specs.Owned.{Amid}

pub amid_push : {Set : Type 0} (xs : List Set) (a b : Set) → Amid (xs ++ a ∷ []) b ↔ (Amid xs b ⊎ (b ≡ a))
amid_push [] a b = grind arith
amid_push (x ∷ xs) a b = grind (arith, amid_push xs a b)

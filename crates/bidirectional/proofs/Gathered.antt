-- The operators that cross, in order: what the loop over operators keeps, and the same of other sets.
use Rattle.std.proofs.Common.{◌≡◌, ℕ, ◌+◌, ◌<◌, ◌≤◌, ◌↔◌, List, [], ◌∷◌, ◌++◌, Option, None, Some, length, length-append, get_or, below_more, sym, ap, subst, arith}
use Rattle.std.specs.List.{Contains}
use Rattle.std.specs.List.Sorted.{IsStrictlyIncreasing}
use Rattle.task_system.specs.System.{State, System}
use Rattle.space_api.proofs.Rising.{rises, stands_before}
use Rattle.run_graph.specs.Layering.{At}
use Rattle.bidirectional.specs.Cutting.{CutsBy, IsFirstOp, Come, Begin}
use Rattle.bidirectional.specs.declared.cutting.Wanted.{Wanted}
use Rattle.bidirectional.specs.declared.cutting.Wanted.TheVariants as wants
use Rattle.bidirectional.proofs.Firsts.{NoneCuts, none_all, some_first, first_as}

come_as : (F G : ℕ → Option ℕ → Type 0) (wanted : Wanted) → ((from : ℕ) (o : Option ℕ) → F from o → G from o) → (from : ℕ) (ns : List ℕ)
    → Come F wanted from ns → Come G wanted from ns
come_as F G wanted e from [] h = λ all. e from None (h all)
come_as F G wanted e from (n ∷ ns) h = (e from (Some n) h.0, come_as F G wanted e (n + 1) ns h.1)

begin_as : (F G : ℕ → Option ℕ → Type 0) (wanted : Wanted) → ((from : ℕ) (o : Option ℕ) → F from o → G from o) → (from : ℕ) (ns : List ℕ)
    → Begin F wanted from ns → Begin G wanted from ns
begin_as F G wanted e from ns h = (come_as F G wanted e from ns h.0, λ empty. e from None (h.1 empty))

-- the same operators cross
pub begin_cuts : {y z : System} {A B : At} {P Q : State → Type 0} {cost b n : ℕ} (wanted : Wanted) (from : ℕ) (ops : List ℕ)
    → ((op : ℕ) → CutsBy y A P cost b n op ↔ CutsBy z B Q cost b n op) → Begin (IsFirstOp y A P cost b n) wanted from ops
    → Begin (IsFirstOp z B Q cost b n) wanted from ops
begin_cuts {y} {z} {A} {B} {P} {Q} {cost} {b} {n} wanted from ops e h =
    begin_as (IsFirstOp y A P cost b n) (IsFirstOp z B Q cost b n) wanted (first_as e) from ops h

-- where none comes
pub begin_none : (F : ℕ → Option ℕ → Type 0) (wanted : Wanted) (from : ℕ) (ns : List ℕ) → ns ≡ [] → F from None → Begin F wanted from ns
begin_none F wanted from [] e h = ((λ all. h), (λ empty. h))
begin_none F wanted from (n ∷ ns) e h = absurd (not_nil n ns e)
  where
    not_nil : (m : ℕ) (ms : List ℕ) → m ∷ ms ≡ [] → ⊥
    not_nil m ms e = omega (arith, ap length e)

pushed_some : (ns : List ℕ) (n : ℕ) → ns ++ n ∷ [] ≡ [] → ⊥
pushed_some ns n e =
    let l : length (ns ++ n ∷ []) ≡ length ns + 1 = grind (arith, length-append) in
    omega (arith, l, ap length e)

module _ (y : System) (front : At) (P : State → Type 0) (cost b z : ℕ) (ops : List ℕ) where
  -- the operators that cross among the first n, each below all the others
  abbrev pub Gathered : ℕ → ℕ → List ℕ → Type 0
  Gathered n from [] = NoneCuts y front P cost b z from ops n
  Gathered n from (op ∷ found) = IsFirstOp y front P cost b z from (Some op)
      × ((k : ℕ) → n ≤ k → k < length ops → op < get_or ops k 0) × Gathered n (op + 1) found

  -- none yet
  pub gathered_start : (from : ℕ) (found : List ℕ) → found ≡ [] → Gathered 0 from found
  gathered_start from found e = subst (Gathered 0 from) (sym e) (λ k lt. absurd (omega (arith, lt)))

  -- an operator that doesn't cross, or stands before the first that is wanted
  pub gathered_skip : (n from : ℕ) (found : List ℕ) → (from ≤ get_or ops n 0 → ¬ CutsBy y front P cost b z
      (get_or ops n 0)) → Gathered n from found → Gathered (n + 1) from found
  gathered_skip n from [] none g = below_more (λ k. from ≤ get_or ops k 0 → ¬ CutsBy y front P cost b z (get_or ops k 0)) n g none
  gathered_skip n from (op ∷ found) none g = (
    g.0,
    (λ k le lt. g.1 k (omega (arith, le)) lt),
    gathered_skip n (op + 1) found (λ le. none (omega (arith, le, g.0.0))) g.2,
  )

  module _ (each : (op : ℕ) → CutsBy y front P cost b z op → Contains ops op) where
    -- one that crosses
    pub gathered_push : IsStrictlyIncreasing ops → (n from : ℕ) (found : List ℕ) → n < length ops
        → from ≤ get_or ops n 0 → CutsBy y front P cost b z (get_or ops n 0) → Gathered n from found
        → Gathered (n + 1) from (found ++ get_or ops n 0 ∷ [])
    gathered_push up n from [] lt ge cut g = (
      some_first y front P cost b z from ops each up n lt ge cut g,
      (λ k le in_list. rises ops up n k (omega (arith, le)) in_list),
      (λ k less past cut. absurd (let before = stands_before ops up k n (omega (arith, less, lt)) (omega (arith, past)) lt in omega (arith, before, less))),
    )
    gathered_push up n from (op ∷ found) lt ge cut g = (
      g.0,
      (λ k le in_list. g.1 k (omega (arith, le)) in_list),
      gathered_push up n (op + 1) found lt (let less = g.1 n (omega arith) lt in omega (arith, less)) cut g.2,
    )

    gathered_come : (wanted : Wanted) (n from : ℕ) (found : List ℕ) → length ops ≤ n → Gathered n from found
        → Come (IsFirstOp y front P cost b z) wanted from found
    gathered_come wanted n from [] le g = λ all. none_all y front P cost b z from ops each n le g
    gathered_come wanted n from (op ∷ found) le g = (g.0, gathered_come wanted n (op + 1) found le g.2)

    gathered_none : (n from : ℕ) (found : List ℕ) → length ops ≤ n → Gathered n from found → found ≡ [] → IsFirstOp y front P cost b z from None
    gathered_none n from [] le g e = none_all y front P cost b z from ops each n le g
    gathered_none n from (op ∷ found) le g e = absurd (omega (arith, ap length e))

    -- all were tried
    pub gathered_all : (wanted : Wanted) (n from : ℕ) (found : List ℕ) → length ops ≤ n → Gathered n from found
        → Begin (IsFirstOp y front P cost b z) wanted from found
    gathered_all wanted n from found le g = (gathered_come wanted n from found le g, gathered_none n from found le g)

  gathered_first : (n from : ℕ) (found : List ℕ) → Gathered n from found → Come (IsFirstOp y front P cost b z) wants.One from found
  gathered_first n from [] g = λ all. absurd (cc)
  gathered_first n from (op ∷ found) g = (g.0, gathered_first n (op + 1) found g.2)

  -- one was wanted
  pub gathered_one : (wanted : Wanted) (n from : ℕ) (found : List ℕ) (op : ℕ) → wanted ≡ wants.One → Gathered n from (found ++ op ∷ [])
      → Begin (IsFirstOp y front P cost b z) wanted from (found ++ op ∷ [])
  gathered_one wanted n from found op e g = rw e (gathered_first n from (found ++ op ∷ []) g, λ empty. absurd (pushed_some found op empty))

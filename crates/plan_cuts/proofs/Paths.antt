-- RunsInSystem and what they reach.
use Rattle.std.proofs.Common.{◌≡◌, ℕ, ◌+◌, ◌<◌, ◌≤◌, Bool, true, false, ◌&&◌, eqb, leb, ◌⊎◌, inl, inr, List, [], ◌∷◌, ◌++◌, Option, Some, None, refl, sym, ◌∙◌, ap, subst, arith, eq-eqb}
use Rattle.std.proofs.lemmas.Bool.Decides.{nat_tests}
use Rattle.std.proofs.lemmas.Bool.{eqb-true}
use Rattle.task_system.specs.System.{State, System, Leads, RunsInSystem}
use Rattle.task_system.specs.System.{are_equal}
use Rattle.plan_cuts.specs.Counts.{at_some}
use Rattle.plan_cuts.specs.Entries.{reach}
use Rattle.plan_cuts.proofs.EntryCutting.{falsum}

pub some_is : (n m : State) → Some n ≡ Some m → n ≡ m
some_is n m e = cc

pub both : (a b : Bool) → (a && b) ≡ true → (a ≡ true) × (b ≡ true)
both true b h = (refl, h)
both false b h = absurd (falsum h)

pub either : (b : Bool) → (b ≡ true) ⊎ (b ≡ false)
either true = inl refl
either false = inr refl

pub le_of : (a b : ℕ) → leb a b ≡ true → a ≤ b
le_of a b h = grind (arith, nat_tests)

pub equal_self : (p : List ℕ) → are_equal p p ≡ true
equal_self [] = refl
equal_self (x ∷ p) = rw (eq-eqb x x refl) (equal_self p)

pub equal_is : (xs ys : List ℕ) → are_equal xs ys ≡ true → xs ≡ ys
equal_is [] [] h = refl
equal_is [] (y ∷ ys) h = absurd (falsum h)
equal_is (x ∷ xs) [] h = absurd (falsum h)
equal_is (x ∷ xs) (y ∷ ys) h =
    let b = both (eqb x y) (are_equal xs ys) h in
    let e : x ≡ y = eqb-true x y b.0 in
    ap (λ (z : ℕ). z ∷ xs) e ∙ ap (λ (zs : List ℕ). y ∷ zs) (equal_is xs ys b.1)

pub reach_run : (y : System) (s : State) (p : List ℕ) (t : State) → RunsInSystem y s p t → reach y s p ≡ Some t
reach_run y s [] t e = ap (λ (x : State). Some x) e
reach_run y s (op ∷ p) t (m, leads, run) = rw leads.step (reach_run y m p t run)

pub run_one : (y : System) (s : State) (p : List ℕ) (t u : State) → RunsInSystem y s p t → RunsInSystem y s p u → t ≡ u
run_one y s p t u a b = some_is t u (sym (reach_run y s p t a) ∙ reach_run y s p u b)

pub joined : (y : System) (q p : List ℕ) (s m t : State) → RunsInSystem y s q m → RunsInSystem y m p t → RunsInSystem y s (q ++ p) t
joined y [] p s m t e r = subst (λ (x : State). RunsInSystem y x p t) (sym e) r
joined y (op ∷ q) p s m t (n, leads, run) r = (n, leads, joined y q p n m t run r)

pub parted : (y : System) (q p : List ℕ) (s t : State) → RunsInSystem y s (q ++ p) t → (m : State) × RunsInSystem y s q m × RunsInSystem y m p t
parted y [] p s t r = (s, refl, r)
parted y (op ∷ q) p s t (n, leads, run) = let m = parted y q p n t run in (m.0, (n, leads, m.1), m.2)

pub led : (y : System) (op : ℕ) (s : State) (has : State → Bool) (o : Option State) → op < y.operators
    → y.step op s ≡ o → at_some o has ≡ true → (t : State) × (has t ≡ true) × Leads y op s t
led y op s has None b e h = absurd (falsum h)
led y op s has (Some t) b e h = (t, h, record { number = b; step = e })

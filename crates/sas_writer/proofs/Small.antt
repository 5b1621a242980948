-- The numbers of a task that fits can be read back.
use Rattle.std.proofs.Common.{◌≡◌, ℕ, zero, suc, ◌^◌, ◌<◌, ◌≤◌, List, [], ◌∷◌, length, get_or, Option, Some, None, IfSome, IsSomeAnd, slice_get, arith}
use Rattle.std.proofs.lemmas.List.Elements.{All-head, All-tail, recursion_from_All}
use Rattle.std.specs.List.{All, AllByRecursion}
use Rattle.symk_task.specs.declared.parts.Fact.{Fact}
use Rattle.symk_task.specs.declared.parts.Variable.{Variable}
use Rattle.symk_task.specs.declared.parts.Effect.{Effect}
use Rattle.symk_task.specs.Variables.{range}
use Rattle.symk_task.specs.Fits.{InRange, FitsVariable, FitsEffect}
use Rattle.sas_reader.specs.Known.{Known}
use Rattle.sas_reader.proofs.Spelling.{IsSmall}
use Rattle.sas_writer.proofs.Numbers.{IsSmallFact, IsSmallEffect}

-- what holds of each element, made into something else
pub each_of : {X : Type 0} (P Q : X → Type 0) → ((x : X) → P x → Q x) → (xs : List X) → All P xs → AllByRecursion Q xs
each_of P Q f xs h = recursion_from_All Q xs (λ k d lt. f (get_or xs k d) (h k d lt))

pub known_of : (variables : List Variable) → length variables ≤ 65536 → All FitsVariable variables → Known variables
known_of variables few each = record { few = few; small = λ k d lt. (each k d lt).range.most }

pub within : (P : Variable → Type 0) (variables : List Variable) (var : ℕ) → IsSomeAnd (slice_get variables var) P → var < length variables
within P [] var h = absurd h
within P (v ∷ variables) zero h = omega arith
within P (v ∷ variables) (suc var) h = (let k = within P variables var h in omega arith)

below : (variables : List Variable) (var val : ℕ) → All (λ v. range v ≤ 65536) variables
    → IsSomeAnd (slice_get variables var) (λ v. val < range v) → val < 65536
below [] var val small h = absurd h
below (v ∷ variables) zero val small h = (let most : range v ≤ 65536 = All-head (λ v. range v ≤ 65536) v variables
    small in let lt : val < range v = h in omega arith)
below (v ∷ variables) (suc var) val small h = below variables var val (All-tail (λ v. range v ≤ 65536) v variables small) h

pub fact_small : (variables : List Variable) → Known variables → (fact : Fact) → InRange variables fact → IsSmallFact fact
fact_small variables known fact h =
    let var = within (λ v. fact.val < range v) variables fact.var h in
    let val = below variables fact.var fact.val known.small h in
    let few = known.few in
    record { var = omega arith; val = omega arith }

second : (P Q : Variable → Type 0) (o : Option Variable) → IsSomeAnd o (λ v. P v × Q v) → IsSomeAnd o Q
second P Q None h = absurd h
second P Q (Some v) h = h.1

before_small : (variables : List Variable) → Known variables → (var : ℕ) (pre : Option ℕ)
    → IfSome pre (λ val. InRange variables (record { var = var; val = val })) → IsSmall pre
before_small variables known var None h = tt
before_small variables known var (Some val) h = (let lt = below variables var val known.small h in omega arith)

pub effect_small : (variables : List Variable) → Known variables → (e : Effect) → FitsEffect variables e → IsSmallEffect e
effect_small variables known e h =
    let count = h.conds.0 in
    let few = known.few in
    let var = within (λ v. (v.layer ≡ None) × (e.post < range v)) variables e.var h.on in
    let post = below variables e.var e.post known.small (second (λ v. v.layer ≡ None) (λ v. e.post < range v) (slice_get variables e.var) h.on) in
    record {
      few = omega arith;
      conds = each_of (InRange variables) IsSmallFact (fact_small variables known) e.conds h.conds.1;
      var = omega arith;
      pre = before_small variables known e.var e.pre h.pre;
      post = omega arith;
    }

pub values_small : (variables : List Variable) (values : List ℕ) → length values ≡ length variables → All (λ v. range v ≤ 65536) variables
    → ((var : ℕ) → IfSome (slice_get variables var) (λ v. get_or values var 0 < range v)) → AllByRecursion (λ n. n < 2 ^ 64) values
values_small variables [] same small each = tt
values_small [] (n ∷ values) same small each = absurd (omega arith)
values_small (v ∷ variables) (n ∷ values) same small each = (
  (let most : range v ≤ 65536 = All-head (λ v. range v ≤ 65536) v variables small in let lt : n < range v = each 0 in omega arith),
  values_small variables values (omega arith) (All-tail (λ v. range v ≤ 65536) v variables small) (λ var. each (suc var)),
)

pub layer_small : (layer : Option ℕ) → IfSome layer (λ n. n < 65536) → IsSmall layer
layer_small None h = tt
layer_small (Some n) h = (let lt : n < 65536 = h in omega arith)

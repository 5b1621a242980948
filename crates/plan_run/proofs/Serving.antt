-- What an engine that serves a task answers, in the task's words.
use Rattle.std.proofs.Common.{◌≡◌, ◌∙◌, ap, refl, sym, ℕ, ◌+◌, ◌<◌, Bool, true, false, ◌||◌, ◌==◌, IsFalse, List, [], Option, Some, None, Result, Ok, Err, subst, arith}
use Rattle.std.proofs.lemmas.Bool.{ne_eqb}
use Rattle.symk_task.specs.declared.parts.Mode.{Mode}
use Rattle.symk_task.specs.declared.parts.TaskParts.{TaskParts}
use Rattle.symk_task.specs.Fits.{Fits}
use Rattle.task_system.specs.System.{System, IsSystemPlanOf}
use Rattle.task_system.specs.Computed.{system_of}
use Rattle.lazy_plans.specs.Law.{Fair, Turned, Gave, NoneLeft, MayStop, Last}
use Rattle.lazy_plans.specs.Rest.{Rest}
use Rattle.lazy_plans.specs.Asked.{Asked}
use Rattle.lazy_plans.specs.declared.stop.Stop.{Stop}
use Rattle.lazy_plans.specs.declared.stop.Stop.TheVariants.{CostRange}
use Rattle.selectors.specs.Limits.{Limit, LimitedGives, is_done, answer_of}
use Rattle.plan_run.specs.Engines.{Serves, OwesAll, OwesRest}
use Rattle.plan_run.specs.Earlier.{IsEarlier}
use Rattle.plan_run.specs.declared.earlier.Earlier.{Earlier}
use Rattle.plan_run.proofs.Given.{IsGiven, given_none}
use Rattle.plan_run.proofs.Going.{IsBegun}

module _ {I : Type 0} (system : I → System) (mode : I → Mode) (most : I → Option ℕ) (pends : I → List ℕ → Type 0) (lawful : I → Type 0) (last : I → Last) (task : TaskParts) (wanted : Mode) (limit : Option ℕ) where
  -- the law of the call, of the task's system
  asked_turned : (a b : I) (r : Result (Option (List ℕ)) Stop) → Serves system mode most pends lawful task wanted limit a → Asked system mode most pends lawful last a b r
      → Turned (system_of task) wanted limit (pends a) (pends b) r
  asked_turned a b r s h =
      let of_task = subst (λ (y : System). Turned y (mode a) (most a) (pends a) (pends b) r) s.of_task h.turned in
      let in_mode = subst (λ (m : Mode). Turned (system_of task) m (most a) (pends a) (pends b) r) s.in_mode of_task in
      subst (λ (q : Option ℕ). Turned (system_of task) wanted q (pends a) (pends b) r) s.limited in_mode

  -- it still serves it afterwards
  asked_serves : (a b : I) (r : Result (Option (List ℕ)) Stop) → Serves system mode most pends lawful task wanted limit a → Asked system mode most pends lawful last a b r
      → Serves system mode most pends lawful task wanted limit b
  asked_serves a b r s h = record { holds = h.stays_lawful; of_task = h.same_system ∙ s.of_task; in_mode = h.same_mode ∙ s.in_mode; limited = h.same_most ∙ s.limited }

  -- of the first k plans of an engine that serves the task, n were given, and the engine has not stopped
  pub record Stands (k n : ℕ) (x : Limit I) : Type 0 where
    pub serves : Serves system mode most pends lawful task wanted limit x.inner
    pub greatest : x.k ≡ k
    pub count : x.listed ≡ n
    pub goes_on : x.ended ≡ false

  -- the engine is asked while fewer were given
  undone : (k n : ℕ) (x : Limit I) → Stands k n x → n < k → IsFalse (is_done x)
  undone k n x s lt =
      let greatest = s.greatest in
      let count = s.count in
      ap (λ b. b || (x.listed == x.k)) s.goes_on ∙ ne_eqb x.listed x.k (λ e. absurd (omega (arith, e, greatest, count, lt)))

  limit_asked : (k n : ℕ) (x z : Limit I) (item : Option (Result (List ℕ) Stop)) → Stands k n x → n < k → LimitedGives system mode most pends lawful last x item z
      → Asked system mode most pends lawful last x.inner z.inner (answer_of item)
  limit_asked k n x z item s lt h = h.asked (undone k n x s lt)

  limit_turned : (k n : ℕ) (x z : Limit I) (item : Option (Result (List ℕ) Stop)) → Stands k n x → n < k → LimitedGives system mode most pends lawful last x item z
      → Turned (system_of task) wanted limit (pends x.inner) (pends z.inner) (answer_of item)
  limit_turned k n x z item s lt h = asked_turned x.inner z.inner (answer_of item) s.serves (limit_asked k n x z item s lt h)

  -- a plan was given
  pub limit_gave : (k n : ℕ) (x z : Limit I) (given : Result (List ℕ) Stop) (p : List ℕ) → given ≡ Ok p → Stands k n x → n < k → LimitedGives system mode most pends lawful last x (Some given) z
      → Gave (system_of task) wanted limit (pends x.inner) (pends z.inner) p
  limit_gave k n x z given p e s lt h =
      subst (λ (r : Result (List ℕ) Stop). Turned (system_of task) wanted limit (pends x.inner) (pends z.inner) (answer_of (Some r))) e (limit_turned k n x z (Some given) s lt h)

  -- none is left
  pub limit_none : (k n : ℕ) (x z : Limit I) → Stands k n x → n < k → LimitedGives system mode most pends lawful last x None z → NoneLeft (system_of task) limit (pends x.inner)
  limit_none k n x z s lt h = (limit_turned k n x z None s lt h).0

  -- each that is left is too dear
  pub limit_range : (k n : ℕ) (x z : Limit I) (given : Result (List ℕ) Stop) (stop : Stop) → given ≡ Err stop → stop ≡ CostRange → Stands k n x → n < k → LimitedGives system mode most pends lawful last x (Some given) z
      → MayStop (system_of task) limit (pends x.inner) CostRange
  limit_range k n x z given stop e f s lt h =
      let stopped = e ∙ ap (λ (t : Stop). Err t) f in
      (subst (λ (r : Result (List ℕ) Stop). Turned (system_of task) wanted limit (pends x.inner) (pends z.inner) (answer_of (Some r))) stopped (limit_turned k n x z (Some given) s lt h)).0

  fair_of : (a : I) → Serves system mode most pends lawful task wanted limit a → Fair (system a) (mode a) (most a) (pends a) → Fair (system_of task) wanted limit (pends a)
  fair_of a s h =
      let of_task = subst (λ (y : System). Fair y (mode a) (most a) (pends a)) s.of_task h in
      let in_mode = subst (λ (m : Mode). Fair (system_of task) m (most a) (pends a)) s.in_mode of_task in
      subst (λ (q : Option ℕ). Fair (system_of task) wanted q (pends a)) s.limited in_mode

  -- the first of k plans of the engine
  abbrev pub first_of : ℕ → I → Limit I
  first_of k engine = record { inner = engine; k = k; listed = 0; ended = false }

  -- at first none was given
  pub stands_first : (k : ℕ) (engine : I) (x : Limit I) → x ≡ first_of k engine → Serves system mode most pends lawful task wanted limit engine → Stands k 0 x
  stands_first k engine x e serves = subst (λ (z : Limit I). Stands k 0 z) (sym e) (record { serves = serves; greatest = refl; count = refl; goes_on = refl })

  pub given_first : (k : ℕ) (engine : I) (x : Limit I) → x ≡ first_of k engine → Fits task → OwesAll system mode most pends lawful task wanted limit engine
      → Fair (system engine) (mode engine) (most engine) (pends engine) → IsGiven task wanted limit (pends x.inner) []
  given_first k engine x e fits owes fair =
      subst (λ (z : Limit I). IsGiven task wanted limit (pends z.inner) []) (sym e) (given_none task wanted limit (pends engine) fits (fair_of engine owes.serves fair) owes.all)

  -- or it has given those of an earlier list
  pub begun_first : (k : ℕ) (engine : I) (x : Limit I) (earlier : Earlier) → x ≡ first_of k engine → OwesRest system mode most pends lawful task wanted limit earlier.plans engine → IsEarlier task wanted limit earlier
      → IsBegun task wanted limit earlier (pends x.inner)
  begun_first k engine x earlier e owes is =
      subst (λ (z : Limit I). IsBegun task wanted limit earlier (pends z.inner)) (sym e) (record { is = is; rest = owes.rest })

  off : (b : Bool) → (b ≡ true → ⊥) → b ≡ false
  off true n = absurd (n refl)
  off false n = refl

  -- one more was given
  pub stands_more : (k n : ℕ) (x z : Limit I) (given : Result (List ℕ) Stop) (p : List ℕ) → given ≡ Ok p → Stands k n x → n < k → LimitedGives system mode most pends lawful last x (Some given) z → Stands k (n + 1) z
  stands_more k n x z given p e s lt h =
      let gives = subst (λ (r : Result (List ℕ) Stop). LimitedGives system mode most pends lawful last x (Some r) z) e h in
      let count = s.count in
      let more = gives.listed in
      record {
        serves = asked_serves x.inner z.inner (answer_of (Some given)) s.serves (limit_asked k n x z (Some given) s lt h);
        greatest = h.k ∙ s.greatest;
        count = omega (arith, count, more);
        goes_on = off z.ended (λ on. let none : 1 ≡ 0 = (gives.ended (undone k n x s lt)).0 on in absurd (omega (arith, none)));
      }

-- An engine that gives what another lacks.
module _ {I J : Type 0} {system : I → System} {mode : I → Mode} {most : I → Option ℕ} {pends : I → List ℕ → Type 0} {lawful : I → Type 0}
    {system' : J → System} {mode' : J → Mode} {most' : J → Option ℕ} {pends' : J → List ℕ → Type 0} {lawful' : J → Type 0} where
  -- where the engine below owes all, it owes the rest of the list that it goes on from
  pub rest_owed : {task : TaskParts} {wanted : Mode} {limit : Option ℕ} (earlier : List (List ℕ)) {below : I} (a : J) → OwesAll system mode most pends lawful task wanted limit below → lawful' a → system' a ≡ system below
      → mode' a ≡ wanted → most' a ≡ most below → (((p : List ℕ) → IsSystemPlanOf (system below) wanted p
      → pends below p) → Rest (system below) wanted earlier (pends' a))
      → OwesRest system' mode' most' pends' lawful' task wanted limit earlier a
  rest_owed {wanted = wanted} earlier {below = below} a owes ok same in_mode limited rest =
      let of_task = owes.serves.of_task in
      let all : (p : List ℕ) → IsSystemPlanOf (system below) wanted p
      → pends below p = λ p plan. owes.all p (subst (λ (y : System). IsSystemPlanOf y wanted p) of_task plan) in
      record {
        serves = record { holds = ok; of_task = same ∙ of_task; in_mode = in_mode; limited = limited ∙ owes.serves.limited };
        rest = subst (λ (y : System). Rest y wanted earlier (pends' a)) of_task (rest all);
      }

-- What a queue owes is fair and computed; turns of the queue, one after the other.
use Rattle.std.proofs.Common.{◌≡◌, ℕ, List, Option, Some, None, Ok, Err, sym, subst}
use Rattle.std.specs.Bool.{Decides}
use Rattle.symk_task.specs.declared.parts.Mode.{Mode}
use Rattle.task_system.specs.System.{System}
use Rattle.lazy_plans.specs.Law.{Gave, PendsAlike, MayStop, NoneLeft, Turned, Fair, Last}
use Rattle.lazy_plans.specs.declared.stop.Stop.TheVariants.{Memory, CostRange}
use Rattle.lazy_plans.proofs.Given.{turned_from}
use Rattle.lazy_plans.proofs.Shells.{shell_told, shell_fair, memory_stops}
use Rattle.lazy_plans.specs.Queue.{Pending, pending, Right}
use Rattle.lazy_plans.specs.Shell.{IsHeld}
use Rattle.lazy_plans.specs.PrefixesOwe.{OwesByPrefix, tells_owed}
use Rattle.lazy_plans.proofs.Turns as turns

pub owed_told : (y : System) (m : Mode) (es : List (List ℕ)) (held : Option (List ℕ)) (p : List ℕ)
    → Decides (tells_owed y m es held p) (OwesByPrefix y m es held p)
owed_told y m es held p = shell_told (pending y m es p) (Pending y m es) held p (turns.told y m es p)

pub owed_fair : (y : System) (m : Mode) (most : Option ℕ) (es : List (List ℕ)) (held : Option (List ℕ)) (ended : Last)
    → Right y m most es → IsHeld y m held ended → Fair y m most (OwesByPrefix y m es held)
owed_fair y m most es held ended right holds =
    shell_fair y m most (Pending y m es) held ended (turns.fair y m most es right) holds

pending_self : (y : System) (m : Mode) (es fs : List (List ℕ)) → fs ≡ es → PendsAlike (Pending y m es) (Pending y m fs)
pending_self y m es fs e p = (subst (λ (z : List (List ℕ)). Pending y m z p) e, subst (λ (z : List (List ℕ)). Pending y m z p) (sym e))

-- turns that only went on took the queue from `first` to `old`, and one more to `new`
module _ (y : System) (m : Mode) (most : Option ℕ) (first old new : List (List ℕ)) (stays : PendsAlike (Pending y m first) (Pending y m old)) where
  pub law_gives : (p : List ℕ) → Gave y m most (Pending y m old) (Pending y m new) p → Turned y m most (Pending y m first) (Pending y m new) (Ok (Some p))
  law_gives p h = turned_from y m most (Pending y m first) (Pending y m old) (Pending y m new) (Ok (Some p)) stays h

  pub law_ends : NoneLeft y most (Pending y m old) × (new ≡ old) → Turned y m most (Pending y m first) (Pending y m new) (Ok None)
  law_ends h = turned_from y m most (Pending y m first) (Pending y m old) (Pending y m new) (Ok None) stays (h.0, pending_self y m old new h.1)

  pub law_out : MayStop y most (Pending y m old) CostRange × (new ≡ old) → Turned y m most (Pending y m first) (Pending y m new) (Err CostRange)
  law_out h = turned_from y m most (Pending y m first) (Pending y m old) (Pending y m new) (Err CostRange) stays (h.0, pending_self y m old new h.1)

  pub law_stops : new ≡ old → Turned y m most (Pending y m first) (Pending y m new) (Err Memory)
  law_stops e = turned_from y m most (Pending y m first) (Pending y m old) (Pending y m new) (Err Memory) stays
      (memory_stops y most (Pending y m old), pending_self y m old new e)

-- What is owed is fair, and computed.
use Rattle.std.proofs.Common.{ℕ, ◌<◌, inl, ltb, eqb, List, Option, Some, None, arith}
use Rattle.std.specs.Bool.{Decides}
use Rattle.std.proofs.lemmas.Bool.Decides.{Decides-and, Decides-or, Decides-ltb, Decides-eqb}
use Rattle.task_system.specs.System.{IsSystemPlan, cost_in_system}
use Rattle.symk_task.specs.declared.parts.Mode.TheVariants.{TopK}
use Rattle.space_api.specs.View.{View}
use Rattle.cost_layers.specs.Layers.{known_of}
use Rattle.cost_layers.specs.declared.layers.Layers.{Layers}
use Rattle.lazy_plans.specs.Law.{Fair, top}
use Rattle.lazy_plans.specs.Shell.{shell_held, shell_ended}
use Rattle.lazy_plans.specs.Told.{is_plan_in}
use Rattle.lazy_plans.proofs.Told.{in_told}
use Rattle.lazy_plans.proofs.Shells.{shell_told, shell_fair}
use Rattle.plan_cuts.specs.Entries.{places}
use Rattle.reconstruct.specs.Entries.{plains, member_in}
use Rattle.reconstruct.specs.declared.entries.Entry.{Entry}
use Rattle.plan_cuts.specs.Drawing.{undrawn}
use Rattle.reconstruct.specs.declared.drawing.Place.{Place}
use Rattle.reconstruct.specs.Working.{OwesByCuts, OwedBy, InWantedRange}
use Rattle.reconstruct.specs.Pending.{cut_tells_owed}
use Rattle.bidirectional.specs.Both.{front_layers, back_layers}
use Rattle.reconstruct.specs.declared.engine.TopPlans.{TopPlans}
use Rattle.reconstruct.specs.Engine.{cut_system, most_of, Pends, tells, IsCutEngine}

-- what is owed is computed
owed_told : {Set : Type 0} (v : View Set) (front back : Layers Set) (listed : Option Place) (queue : List (Entry Set))
    (p : List ℕ) → Decides (cut_tells_owed v front back listed queue p) (OwesByCuts v front back listed queue p)
owed_told v front back None queue p = in_told v.system TopK p
owed_told v front back (Some place) queue p =
    let n = places v.system (known_of back) (plains v (member_in v front) queue) (undrawn place.left place.after) p in
    Decides-and (is_plan_in v.system TopK p) _ (in_told v.system TopK p)
    (Decides-or (ltb place.cost (cost_in_system v.system p)) _ (Decides-ltb place.cost (cost_in_system v.system p))
    (Decides-and (eqb (cost_in_system v.system p) place.cost) (eqb n 1) (Decides-eqb (cost_in_system v.system p) place.cost) (Decides-eqb n 1)))

-- what is owed is fair
pub owed_plan : {Set : Type 0} (v : View Set) (front back : Layers Set) (listed : Option Place) (queue : List (Entry Set))
    (p : List ℕ) → OwesByCuts v front back listed queue p → IsSystemPlan v.system p
owed_plan v front back None queue p h = h
owed_plan v front back (Some place) queue p h = h.0

dear_owed : {Set : Type 0} (most : Option ℕ) (v : View Set) (front back : Layers Set) (listed : Option Place)
    (queue : List (Entry Set)) (p : List ℕ) → InWantedRange most listed → IsSystemPlan v.system p
    → top most < cost_in_system v.system p → OwesByCuts v front back listed queue p
dear_owed most v front back None queue p range plan lt = plan
dear_owed most v front back (Some place) queue p range plan lt = (plan, inl (omega (arith, range, lt)))

-- what an engine owes, with the plan that is held, is fair and computed
pub engine_fair : {S P Set : Type 0} (view : S → View Set) (x : TopPlans S P Set) → IsCutEngine view x
    → Fair (cut_system view x) TopK (most_of x) (Pends view x)
engine_fair view x l = shell_fair (cut_system view x) TopK (most_of x) (OwedBy (view x.space) x.both x.agenda)
    (shell_held x.shell) (shell_ended x.shell) (record {
      members = λ p o. owed_plan (view x.space) (front_layers x.both) (back_layers x.both) x.agenda.listed x.agenda.queue p o;
      dearer = λ p plan lt. dear_owed (most_of x) (view x.space) (front_layers x.both) (back_layers x.both) x.agenda.listed x.agenda.queue p l.ready.range plan lt;
    }) l.shell.holds

pub engine_told : {S P Set : Type 0} (view : S → View Set) (x : TopPlans S P Set) (p : List ℕ) → Decides (tells view x p) (Pends view x p)
engine_told view x p = shell_told (cut_tells_owed (view x.space) (front_layers x.both) (back_layers x.both) x.agenda.listed x.agenda.queue p)
    (OwedBy (view x.space) x.both x.agenda) (shell_held x.shell) p
    (owed_told (view x.space) (front_layers x.both) (back_layers x.both) x.agenda.listed x.agenda.queue p)

-- What reconstruction needs of a search from both ends.
use Rattle.std.specs.Prelude.{◌≡◌, ℕ, ◌+◌, ◌<◌, ◌≤◌, List, Option}
use Rattle.task_system.specs.System.{System, cost_in_system}
use Rattle.space_api.specs.View.{View}
use Rattle.run_graph.specs.Reached.{IsRightLayer}
use Rattle.run_graph.specs.declared.Side.TheVariants.{Ahead, Back}
use Rattle.run_graph.specs.declared.Kind.TheVariants.{Every}
use Rattle.cost_layers.specs.Layers.{known_of, Held, Stands}
use Rattle.cost_layers.specs.declared.layers.Layers.{Layers}
use Rattle.lazy_plans.specs.Law.{top, NoneLeft, MayStop}
use Rattle.lazy_plans.specs.declared.stop.Stop.TheVariants.{CostRange}
use Rattle.plan_cuts.specs.Drawing.{Above}
use Rattle.bidirectional.specs.declared.search.Next.{Next}
use Rattle.bidirectional.specs.declared.search.Next.TheVariants.{Plans, Beyond, Never}

-- each layer below its side's bound is right, and cost 0 is settled on both sides
pub record AreRightLayers {Set : Type 0} (v : View Set) (front back : Layers Set) : Type 0 where
  pub front_held : Held v front
  pub back_held : Held v back
  pub front_right : (c : ℕ) → c < known_of front → IsRightLayer Ahead Every v.system (Stands v front) c
  pub back_right : (c : ℕ) → c < known_of back → IsRightLayer Back Every v.system (Stands v back) c
  pub begun : (1 ≤ known_of front) × (1 ≤ known_of back)

-- the cost is settled and wanted, a plan above has it, and none above is cheaper
pub record IsNextCost {Set : Type 0} (y : System) (above most : Option ℕ) (front back : Layers Set) (cost : ℕ) : Type 0 where
  pub settled : cost < known_of front + known_of back
  pub wanted : cost ≤ top most
  pub plan : (p : List ℕ) × Above y above p × (cost_in_system y p ≡ cost)
  pub least : (p : List ℕ) → Above y above p → cost ≤ cost_in_system y p

-- the next cost at which a wanted plan exists; or plans above are all past 64 bits; or none above is wanted
abbrev pub AdvancesCost : {Set : Type 0} → System → Option ℕ → Option ℕ → Layers Set → Layers Set → Next → Type 0
AdvancesCost y above most front back (Plans cost) = IsNextCost y above most front back cost
AdvancesCost y above most front back Beyond = MayStop y most (Above y above) CostRange
AdvancesCost y above most front back Never = NoneLeft y most (Above y above)

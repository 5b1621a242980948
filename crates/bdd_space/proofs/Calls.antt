-- What the calls of a space owe, from what the operations on its table say. The space is `e` inside, and `old` to its callers.
use Rattle.std.proofs.Common.{◌≡◌, ℕ, ◌<◌, ◌==◌, not, ◌&&◌, ◌||◌, List, length, Some, IsSome, IsTrue, Result, Ok, Err, IfOk, OnErr, sym, ◌∙◌, ap, subst, arith}
use Rattle.symk_task.specs.declared.parts.TaskParts.{TaskParts}
use Rattle.var_order.specs.Layout.{Layout, slot_of}
use Rattle.var_order.specs.Codes.{IsCode, coded_value}
use Rattle.symk_task.specs.declared.parts.Fact.{Fact}
use Rattle.symk_task.specs.Variables.{IsBase}
use Rattle.symk_task.specs.Steps.{Step}
use Rattle.bdd_table.specs.declared.node.Node.{Node}
use Rattle.bdd_table.specs.Diagram.{Bits, means, Keeps}
use Rattle.transitions.specs.Relations.{Names}
use Rattle.space_api.specs.View.{GoalIn, FactIn, Unites, Meets, Lacks, Image, CostImage, Preimage, CostPreimage}
use Rattle.space_api.specs.Frames.{Kept, NoMore, Gives}
use Rattle.trans_merge.specs.Steps.{StepOfCost, ImageBy, PreimageBy}
use Rattle.trans_merge.specs.Relations.{AreAsked}
use Rattle.bdd_space.specs.declared.slots.Slot.{Slot}
use Rattle.bdd_space.specs.Slots.{set_at, Puts}
use Rattle.bdd_space.specs.Members.{has_state, IsKnownSet}
use Rattle.bdd_space.specs.Symbolic.{Symbolic, IsSpace, GrowsSymbolic, Makes}
use Rattle.bdd_space.specs.Seen.{seen}
use Rattle.space_api.proofs.Keeping.{kept_refl}
use Rattle.bdd_space.proofs.Keeping.{over, with_sets, grows, kept_grown, id_there, space_put, kept_put, gives_put}
use Rattle.bdd_space.proofs.Chosen.{slot_there, fact_made}
use Rattle.bdd_space.proofs.Made.{goals_made, united_made, common_made, left_made}
use Rattle.bdd_space.proofs.Stepping.{image_made, cost_image_made, preimage_made, cost_preimage_made}

pub ok_both : {T E : Type 0} (r : Result T E) (P Q S : T → Type 0) → IfOk r P → IfOk r Q → ((x : T) → P x → Q x → S x) → IfOk r S
ok_both (Ok x) P Q S p q f = f x p q
ok_both (Err e) P Q S p q f = tt

module _ (e old : Symbolic) (start : List ℕ) (i : IsSpace e start) (same : e ≡ old) where
  pub grows_by : (new : List Node) → Keeps e.nodes new → GrowsSymbolic old (over e new)
  grows_by new k = subst (λ (x : Symbolic). GrowsSymbolic x (over e new)) same (grows e new k)

  pub kept_by : (new : List Node) → Keeps e.nodes new → Kept (seen old) (seen (over e new))
  kept_by new k = subst (λ (x : Symbolic). Kept (seen x) (seen (over e new))) same (kept_grown e new i.sets k)

  -- an operator of the task has a relation
  pub op_by : (op : ℕ) → op < length old.task.operators → op < length e.relations.single.items
  op_by op lt =
      let single = i.relations.single in
      let count = single.operators in
      let lt_inside : op < length e.task.operators = subst (λ (x : Symbolic). op < length x.task.operators) (sym same) lt in
      omega (arith, count, lt_inside)

  -- a base variable has a value in each state
  base_by : (fact : Fact) → IsBase old.task fact.var → IsBase e.task fact.var
  base_by fact base = subst (λ (x : Symbolic). IsBase x.task fact.var) (sym same) base

  pub slot_by : (fact : Fact) → IsBase old.task fact.var → IsSome (slot_of e.order fact.var)
  slot_by fact base = slot_there e start i fact (base_by fact base)

  module _ (a f : ℕ) (is : set_at old.sets a ≡ Some f) where
    here : set_at e.sets a ≡ Some f
    here = ap (λ (x : Symbolic). set_at x.sets a) same ∙ is

    pub known_by : IsKnownSet e.order e.nodes f
    known_by = id_there e.order e.nodes e.sets a f i.sets here

    -- what the operations on relations ask
    pub asked_by : AreAsked e.task e.order e.nodes e.relations f
    asked_by = (let k = known_by in record { relations = i.relations; states = k.set })

    module _ {E : Type 0} (new : List Node) (r : Result ℕ E) (known : IfOk r (λ id. id < length new)) where
      pub goals_by : IfOk r (λ id. (b : Bits) → means new id b ≡ (means e.nodes f b && means e.nodes e.own.goals b))
          → IfOk r (Makes (over e new) (GoalIn (seen old) a))
      goals_by meaning = ok_both r (λ id. id < length new) (λ id. (b : Bits) → means new id b
          ≡ (means e.nodes f b && means e.nodes e.own.goals b))
          (Makes (over e new) (GoalIn (seen old) a)) known meaning
          (λ id k m. subst (λ (x : Symbolic). Makes (over e new) (GoalIn (seen x) a) id) same (goals_made e start i a f here new id k m))

      module _ (b g : ℕ) (is_too : set_at old.sets b ≡ Some g) where
        there : set_at e.sets b ≡ Some g
        there = ap (λ (x : Symbolic). set_at x.sets b) same ∙ is_too

        pub united_by : IfOk r (λ id. (v : Bits) → means new id v ≡ (means e.nodes f v || means e.nodes g v))
            → IfOk r (Makes (over e new) (Unites (seen old) a b))
        united_by meaning = ok_both r (λ id. id < length new)
            (λ id. (v : Bits) → means new id v ≡ (means e.nodes f v || means e.nodes g v))
            (Makes (over e new) (Unites (seen old) a b)) known meaning
            (λ id k m. subst (λ (x : Symbolic). Makes (over e new) (Unites (seen x) a b) id) same (united_made e start i a f here b g there new id k m))

        pub common_by : IfOk r (λ id. (v : Bits) → means new id v ≡ (means e.nodes f v && means e.nodes g v))
            → IfOk r (Makes (over e new) (Meets (seen old) a b))
        common_by meaning = ok_both r (λ id. id < length new)
            (λ id. (v : Bits) → means new id v ≡ (means e.nodes f v && means e.nodes g v))
            (Makes (over e new) (Meets (seen old) a b)) known meaning
            (λ id k m. subst (λ (x : Symbolic). Makes (over e new) (Meets (seen x) a b) id) same (common_made e start i a f here b g there new id k m))

        pub left_by : IfOk r (λ id. (v : Bits) → means new id v ≡ (means e.nodes f v && not (means e.nodes g v)))
            → IfOk r (Makes (over e new) (Lacks (seen old) a b))
        left_by meaning = ok_both r (λ id. id < length new) (λ id. (v : Bits) → means new id v
            ≡ (means e.nodes f v && not (means e.nodes g v)))
            (Makes (over e new) (Lacks (seen old) a b)) known meaning
            (λ id k m. subst (λ (x : Symbolic). Makes (over e new) (Lacks (seen x) a b) id) same (left_made e start i a f here b g there new id k m))

      -- images

      pub image_by : (op : ℕ) → IfOk r (λ id. (task : TaskParts) (o : Layout) → AreAsked task o e.nodes e.relations f
          → Names o (ImageBy o (λ s t. Step task s op t) (means e.nodes f)) (means new id))
          → IfOk r (Makes (over e new) (Image (seen old) op a))
      image_by op names = ok_both r (λ id. id < length new) (λ id. (task : TaskParts) (o : Layout) → AreAsked task o
          e.nodes e.relations f → Names o (ImageBy o (λ s t. Step task s op t) (means e.nodes f)) (means new id))
          (Makes (over e new) (Image (seen old) op a)) known names
          (λ id k m. subst (λ (x : Symbolic). Makes (over e new) (Image (seen x) op a) id) same
          (image_made e start i a f here op new id (record { known = k; names = m e.task e.order asked_by })))

      pub cost_image_by : (cost : ℕ) → IfOk r (λ id. (task : TaskParts) (o : Layout) → AreAsked task o e.nodes
          e.relations f → Names o (ImageBy o (StepOfCost task cost) (means e.nodes f)) (means new id))
          → IfOk r (Makes (over e new) (CostImage (seen old) cost a))
      cost_image_by cost names = ok_both r (λ id. id < length new)
          (λ id. (task : TaskParts) (o : Layout) → AreAsked task o e.nodes e.relations f
          → Names o (ImageBy o (StepOfCost task cost) (means e.nodes f)) (means new id))
          (Makes (over e new) (CostImage (seen old) cost a)) known names
          (λ id k m. subst (λ (x : Symbolic). Makes (over e new) (CostImage (seen x) cost a) id) same
          (cost_image_made e start i a f here cost new id
          (record { known = k; names = m e.task e.order asked_by })))

    -- the states where a fact holds: `facts` over the table in the middle

    module _ {E : Type 0} (fact : Fact) (base : IsBase old.task fact.var) (mid new : List Node) (facts : ℕ) (k : Keeps e.nodes mid)
        (r : Result ℕ E) (known : IfOk r (λ id. id < length new))
        (meaning : IfOk r (λ id. (v : Bits) → means new id v ≡ (means mid f v && means mid facts v))) where
      pub fact_by : ((s : List ℕ) (b : Bits) → IsCode e.order 0 s b
          → means mid facts b ≡ (coded_value e.order s fact.var == fact.val))
          → IfOk r (Makes (over e new) (FactIn (seen old) fact a))
      fact_by says = ok_both r (λ id. id < length new) (λ id. (v : Bits) → means new id v
          ≡ (means mid f v && means mid facts v)) (Makes (over e new) (FactIn (seen old) fact a)) known meaning
          (λ id in_new m. subst (λ (x : Symbolic). Makes (over e new) (FactIn (seen x) fact a) id) same
          (fact_made e start i fact (base_by fact base) a f here mid new facts id k in_new m says))

    -- preimages: `found` over the table in the middle, cut to the other set

    module _ {E : Type 0} (within g : ℕ) (is_too : set_at old.sets within ≡ Some g) (mid new : List Node) (found : ℕ)
        (k : Keeps e.nodes mid) (at : found < length mid)
        (r : Result ℕ E) (known : IfOk r (λ id. id < length new))
        (meaning : IfOk r (λ id. (v : Bits) → means new id v ≡ (means mid found v && means mid g v))) where
      inside : set_at e.sets within ≡ Some g
      inside = ap (λ (x : Symbolic). set_at x.sets within) same ∙ is_too

      pub preimage_by : (op : ℕ) → Names e.order (PreimageBy e.order (λ s t. Step e.task s op t) (means e.nodes f))
          (means mid found) → IfOk r (Makes (over e new) (Preimage (seen old) op a within))
      preimage_by op names = ok_both r (λ id. id < length new)
          (λ id. (v : Bits) → means new id v ≡ (means mid found v && means mid g v))
          (Makes (over e new) (Preimage (seen old) op a within)) known meaning
          (λ id in_new m. subst (λ (x : Symbolic). Makes (over e new) (Preimage (seen x) op a within) id) same
          (preimage_made e start i a f here within g inside mid new found id k in_new m op (record { known = at; names = names })))

      pub cost_preimage_by : (cost : ℕ) → Names e.order (PreimageBy e.order (StepOfCost e.task cost)
          (means e.nodes f)) (means mid found) → IfOk r (Makes (over e new) (CostPreimage (seen old) cost a within))
      cost_preimage_by cost names = ok_both r (λ id. id < length new)
          (λ id. (v : Bits) → means new id v ≡ (means mid found v && means mid g v))
          (Makes (over e new) (CostPreimage (seen old) cost a within)) known meaning
          (λ id in_new m. subst (λ (x : Symbolic). Makes (over e new) (CostPreimage (seen x) cost a within) id) same
          (cost_preimage_made e start i a f here within g inside mid new found id k in_new m cost (record { known = at; names = names })))

-- a set is added, or it is out of memory

module _ {E : Type 0} (e old : Symbolic) (start : List ℕ) (i : IsSpace e start) (same : e ≡ old) (id : ℕ)
    (new : List Slot) (r : Result ℕ E) (ok : IfOk r (Puts e.sets id new)) (err : OnErr r (new ≡ e.sets)) where
  known_inside : IsKnownSet old.order old.nodes id → IsKnownSet e.order e.nodes id
  known_inside k = subst (λ (x : Symbolic). IsKnownSet x.order x.nodes id) (sym same) k

  pub put_space : IsKnownSet old.order old.nodes id → IsSpace (with_sets e new) start
  put_space k = go r ok err
    where
      go : (r : Result ℕ E) → IfOk r (Puts e.sets id new) → OnErr r (new ≡ e.sets) → IsSpace (with_sets e new) start
      go (Ok a) puts stays = space_put e id a new puts start (known_inside k) i
      go (Err x) puts stays = subst (λ (s : List Slot). IsSpace (with_sets e s) start) (sym stays) i

  pub put_kept : Kept (seen old) (seen (with_sets e new))
  put_kept = subst (λ (x : Symbolic). Kept (seen x) (seen (with_sets e new))) same (go r ok err)
    where
      go : (r : Result ℕ E) → IfOk r (Puts e.sets id new) → OnErr r (new ≡ e.sets) → Kept (seen e) (seen (with_sets e new))
      go (Ok a) puts stays = kept_put e id a new puts
      go (Err x) puts stays = subst (λ (s : List Slot). Kept (seen e) (seen (with_sets e s))) (sym stays) (kept_refl (seen e))

  pub put_gives : IfOk r (Gives (seen old) (seen (with_sets e new)) (λ s. IsTrue (has_state old.order old.nodes id s)))
  put_gives = subst (λ (x : Symbolic). IfOk r (Gives (seen x) (seen (with_sets e new)) (λ s. IsTrue (has_state x.order x.nodes id s)))) same (go r ok)
    where
      go : (r : Result ℕ E) → IfOk r (Puts e.sets id new) → IfOk r (Gives (seen e) (seen (with_sets e new)) (λ s. IsTrue (has_state e.order e.nodes id s)))
      go (Ok a) puts = gives_put e id a new puts
      go (Err x) puts = tt

  pub put_none : OnErr r (NoMore (seen old) (seen (with_sets e new)))
  put_none = subst (λ (x : Symbolic). OnErr r (NoMore (seen x) (seen (with_sets e new)))) same (go r err)
    where
      go : (r : Result ℕ E) → OnErr r (new ≡ e.sets) → OnErr r (NoMore (seen e) (seen (with_sets e new)))
      go (Ok a) stays = tt
      go (Err x) stays = subst (λ (s : List Slot). NoMore (seen e) (seen (with_sets e s))) (sym stays) (λ a h. h)

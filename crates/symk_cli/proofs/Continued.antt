-- Lists that go on from blocks, each of which is good.
use Rattle.std.proofs.Common.{◌≡◌, ◌∙◌, ap, ap₂, sym, refl, subst, inl, inr, ℕ, zero, suc, ◌+◌, ◌-◌, ◌^◌, ◌<◌, List, [], ◌∷◌, ◌++◌, length, take, get_or, slice_get, All, Option, None, arith}
use Rattle.std.specs.Option.{option_map_or}
use Rattle.std.proofs.lemmas.List.{length-map, length_push, map-append, take_more}
use Rattle.std.proofs.lemmas.List.Elements.{All-push, All-map, All-head, All-tail}
use Rattle.symk_io.specs.View.{SinkView}
use Rattle.symk_task.specs.declared.parts.Mode.{Mode}
use Rattle.symk_task.specs.declared.parts.TaskParts.{TaskParts}
use Rattle.symk_task.specs.Fits.{Fits}
use Rattle.symk_task.specs.Plans.{cost_of}
use Rattle.plan_out.specs.declared.blocks.ReadBlock.{ReadBlock}
use Rattle.plan_out.specs.declared.check.Checked.TheVariants.{Good}
use Rattle.plan_out.specs.Fails.{Finds}
use Rattle.plan_out.specs.Lists.{plans_of, IsGoodList}
use Rattle.plan_out.proofs.GoodList.{good}
use Rattle.plan_out.proofs.Noting.{get_push}
use Rattle.plan_run.specs.declared.options.Wanted.{Wanted}
use Rattle.plan_run.specs.declared.earlier.Earlier.{Earlier}
use Rattle.run_status.specs.declared.status.Status.{Status}
use Rattle.run_status.specs.declared.status.Status.TheVariants as status
use Rattle.run_status.specs.Sent.{Sent, nothing}
use Rattle.run_status.specs.Ends.{AsOne, FrontOf, OrFront, PutsOutWith}
use Rattle.plan_run.specs.Earlier.{IsEarlier}
use Rattle.plan_run.specs.Lists.{OrPart, MayCome, PartListing, aim_after}
use Rattle.run_status.proofs.Took.{took_nothing}
use Rattle.plan_run.proofs.Reached.{whole_or_part}
use Rattle.symk_cli.specs.Goes.{AreGood, IsBad, MayGoOn, MayGoPart, OrGoesOn, aim_from, last_stated}

-- the last block states what its plan costs
last_same : (f : ReadBlock → ℕ) (h : List ℕ → ℕ) (blocks : List ReadBlock) (i : ℕ) → All (λ b. f b ≡ h b.ops) blocks → option_map_or f (slice_get blocks i) 0 ≡ option_map_or h (slice_get (plans_of blocks) i) 0
last_same f h [] i all = refl
last_same f h (b ∷ blocks) zero all = All-head (λ c. f c ≡ h c.ops) b blocks all
last_same f h (b ∷ blocks) (suc i) all = last_same f h blocks i (All-tail (λ c. f c ≡ h c.ops) b blocks all)

module _ (task : TaskParts) (mode : Mode) (blocks : List ReadBlock) where
  abbrev stated : Earlier
  stated = record { plans = plans_of blocks; dearest = last_stated blocks }

  stated_is : IsGoodList task mode blocks → length (plans_of blocks) < 2 ^ 63 → All (λ b. b.cost < 2 ^ 64) blocks → last_stated blocks < 2 ^ 64 → IsEarlier task mode None stated
  stated_is g few small held =
      let many : length (plans_of blocks) ≡ length blocks = length-map blocks (λ (b : ReadBlock). b.ops) in
      record {
        each = g.each;
        different = λ i j lt within. g.different i j lt (subst (λ (n : ℕ). j < n) many within);
        costs = g.costs;
        cheap = All-map (λ p. cost_of task p < 2 ^ 64) (λ (b : ReadBlock). b.ops) blocks (λ k d lt. subst (λ (n : ℕ). n < 2 ^ 64) (g.cost_lines k d lt).0 (small k d lt));
        within = tt;
        last = last_same (λ b. b.cost) (cost_of task) blocks (length blocks - 1) (λ k d lt. (g.cost_lines k d lt).0) ∙ ap (λ (n : ℕ). option_map_or (cost_of task) (slice_get (plans_of blocks) (n - 1)) 0) (sym many);
        top = omega (arith, held);
        few = few;
      }

  -- the plans of good blocks are an earlier list
  pub earlier_is : (earlier : Earlier) (n : ℕ) → Fits task → Finds task mode blocks (Good n) → earlier.plans ≡ plans_of blocks → earlier.dearest ≡ last_stated blocks → length earlier.plans < 2 ^ 63
      → All (λ b. b.cost < 2 ^ 64) blocks → earlier.dearest < 2 ^ 64 → IsEarlier task mode None earlier
  earlier_is earlier n fits finds plans dearest few small held =
      let same : earlier ≡ stated = ap₂ (λ (p : List (List ℕ)) (d : ℕ). let e : Earlier = record { plans = p; dearest = d } in e) plans dearest in
      let less = subst (λ (l : List (List ℕ)). length l < 2 ^ 63) plans few in
      let below = subst (λ (d : ℕ). d < 2 ^ 64) dearest held in
      subst (λ (e : Earlier). IsEarlier task mode None e) (sym same) (stated_is (good task mode blocks n fits finds) less small below)

  good_is : (n : ℕ) → Finds task mode blocks (Good n) → AreGood task mode blocks
  good_is n finds = subst (λ (m : ℕ). Finds task mode blocks (Good m)) finds.0 finds

  -- a list that goes on from them
  pub list_goes : (wanted : Wanted) (plans : List (List ℕ)) (n : ℕ) (old new : SinkView) (result : Status)
      → Finds task mode blocks (Good n) → plans ≡ plans_of blocks
      → PutsOutWith (OrPart (aim_after task mode wanted None plans)) old new result
      → PutsOutWith (OrGoesOn task mode wanted blocks) old new result
  list_goes wanted plans n old new result finds same p =
      let g = good_is n finds in
      let q = subst (λ (l : List (List ℕ)). PutsOutWith (OrPart (aim_after task mode wanted None l)) old new result) same p in (
        q.0,
        q.1,
        whole_or_part (MayCome (aim_from task mode wanted blocks)) (MayGoOn task mode wanted blocks) (PartListing (aim_from task mode wanted blocks)) (MayGoPart task mode wanted blocks)
            (λ result pieces m. inr (g, m)) (λ out m. (g, m)) result q.0 q.2,
      )

  module _ (wanted : Wanted) where
    as_front : (out : Sent) → FrontOf (AsOne (IsBad task mode blocks)) out → FrontOf (MayGoOn task mode wanted blocks) out
    as_front out (inl none) = inl none
    as_front out (inr f) = inr (f.0, f.1, inl f.2, f.3)

    as_goes : (result : Status) (out : Sent) → OrFront (IsBad task mode blocks) result out → OrGoesOn task mode wanted blocks result out
    as_goes status.WriteFault out f = inl (as_front out f)
    as_goes status.Memory out f = inl (as_front out f)
    as_goes result out m = (inl m.0, m.1)

    -- or the verdict on them
    pub bad_goes : (old new : SinkView) (result : Status)
        → PutsOutWith (OrFront (IsBad task mode blocks)) old new result
        → PutsOutWith (OrGoesOn task mode wanted blocks) old new result
    bad_goes old new result p = (p.0, p.1, as_goes result p.0 p.2)

    -- nothing, when out of memory
    pub memory_goes : (old : SinkView) → PutsOutWith (OrGoesOn task mode wanted blocks) old old status.Memory
    memory_goes old = (nothing, took_nothing old, inl (inl refl))

-- So much of a list of blocks was gone through: its plans, and what the last block of it states to cost.
pub record IsGathered (some : List ReadBlock) (plans : List (List ℕ)) (dearest : ℕ) : Type 0 where
  pub gathered : plans ≡ plans_of some
  pub last : dearest ≡ last_stated some
  pub cheap : All (λ b. b.cost < 2 ^ 64) some
  pub held : dearest < 2 ^ 64

last_push : (some : List ReadBlock) (b : ReadBlock) → last_stated (some ++ b ∷ []) ≡ b.cost
last_push some b =
    let at : length some ≡ length (some ++ b ∷ []) - 1 = omega (arith, length_push some b) in
    ap (λ (o : Option ReadBlock). option_map_or (λ (c : ReadBlock). c.cost) o 0) (get_push some b (length (some ++ b ∷ []) - 1) at)

gathered_more : (some : List ReadBlock) (plans : List (List ℕ)) (dearest : ℕ) (b : ReadBlock) → b.cost < 2 ^ 64 → IsGathered some plans dearest → IsGathered (some ++ b ∷ []) (plans ++ b.ops ∷ []) b.cost
gathered_more some plans dearest b small g = record {
  gathered = ap (λ (l : List (List ℕ)). l ++ b.ops ∷ []) g.gathered ∙ sym (map-append (λ (c : ReadBlock). c.ops) some (b ∷ []));
  last = sym (last_push some b);
  cheap = All-push (λ c. c.cost < 2 ^ 64) some b g.cheap small;
  held = small;
}

-- one block more of the list
pub gathered_next : (blocks : List ReadBlock) (at : ℕ) (b : ReadBlock) {plans more : List (List ℕ)} {dearest : ℕ} {ops : List ℕ} → at < length blocks
    → get_or blocks at b ≡ b → b.cost < 2 ^ 64 → ops ≡ b.ops → more ≡ plans ++ ops ∷ [] → IsGathered (take at blocks) plans dearest → IsGathered (take (at + 1) blocks) more b.cost
gathered_next blocks at b {plans = plans} {more = more} {dearest = dearest} lt is small copy grown g =
    let whole : take (at + 1) blocks ≡ take at blocks ++ b ∷ [] = take_more blocks at b lt ∙ ap (λ (c : ReadBlock). take at blocks ++ c ∷ []) is in
    let all : more ≡ plans ++ b.ops ∷ [] = grown ∙ ap (λ (o : List ℕ). plans ++ o ∷ []) copy in
    let there = gathered_more (take at blocks) plans dearest b small g in
    subst (λ (some : List ReadBlock). IsGathered some more b.cost) (sym whole) (subst (λ (l : List (List ℕ)). IsGathered (take at blocks ++ b ∷ []) l b.cost) (sym all) there)

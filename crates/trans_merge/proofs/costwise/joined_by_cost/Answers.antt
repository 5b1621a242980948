use Rattle.std.proofs.Common.{◌≡◌, ◌+◌, ◌++◌, ◌∷◌, [], ℕ, length, get_or, List, sym, ◌∙◌, ap, subst, arith}
use Rattle.transitions.specs.declared.relations.Relation.{Relation}
use Rattle.axiom_layers.proofs.RootValues.{keeps_on, keeps_itself}
use Rattle.trans_merge.specs.Gathered.{AreJoined}
use Rattle.trans_merge.specs.Halves.{AreHalvedOf, AreHalved}
use Rattle.trans_merge.proofs.Kept.{single_kept, joined_kept}
use Rattle.trans_merge.proofs.Appended.{joined_none, joined_more, parts}
use Rattle.trans_merge.proofs.Halving.{halved_kept}
use Rattle.trans_merge.proofs.costwise.joined_by_cost.Goals as goal

pub loop-cost-init : goal.loop-cost-init
loop-cost-init c =
    let task = c.args.task.now in
    let o = c.args.order.now in
    let nodes = c.args.ops.now in
    let costs = c.args.costs.now in
    let starts = c.in_ok-push.ensures.items ∙ ap (λ (xs : List ℕ). xs ++ 0 ∷ []) c.new-starts.ensures.items in
    record {
      kept = keeps_itself nodes;
      reduced = c.table.ensures.reduced;
      single = c.requires;
      so_far = subst (λ (xs : List ℕ). AreJoined task o nodes costs 0 xs c.new-joined.result.items) (sym starts)
          (subst (λ (rs : List Relation). AreJoined task o nodes costs 0 (0 ∷ []) rs) (sym c.new-joined.ensures.items) (joined_none task o nodes costs));
      halved = λ i lt. absurd (omega (arith, lt));
    }

pub joined_of_cost-requires : goal.joined_of_cost-requires
joined_of_cost-requires c = c.loop-cost.invariant.single

pub loop-cost-preserved : goal.loop-cost-preserved
loop-cost-preserved c =
    let task = c.args.task.now in
    let o = c.args.order.now in
    let costs = c.args.costs.now in
    let n = c.loop-cost.cost-index in
    let now = c.loop-cost.ops in
    let grown = c.joined_of_cost.new.ops in
    let inv = c.loop-cost.invariant in
    let it = c.in_ok-part.ensures in
    let joined = c.loop-cost.joined.items in
    let starts = c.loop-cost.starts.items in
    let part = c.in_ok-part.part.items in
    let single = c.args.single.now in
    let before = joined_kept task o now grown costs n starts joined it.kept inv.so_far in
    let both = c.in_ok-append.ensures.items in
    let end : c.len.result ≡ length (joined ++ part) = (let e = c.len.ensures in let k = c.append.new.self.ok.0 in
    let f = ap (λ (rs : List Relation). length rs) both in omega (arith, e, k, f)) in
    let ends = c.in_ok-push-2.ensures.items ∙ ap (λ (x : ℕ). starts ++ x ∷ []) end in
    record {
      kept = keeps_on c.args.ops.now now grown inv.kept it.kept;
      reduced = it.reduced;
      single = single_kept task o now grown c.args.single.now it.kept inv.single;
      so_far = subst (λ (xs : List ℕ). AreJoined task o grown costs (n + 1) xs c.append.new.self.items) (sym ends)
          (subst (λ (rs : List Relation). AreJoined task o grown costs (n + 1) (starts ++ length (joined ++ part) ∷ []) rs) (sym both)
          (joined_more task o grown costs n starts joined part before it.have));
      halved = subst (λ (xs : List ℕ). AreHalved task o c.args.bound grown single costs (n + 1) xs c.append.new.self.items) (sym ends)
          (subst (λ (rs : List Relation). AreHalved task o c.args.bound grown single costs (n + 1) (starts ++ length (joined ++ part) ∷ []) rs) (sym both)
          (parts task o grown costs n starts joined part before (λ i rs. AreHalvedOf task o c.args.bound grown single (get_or costs i 0) rs)
          (halved_kept o c.args.bound now grown inv.reduced it.reduced it.kept task single inv.single costs n starts joined inv.halved) it.halved));
    }

all : (c : goal.After-loop-cost) → c.loop-cost.cost-index ≡ length c.args.costs.now
all c = (let below = c.loop-cost.auto.cost-index-end in let above = c.loop-cost-test.false in omega (arith, below, above))

pub returns-clause-joined : goal.returns-clause-joined
returns-clause-joined c =
    subst (λ (n : ℕ). AreJoined c.args.task.now c.args.order.now c.loop-cost.ops c.args.costs.now n
    c.loop-cost.starts.items c.loop-cost.joined.items) (all c) c.loop-cost.invariant.so_far

pub returns-clause-halved : goal.returns-clause-halved
returns-clause-halved c =
    subst (λ (n : ℕ). AreHalved c.args.task.now c.args.order.now c.args.bound c.loop-cost.ops c.args.single.now
    c.args.costs.now n c.loop-cost.starts.items c.loop-cost.joined.items) (all c) c.loop-cost.invariant.halved

use Rattle.std.proofs.Common.{◌<◌, ◌+◌, ◌&&◌, Bool, true, ℕ, get_or, arith}
use Rattle.std.proofs.lemmas.List.{get_or_default}
use Rattle.symk_task.specs.declared.parts.Fact.{Fact}
use Rattle.task_run.specs.Values.{HasValue}
use Rattle.bdd_table.proofs.Meaning.{means_true}
use Rattle.bdd_sets.proofs.OfStates.{set_kept}
use Rattle.axiom_layers.proofs.RootValues.{kept_sets, kept_says, keeps_on, keeps_itself, constant_of_states, both_of_states}
use Rattle.axiom_layers.proofs.FactSets.{none_says, IsConj, conj_says, facts_more}
use Rattle.axiom_layers.proofs.conditions.values_set.Goals as goal

pub loop-fact-init : goal.loop-fact-init
loop-fact-init c =
    let reduced = c.table.ensures.reduced in
    let holds = means_true c.args.ops.now reduced in
    record {
      kept = keeps_itself c.args.ops.now;
      reduced = reduced;
      sets = c.requires.roots;
      known = (let k = reduced.constants in omega (arith, k));
      of_states = constant_of_states c.args.order.now c.args.ops.now 1 true holds;
      says = none_says c.args.parts.now c.args.order.now c.args.ops.now c.args.roots.now c.args.facts.now 1 holds;
    }

pub loop-fact-preserved : goal.loop-fact-preserved
loop-fact-preserved c =
    let task = c.args.parts.now in
    let o = c.args.order.now in
    let roots = c.args.roots.now in
    let facts = c.args.facts.now in
    let xs = c.loop-fact.ops in
    let ys = c.value_set.new.ops in
    let zs = c.conj.new.self in
    let inv = c.loop-fact.invariant in
    let set = c.in_ok-set.ensures in
    let all = c.in_ok-all.ensures in
    let i = c.loop-fact.fact-index in
    let none : Fact = record { var = 0; val = 0 } in
    let e : Fact = get_or facts i none in
    let sets = kept_sets task o xs ys roots set.kept inv.sets in
    let conj : IsConj ys zs c.loop-fact.all c.in_ok-set.set c.in_ok-all.all = record { both = all.meaning } in
    record {
      kept = keeps_on c.args.ops.now ys zs (keeps_on c.args.ops.now xs ys inv.kept set.kept) all.kept;
      reduced = all.reduced;
      sets = kept_sets task o ys zs roots all.kept sets;
      known = all.known;
      of_states = both_of_states (λ (t u : Bool). t && u) o ys zs c.loop-fact.all c.in_ok-set.set c.in_ok-all.all
          (set_kept o xs ys c.loop-fact.all set.kept inv.known inv.of_states) set.of_states all.meaning;
      says = conj_says
          (λ values. (k : ℕ) (d : Fact) → k < i → HasValue values (get_or facts k d)) (λ values. HasValue values e)
          (λ values. (k : ℕ) (d : Fact) → k < i + 1 → HasValue values (get_or facts k d))
          all.kept sets
          (kept_says task o xs ys roots (λ values. (k : ℕ) (d : Fact) → k < i → HasValue values (get_or facts k d))
          c.loop-fact.all set.kept inv.sets inv.known inv.says)
          set.meaning conj
          (λ values. facts_more values facts i e c.loop-fact-test.true
          (get_or_default facts i none e c.loop-fact-test.true));
    }

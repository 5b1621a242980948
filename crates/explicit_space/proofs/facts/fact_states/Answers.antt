use Rattle.std.proofs.Common.{◌≡◌, ℕ, ◌<◌, List, IsTrue, take, length, sym, ◌∙◌, ap, subst}
use Rattle.std.specs.List.{count_by}
use Rattle.symk_task.specs.declared.parts.Variable.{Variable}
use Rattle.symk_task.specs.declared.parts.TaskParts.{TaskParts}
use Rattle.symk_task.specs.Variables.{is_base, place}
use Rattle.symk_task.specs.Steps.{Holds}
use Rattle.task_system.specs.System.{State}
use Rattle.explicit_space.specs.Members.{has_explicit_state, IsIf, FromMember}
use Rattle.explicit_space.proofs.Gathering.{next_member, so_far_more, so_far_all, grows_if, has_those, has_as, kept_from}
use Rattle.explicit_space.proofs.HavingFact.{within_variables, place_below, fact_says}
use Rattle.explicit_space.proofs.facts.fact_states.Goals as goal

pub place_of-place-requires : goal.place_of-place-requires
place_of-place-requires c = subst (λ (vs : List Variable). c.args.fact.var < length vs) (sym (c.as_slice.ensures ∙ ap (λ (t : TaskParts). t.variables) c.parts.ensures.value)) (within_variables c.args.task.now c.args.fact.var c.requires.fact)

pub has_value-requires : goal.has_value-requires
has_value-requires c =
    let m = c.in-Some.member.now in
    let at : c.place_of-place.result ≡ place c.args.task.now c.args.fact.var = c.place_of-place.ensures ∙ ap (λ (vs : List Variable). count_by is_base (take c.args.fact.var vs)) (c.as_slice.ensures ∙ ap (λ (t : TaskParts). t.variables) c.parts.ensures.value) in
    let state = c.requires.states m (next_member c.args.members.now c.new-set.result c.loop-member.set (λ (t : State). IsIf (Holds c.args.task.now t c.args.fact) t) c.loop-member.member-iterator c.next.new.self m c.loop-member.invariant.so_far c.in-Some.ensures.steps) in
    subst (λ (k : ℕ). k < length m) (sym at) (place_below c.args.task.now m c.args.fact.var c.requires.fact state)

pub loop-member-preserved : goal.loop-member-preserved
loop-member-preserved c =
    let m = c.in-Some.member.now in
    let at : c.place_of-place.result ≡ place c.args.task.now c.args.fact.var = c.place_of-place.ensures ∙ ap (λ (vs : List Variable). count_by is_base (take c.args.fact.var vs)) (c.as_slice.ensures ∙ ap (λ (t : TaskParts). t.variables) c.parts.ensures.value) in
    record {
      can_next = tt;
      is_finite = tt;
      so_far = so_far_more c.args.members.now c.new-set.result c.loop-member.set c.insert_if.new.set (λ (t : State). IsIf (Holds c.args.task.now t c.args.fact) t) c.loop-member.member-iterator c.next.new.self m c.loop-member.invariant.so_far c.in-Some.ensures.steps
          (grows_if c.loop-member.set c.insert_if.new.set _ _ m (fact_says c.args.task.now m c.args.fact c.place_of-place.result c.has_value.result c.requires.fact at c.has_value.ensures) c.in_ok-insert_if.ensures);
    }

pub returns : goal.returns
returns c =
    let P : State → Type 0 = λ t. Holds c.args.task.now t c.args.fact in
    has_as c.loop-member.set (FromMember c.args.members.now
    (λ (t : State). IsIf (Holds c.args.task.now t c.args.fact) t))
    (λ s. IsTrue (has_explicit_state c.args.members.now s) × P s) (kept_from c.args.members.now P)
    (has_those c.new-set.result c.loop-member.set (FromMember c.args.members.now (λ (t : State). IsIf (Holds c.args.task.now t c.args.fact) t)) c.new-set.ensures.empty (so_far_all c.args.members.now c.new-set.result c.loop-member.set (λ (t : State). IsIf (Holds c.args.task.now t c.args.fact) t) c.loop-member.member-iterator c.loop-member.invariant.so_far c.in-None.ensures.steps.0))

use Rattle.std.proofs.Common.{Some, None, subst}
use Rattle.space_api.specs.View.{Has}
use Rattle.cost_search.specs.Meeting.{IsFirstIn}
use Rattle.loopless.proofs.Layers.{first_least, exactly, at_least_known, nowhere}
use Rattle.loopless.proofs.left.rest_in_layers.Goals as goal

pub returns-in-Some : goal.returns-in-Some
returns-in-Some g c =
    let v = g.S.Space.view c.args.space.now in
    let b = c.args.backward.now in
    let s = c.args.state.now in
    let first = subst (λ (l : _). IsFirstIn v l s c.args.low (Some c.in-Some.cost)) c.layers.ensures.value (rw c.in-Some.is at c.first_with_state.ensures) in
    let least = first_least v b c.requires.backward c.requires.wide s c.args.low (Some c.in-Some.cost) c.requires.low first in
    exactly v b c.requires.backward c.requires.wide s c.in-Some.cost c.requires.reached least

pub returns-in-Some-found : goal.returns-in-Some-found
returns-in-Some-found g c =
    let v = g.S.Space.view c.args.space.now in
    let b = c.args.backward.now in
    let s = c.args.state.now in
    let first = subst (λ (l : _). IsFirstIn v l s c.args.low None) c.layers.ensures.value (rw c.in-None.is at c.first_with_state.ensures) in
    let none = first_least v b c.requires.backward c.requires.wide s c.args.low None c.requires.low first in
    nowhere v b c.requires.backward c.requires.wide s c.requires.reached none
    (λ x h. subst (λ (a : _). Has v a x) c.in-Some-found.ensures.union (c.in-Some-found.ensures.all v c.requires.backward x h))

pub returns-in-None-found : goal.returns-in-None-found
returns-in-None-found g c =
    let v = g.S.Space.view c.args.space.now in
    let b = c.args.backward.now in
    let s = c.args.state.now in
    let first = subst (λ (l : _). IsFirstIn v l s c.args.low None) c.layers.ensures.value (rw c.in-None.is at c.first_with_state.ensures) in
    let none = first_least v b c.requires.backward c.requires.wide s c.args.low None c.requires.low first in
    at_least_known v b c.requires.backward c.requires.wide s c.requires.reached none

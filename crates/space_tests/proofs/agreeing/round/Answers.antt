use Rattle.std.proofs.Common.{subst, List}
use Rattle.std.specs.List.{Contains}
use Rattle.space_tests.proofs.Moving.{moves_stay, moves_trans}
use Rattle.space_tests.proofs.Rounding.{call_moves, call_yes, round_of, still}
use Rattle.space_tests.proofs.agreeing.round.Goals as goal

pub returns-in_err-yes-clause-moves : goal.returns-in_err-yes-clause-moves
returns-in_err-yes-clause-moves g c = still c.requires.kept c.in_err-yes.ensures.err c.in_err-yes.ensures.err_left c.in_err-yes.ensures.err_right

pub thin-requires-clause-kept : goal.thin-requires-clause-kept
thin-requires-clause-kept g c =
    let k = subst (λ (ps : List _). Contains ps c.drawn_pair-first.result) c.deref.ensures.value c.drawn_pair-first.ensures in
    let l = subst (λ (ps : List _). Contains ps c.drawn_pair-second.result) c.deref-2.ensures.value c.drawn_pair-second.ensures in
    (call_moves c.requires.kept c.drawn_call-call.result c.drawn_pair-first.result c.drawn_pair-second.result k l c.in_ok-yes.ensures.ok).kept

pub returns-in_err-few-clause-moves : goal.returns-in_err-few-clause-moves
returns-in_err-few-clause-moves g c =
    let k = subst (λ (ps : List _). Contains ps c.drawn_pair-first.result) c.deref.ensures.value c.drawn_pair-first.ensures in
    let l = subst (λ (ps : List _). Contains ps c.drawn_pair-second.result) c.deref-2.ensures.value c.drawn_pair-second.ensures in
    moves_trans (call_moves c.requires.kept c.drawn_call-call.result c.drawn_pair-first.result c.drawn_pair-second.result k l c.in_ok-yes.ensures.ok) (moves_trans c.thin.ensures.moves (moves_stay c.thin.new.pairs.items c.thin.ensures.moves.kept c.sometimes_tidied.ensures.left c.sometimes_tidied.ensures.right))

pub returns-then-yes-clause-moves : goal.returns-then-yes-clause-moves
returns-then-yes-clause-moves g c =
    let k = subst (λ (ps : List _). Contains ps c.drawn_pair-first.result) c.deref.ensures.value c.drawn_pair-first.ensures in
    let l = subst (λ (ps : List _). Contains ps c.drawn_pair-second.result) c.deref-2.ensures.value c.drawn_pair-second.ensures in
    moves_trans (call_moves c.requires.kept c.drawn_call-call.result c.drawn_pair-first.result c.drawn_pair-second.result k l c.in_ok-yes.ensures.ok) (moves_trans c.thin.ensures.moves (moves_stay c.thin.new.pairs.items c.thin.ensures.moves.kept c.sometimes_tidied.ensures.left c.sometimes_tidied.ensures.right))

pub returns-else-yes-clause-moves : goal.returns-else-yes-clause-moves
returns-else-yes-clause-moves g c =
    let k = subst (λ (ps : List _). Contains ps c.drawn_pair-first.result) c.deref.ensures.value c.drawn_pair-first.ensures in
    let l = subst (λ (ps : List _). Contains ps c.drawn_pair-second.result) c.deref-2.ensures.value c.drawn_pair-second.ensures in
    moves_trans (call_moves c.requires.kept c.drawn_call-call.result c.drawn_pair-first.result c.drawn_pair-second.result k l c.in_ok-yes.ensures.ok) (moves_trans c.thin.ensures.moves (moves_stay c.thin.new.pairs.items c.thin.ensures.moves.kept c.sometimes_tidied.ensures.left c.sometimes_tidied.ensures.right))

pub returns-else-yes-clause-alike : goal.returns-else-yes-clause-alike
returns-else-yes-clause-alike g c =
    let k = subst (λ (ps : List _). Contains ps c.drawn_pair-first.result) c.deref.ensures.value c.drawn_pair-first.ensures in
    let l = subst (λ (ps : List _). Contains ps c.drawn_pair-second.result) c.deref-2.ensures.value c.drawn_pair-second.ensures in
    call_yes c.requires.kept c.drawn_call-call.result c.drawn_pair-first.result c.drawn_pair-second.result k l c.in_ok-yes.ensures.ok

pub returns-then-yes-clause-round : goal.returns-then-yes-clause-round
returns-then-yes-clause-round g c =
    let k = subst (λ (ps : List _). Contains ps c.drawn_pair-first.result) c.deref.ensures.value c.drawn_pair-first.ensures in
    let l = subst (λ (ps : List _). Contains ps c.drawn_pair-second.result) c.deref-2.ensures.value c.drawn_pair-second.ensures in
    λ t. round_of c.drawn_call-call.result c.drawn_pair-first.result c.drawn_pair-second.result k l c.in_ok-yes.ensures.ok c.if-yes.true (moves_trans c.thin.ensures.moves (moves_stay c.thin.new.pairs.items c.thin.ensures.moves.kept c.sometimes_tidied.ensures.left c.sometimes_tidied.ensures.right))

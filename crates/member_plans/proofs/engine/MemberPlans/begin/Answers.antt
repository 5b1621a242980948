use Rattle.std.proofs.Common.{◌∙◌, sym, subst}
use Rattle.space_api.proofs.Trading.{kept_made}
use Rattle.member_plans.specs.Moves.{Serves}
use Rattle.prefix_plans.proofs.Moving.{alone_fresh}
use Rattle.member_plans.proofs.Asking.{begun_sound, begun_all}
use Rattle.member_plans.proofs.engine.MemberPlans.begin.Goals as goal

pub first_front-requires : goal.first_front-requires
first_front-requires g c = record {
  alone = alone_fresh (g.S.Space.view c.args.space) (g.S.Space.view c.new.new.space)
      c.in_ok-search.search c.args.within c.requires.alone c.in_ok-search.ensures.within c.in_ok-search.ensures.stands
      c.in_ok-search.ensures.trades;
}

pub returns-clause-lawful : goal.returns-clause-lawful
returns-clause-lawful g c =
    let v = g.S.Space.view c.new.new.space in
    let x = c.in_ok-front.front in
    let e = c.in_ok-front.ensures in
    let same = (kept_made c.in_ok-search.ensures.trades).system in
    begun_sound v c.in_ok-search.search c.args.within x e.ready (subst (Serves x.moves) (sym (same ∙ c.requires.task)) e.serves)
    e.none e.keys e.first c.args.most c.new-2.result c.new-2.ensures (sym c.in_ok-search.ensures.within)

pub returns-clause-all : goal.returns-clause-all
returns-clause-all g c =
    let v = g.S.Space.view c.new.new.space in
    let x = c.in_ok-front.front in
    let e = c.in_ok-front.ensures in
    let same = (kept_made c.in_ok-search.ensures.trades).system in
    begun_all v c.in_ok-search.search c.args.within x e.ready
    (subst (Serves x.moves) (sym (same ∙ c.requires.task)) e.serves) e.none e.keys e.first
    (g.S.Space.view c.args.space).system same

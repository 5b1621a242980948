use Rattle.std.proofs.Common.{Some, None}
use Rattle.symk_words.specs.Texts.{view_of}
use Rattle.symk_cli.specs.Requests.{wish_asked}
use Rattle.symk_cli.proofs.Asked.{asks, asks_none}
use Rattle.symk_cli.proofs.top.request_in.Goals as goal

pub returns-in-Some-clause-ok : goal.returns-in-Some-clause-ok
returns-in-Some-clause-ok c = asks _ (view_of c.in-Ok.asked) (Some (wish_asked c.in-Some.request)) c.in-Ok.ensures.ok c.in-Some.ensures.wish

pub returns-in-None-clause-usage : goal.returns-in-None-clause-usage
returns-in-None-clause-usage c = λ e. asks _ (view_of c.in-Ok.asked) None c.in-Ok.ensures.ok c.in-None.ensures.wish

pub returns-in-Err-clause-usage : goal.returns-in-Err-clause-usage
returns-in-Err-clause-usage c = λ e. asks_none _ (c.in-Err.ensures.usage (cc))

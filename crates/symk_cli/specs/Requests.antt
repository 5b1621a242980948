-- What a request is for.
use Rattle.std.specs.Prelude.{◌≤◌, ⊤}
use Rattle.plan_run.specs.Reaches.{IsNear}
use Rattle.symk_cli.specs.Wishes.{Ask, Further, Wish, lists, continues, checks, shows, proves, refutes}
use Rattle.symk_cli.specs.declared.request.Request.{Request}
use Rattle.symk_cli.specs.declared.request.Request.TheVariants as request
use Rattle.symk_cli.specs.declared.request.ListRequest.{ListRequest}
use Rattle.symk_cli.specs.declared.request.FurtherRequest.{FurtherRequest}

-- what a list is asked to be, and one that goes on
abbrev pub list_asked : ListRequest → Ask
list_asked r = record { file = r.file.now; wanted = r.wanted; mode = r.mode; search = r.search; reach = r.reach }

abbrev pub further_asked : FurtherRequest → Further
further_asked r = record { file = r.file.now; plans = r.plans.now; wanted = r.wanted; mode = r.mode; search = r.search }

-- what it asks for
abbrev pub wish_asked : Request → Wish
wish_asked (request.Plan list) = lists (list_asked list)
wish_asked (request.Further list) = continues (further_asked list)
wish_asked (request.Check file plans mode) = checks file.now plans.now mode
wish_asked (request.Demo switches) = shows switches
wish_asked (request.Prove file) = proves file.now
wish_asked (request.Refute file cert) = refutes file.now cert.now

-- 1 to 1,000,000,000 plans are asked for, or 1 to 64 switches
abbrev pub IsWithinLimits : Request → Type 0
IsWithinLimits (request.Plan list) = (1 ≤ list.wanted.count) × (list.wanted.count ≤ 1000000000) × IsNear list.reach
IsWithinLimits (request.Further list) = (1 ≤ list.wanted.count) × (list.wanted.count ≤ 1000000000)
IsWithinLimits (request.Check file plans mode) = ⊤
IsWithinLimits (request.Demo switches) = (1 ≤ switches) × (switches ≤ 64)
IsWithinLimits (request.Prove file) = ⊤
IsWithinLimits (request.Refute file cert) = ⊤

-- Lists that are to be made.
use Rattle.std.specs.Prelude.{◌≤◌, ◌<◌, ◌^◌, IfSome}
use Rattle.plan_run.specs.Earlier.{IsEarlier}
use Rattle.plan_run.specs.Lists.{Aim, aim_after}
use Rattle.plan_run.specs.declared.job.Job.{Job}

-- what is listed
abbrev pub aim_of : Job → Aim
aim_of job = aim_after job.task.now job.mode job.wanted job.limit job.earlier.now.plans

-- It can be made: 1 to 1,000,000,000 plans are wanted, 64 bits hold the greatest cost, and the earlier list is one of the task in
-- the mode up to that cost.
pub record IsLawfulJob (job : Job) : Type 0 where
  pub least : 1 ≤ job.wanted.count
  pub count : job.wanted.count ≤ 1000000000
  pub limit : IfSome job.limit (λ most. most < 2 ^ 64)
  pub earlier : IsEarlier job.task.now job.mode job.limit job.earlier.now

-- The exit status of the program.
use Rattle.std.specs.Prelude.{ℤ, pos}
use Rattle.run_status.specs.declared.status.Status.{Status}
use Rattle.run_status.specs.declared.status.Status.TheVariants.{Reached, MoreLeft, Good, Shown, Proved, Refuted, Exhausted, BadList, Bounded, Gap, HasPlan, NotShown, Offending, Usage, TooLong, Unreadable, WriteFault, CostRange, Memory}

abbrev pub status_code_of : Status → ℤ
status_code_of Reached = pos 0
status_code_of MoreLeft = pos 0
status_code_of Good = pos 0
status_code_of Shown = pos 0
status_code_of Proved = pos 0
status_code_of Refuted = pos 0
status_code_of Exhausted = pos 10
status_code_of BadList = pos 11
status_code_of Bounded = pos 13
status_code_of Gap = pos 14
status_code_of HasPlan = pos 15
status_code_of NotShown = pos 16
status_code_of Offending = pos 20
status_code_of Usage = pos 21
status_code_of TooLong = pos 22
status_code_of Unreadable = pos 23
status_code_of WriteFault = pos 24
status_code_of CostRange = pos 31
status_code_of Memory = pos 40

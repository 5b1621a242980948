-- When a text is refused.
use Rattle.std.specs.Prelude.{ℕ, ◌-◌, List, take}
use Rattle.sas_reader.specs.declared.fault.ReadFault.{ReadFault}
use Rattle.sas_reader.specs.declared.fault.ReadFault.TheVariants.{Offence, Memory}
use Rattle.line_grammar.specs.Rows.{Offends}
use Rattle.sas_reader.specs.Format.{IsFileOf, Wants}

-- the fault names the first line at which no task file can go on so, and what has to stand there
abbrev pub RefusedAt : List (List ℕ) → ReadFault → Type 0
RefusedAt lines (Offence line wanted) = Offends IsFileOf lines line × Wants (take (line - 1) lines) wanted
RefusedAt lines Memory = Unit {0}

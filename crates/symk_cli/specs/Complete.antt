-- What comes where nothing stands against it.
use Rattle.std.specs.Prelude.{◌≡◌, ℕ, ◌⊎◌, ◌<◌, ◌-◌, ◌^◌, ⊤, List, Option, Some, None}
use Rattle.symk_io.specs.View.{Bytes, Told, FilesView, SinkView}
use Rattle.symk_task.specs.declared.parts.TaskParts.{TaskParts}
use Rattle.plan_out.specs.declared.blocks.ReadBlock.{ReadBlock}
use Rattle.symk_cli.specs.Wishes.{Wish, lists, continues, checks, shows, proves, refutes}
use Rattle.symk_cli.specs.Refusals.{IsTaskText}
use Rattle.symk_cli.specs.Plans.{IsPlansText}
use Rattle.symk_cli.specs.Certs.{IsCertText}
use Rattle.run_status.specs.declared.status.Status.{Status}
use Rattle.run_status.specs.declared.status.Status.TheVariants.{Reached, MoreLeft, Bounded, Exhausted, CostRange, Gap, Good, BadList, Shown, Proved, HasPlan, Refuted, NotShown, Memory}

-- the text of the name is told, and is this one
abbrev pub TellsText : Option Told → Bytes → Bytes → Type 0
TellsText None name text = ⊥
TellsText (Some told) name text = told.text name ≡ Some text

-- the texts of the files that are asked for are told: that of FILE is a task file, that of PLANS a plan text, that of CERT one of a
-- certificate for the task, and none is too long
abbrev pub TellsTexts : Option Told → Wish → Type 0
TellsTexts told (lists ask) = (F : Bytes) × (task : TaskParts) × TellsText told ask.file F × IsTaskText F task
TellsTexts told (continues ask) = ((F : Bytes) × (task : TaskParts) × TellsText told ask.file F × IsTaskText F task) × ((P : Bytes) × (blocks : List ReadBlock) × TellsText told ask.plans P × IsPlansText P blocks)
TellsTexts told (checks file plans mode) = ((F : Bytes) × (task : TaskParts) × TellsText told file F × IsTaskText F task) × ((P : Bytes) × (blocks : List ReadBlock) × TellsText told plans P × IsPlansText P blocks)
TellsTexts told (shows number) = ⊤
TellsTexts told (proves file) = (F : Bytes) × (task : TaskParts) × TellsText told file F × IsTaskText F task
TellsTexts told (refutes file cert) = (F : Bytes) × (task : TaskParts) × TellsText told file F × IsTaskText F task × ((C : Bytes) × TellsText told cert C × IsCertText task C)

-- the statuses of an answer that was not stopped
abbrev pub Finishes : Wish → Status → Type 0
Finishes (lists ask) result = (result ≡ Reached) ⊎ (result ≡ MoreLeft) ⊎ (result ≡ Bounded) ⊎ (result ≡ Exhausted) ⊎ (result ≡ CostRange)
Finishes (continues ask) result = (result ≡ Reached) ⊎ (result ≡ MoreLeft) ⊎ (result ≡ Exhausted) ⊎ (result ≡ CostRange) ⊎ (result ≡ Gap) ⊎ (result ≡ BadList)
Finishes (checks file plans mode) result = (result ≡ Good) ⊎ (result ≡ BadList)
Finishes (shows number) result = result ≡ Shown
Finishes (proves file) result = (result ≡ Proved) ⊎ (result ≡ HasPlan)
Finishes (refutes file cert) result = (result ≡ Refuted) ⊎ (result ≡ NotShown)

-- a count of faults stayed, and didn't stand at the last u64
abbrev pub IsQuiet : ℕ → ℕ → Type 0
IsQuiet old new = (new ≡ old) × (old < 2 ^ 64 - 1)

-- What is asked for over texts that are told and lawful, where no count of faults rose, comes, unless out of memory.
abbrev pub Complete : Option Wish → FilesView → FilesView → SinkView → SinkView → Status → Type 0
Complete asked files files' sink sink' result =
    (wish : Wish) → asked ≡ Some wish → TellsTexts files.told wish → IsQuiet files.faults files'.faults → IsQuiet sink.faults sink'.faults
    → Finishes wish result ⊎ (result ≡ Memory)

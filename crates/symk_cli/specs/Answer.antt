-- The answer of the program.
use Rattle.std.specs.Prelude.{◌≡◌, ◌⊎◌, ◌++◌, ⊤, List, codes, Option, Some, None, IfSome, IsSomeAnd}
use Rattle.symk_io.specs.View.{Bytes, SinkView, Told}
use Rattle.symk_task.specs.declared.parts.Mode.{Mode}
use Rattle.symk_task.specs.declared.parts.TaskParts.{TaskParts}
use Rattle.plan_out.specs.declared.blocks.ReadBlock.{ReadBlock}
use Rattle.symk_cli.specs.Wishes.{Wish, lists, continues, checks, shows, proves, refutes}
use Rattle.symk_cli.specs.Named.{IsToldText}
use Rattle.symk_cli.specs.Refusals.{IsTaskText, IsTask, FileRefused}
use Rattle.symk_cli.specs.Plans.{IsPlansText, PlansRefused, Judged}
use Rattle.symk_cli.specs.Certs.{BothAre, CertRefused}
use Rattle.symk_cli.specs.Goes.{AreGood, aim_from}
use Rattle.run_status.specs.Sent.{Sent, nothing, Took, AreWholePieces, IsOne, IsFrontOfPieces}
use Rattle.plan_run.specs.Lists.{MayCome, PartListing}
use Rattle.plan_run.specs.Reaches.{MayList, MayPart}
use Rattle.cert_run.specs.Proofs.{Proves, Refutes}
use Rattle.symk_cli.specs.Shown.{IsSummary}
use Rattle.run_status.specs.declared.status.Status.{Status}
use Rattle.run_status.specs.declared.status.Status.TheVariants as status

-- what the program may be asked for
unfoldable pub usage_text : Bytes
usage_text =
    codes "usage: symk plan FILE --k K [--mode topk|loopless|unordered] [--search auto|forward|backward|bidirectional] [--more] [--bound Q | --quality P] [--after PLANS] [--mutex]\n"
    ++ codes "       symk check FILE PLANS [--mode topk|loopless|unordered]\n"
    ++ codes "       symk demo N\n"
    ++ codes "       symk prove FILE\n"
    ++ codes "       symk refute FILE CERT\n"

-- a file that is asked for is refused: FILE, or PLANS or CERT after a FILE that is a task file
abbrev pub Refused : Type 0 → Option Wish → Option Bytes → Option Bytes → Status → Bytes → Type 0
Refused rose (Some (lists ask)) F P result out = FileRefused rose F result out
Refused rose (Some (continues ask)) F P result out = FileRefused rose F result out ⊎ (IsTask F × PlansRefused rose P result out)
Refused rose (Some (checks file plans mode)) F P result out = FileRefused rose F result out ⊎ (IsTask F × PlansRefused rose P result out)
Refused rose (Some (shows number)) F P result out = ⊥
Refused rose (Some (proves file)) F P result out = FileRefused rose F result out
Refused rose (Some (refutes file cert)) F C result out = FileRefused rose F result out ⊎ CertRefused rose F C result out
Refused rose None F P result out = ⊥

-- FILE states a task, and PLANS states blocks, each of which is good
abbrev pub GoesOnWithPlans : Option Bytes → Option Bytes → Mode → (TaskParts → List ReadBlock → Type 0) → Type 0
GoesOnWithPlans F P mode IsSo =
    IsSomeAnd F (λ text. (task : TaskParts) × IsTaskText text task × IsSomeAnd P (λ plans. (blocks : List ReadBlock) × IsPlansText plans blocks × AreGood task mode blocks × IsSo task blocks))

-- plans of the task that FILE states are listed, if need be after those that PLANS states, or what those miss is told
abbrev pub ListsPlans : Option Wish → Option Bytes → Option Bytes → Status → List Bytes → Type 0
ListsPlans (Some (lists ask)) F P result pieces = IsSomeAnd F
    (λ text. (task : TaskParts) × IsTaskText text task × MayList task ask.mode ask.wanted ask.reach result pieces)
ListsPlans (Some (continues ask)) F P result pieces = GoesOnWithPlans F P ask.mode
    (λ task blocks. MayCome (aim_from task ask.mode ask.wanted blocks) result pieces)
ListsPlans wish F P result pieces = ⊥

-- a front of a list goes out
abbrev pub PartLists : Option Wish → Option Bytes → Option Bytes → Sent → Type 0
PartLists (Some (lists ask)) F P out = IsSomeAnd F (λ text. (task : TaskParts) × IsTaskText text task × MayPart task ask.mode ask.wanted ask.reach out)
PartLists (Some (continues ask)) F P out = GoesOnWithPlans F P ask.mode (λ task blocks. PartListing (aim_from task ask.mode ask.wanted blocks) out)
PartLists wish F P out = ⊥

-- the blocks that PLANS states are judged by the task that FILE states; where a list is to go on from them, that one fails
abbrev pub JudgesBlocks : Option Wish → Option Bytes → Option Bytes → Status → Bytes → Type 0
JudgesBlocks (Some (checks file plans mode)) F P result out = IsSomeAnd F (λ text. (task : TaskParts) × IsTaskText text task × Judged task mode P result out)
JudgesBlocks (Some (continues ask)) F P status.BadList out = IsSomeAnd F
    (λ text. (task : TaskParts) × IsTaskText text task × Judged task ask.mode P status.BadList out)
JudgesBlocks wish F P result out = ⊥

-- a demonstration is summed up
abbrev pub Shows : Option Wish → Status → Bytes → Type 0
Shows (Some (shows number)) result out = IsSummary number result out
Shows wish result out = ⊥

-- a certificate that the task that FILE states has no plan, or that it has one; what the certificate in CERT shows of it
abbrev pub Certifies : Option Wish → Option Bytes → Option Bytes → Status → Bytes → Type 0
Certifies (Some (proves file)) F P result out = IsSomeAnd F (λ text. (task : TaskParts) × IsTaskText text task × Proves task result out)
Certifies (Some (refutes file cert)) F C result out = BothAre F C (λ task bytes. Refutes task bytes result out)
Certifies wish F P result out = ⊥

-- the whole pieces that a status comes with: the blocks of a list and its end line, or one text
abbrev pub Whole : Type 0 → Option Wish → Option Bytes → Option Bytes → Status → List Bytes → Type 0
Whole rose wish F P status.Usage pieces = IsOne (λ out. (wish ≡ None) × (out ≡ usage_text)) pieces
Whole rose wish F P status.Unreadable pieces = IsOne (Refused rose wish F P status.Unreadable) pieces
Whole rose wish F P status.TooLong pieces = IsOne (Refused rose wish F P status.TooLong) pieces
Whole rose wish F P status.Offending pieces = IsOne (Refused rose wish F P status.Offending) pieces
Whole rose wish F P status.Reached pieces = ListsPlans wish F P status.Reached pieces
Whole rose wish F P status.MoreLeft pieces = ListsPlans wish F P status.MoreLeft pieces
Whole rose wish F P status.Bounded pieces = ListsPlans wish F P status.Bounded pieces
Whole rose wish F P status.Exhausted pieces = ListsPlans wish F P status.Exhausted pieces
Whole rose wish F P status.CostRange pieces = ListsPlans wish F P status.CostRange pieces
Whole rose wish F P status.Gap pieces = ListsPlans wish F P status.Gap pieces
Whole rose wish F P status.Good pieces = IsOne (JudgesBlocks wish F P status.Good) pieces
Whole rose wish F P status.BadList pieces = IsOne (JudgesBlocks wish F P status.BadList) pieces
Whole rose wish F P status.Shown pieces = IsOne (Shows wish status.Shown) pieces
Whole rose wish F P status.Proved pieces = IsOne (Certifies wish F P status.Proved) pieces
Whole rose wish F P status.HasPlan pieces = IsOne (Certifies wish F P status.HasPlan) pieces
Whole rose wish F P status.Refuted pieces = IsOne (Certifies wish F P status.Refuted) pieces
Whole rose wish F P status.NotShown pieces = IsOne (Certifies wish F P status.NotShown) pieces
Whole rose wish F P status.WriteFault pieces = ⊥
Whole rose wish F P status.Memory pieces = ⊥

-- nothing, a front of whole pieces, or a front of a list that goes on
abbrev pub Part : Type 0 → Option Wish → Option Bytes → Option Bytes → Sent → Type 0
Part rose wish F P out = (out ≡ nothing) ⊎ ((result : Status) × (whole : List Bytes)
    × Whole rose wish F P result whole × IsFrontOfPieces out whole) ⊎ PartLists wish F P out

-- What the sink took under a status, given what is asked for and the texts that were read of FILE and of PLANS or CERT: whole
-- pieces, or a part of them where the sink failed or memory ran out.
abbrev pub Answer : Type 0 → Option Wish → Option Bytes → Option Bytes → Status → Sent → Type 0
Answer rose wish F P status.WriteFault out = Part rose wish F P out
Answer rose wish F P status.Memory out = Part rose wish F P out
Answer rose wish F P result out = AreWholePieces (Whole rose wish F P result) out

-- what was read of the files that are asked for are their texts, those told where texts are told
abbrev pub AreTexts : Option Told → Option Wish → Option Bytes → Option Bytes → Type 0
AreTexts told None F P = ⊤
AreTexts told (Some (lists ask)) F P = IfSome F (IsToldText told ask.file)
AreTexts told (Some (continues ask)) F P = IfSome F (IsToldText told ask.file) × IfSome P (IsToldText told ask.plans)
AreTexts told (Some (checks file plans mode)) F P = IfSome F (IsToldText told file) × IfSome P (IsToldText told plans)
AreTexts told (Some (shows number)) F P = ⊤
AreTexts told (Some (proves file)) F P = IfSome F (IsToldText told file)
AreTexts told (Some (refutes file cert)) F C = IfSome F (IsToldText told file) × IfSome C (IsToldText told cert)

-- There are texts that were read of FILE and of PLANS or CERT, which are those told, and pieces and bytes, which are those taken,
-- with one flush for each piece, and they answer what is asked for.
pub record Answered (rose : Type 0) (wish : Option Wish) (told : Option Told) (old new : SinkView) (result : Status) : Type 0 where
  pub F : Option Bytes
  pub P : Option Bytes
  pub texts : AreTexts told wish F P
  pub out : Sent
  pub taken : Took out old new
  pub answer : Answer rose wish F P result out

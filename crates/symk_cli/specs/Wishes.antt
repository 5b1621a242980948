-- What the words ask for.
use Rattle.std.specs.Prelude.{ℕ, ◌&&◌, Bool, true, false, nat_le, if◌then◌else◌, List, [], ◌∷◌, length, Option, Some, None, codes, option_and_then, option_map}
use Rattle.std.specs.List.{list_all}
use Rattle.std.specs.Char.{is_ascii_digit}
use Rattle.std.specs.Str.{bytes_eq}
use Rattle.symk_text.specs.Numbers.{value_of}
use Rattle.symk_io.specs.View.{Bytes}
use Rattle.symk_task.specs.declared.parts.Mode.{Mode}
use Rattle.symk_task.specs.declared.parts.Mode.TheVariants.{TopK, Loopless, Unordered}
use Rattle.symk_words.specs.Texts.{Texts, PlanTexts, texts_asked, plan, check, demo, prove, refute}
use Rattle.plan_run.specs.declared.options.Wanted.{Wanted}
use Rattle.plan_run.specs.declared.options.Reach.{Reach}
use Rattle.plan_run.specs.declared.options.Reach.TheVariants.{All, UpTo, Percent}
use Rattle.plan_run.specs.declared.options.Search.{Search}
use Rattle.plan_run.specs.declared.options.Direction.{Direction}
use Rattle.plan_run.specs.declared.options.Direction.TheVariants.{Auto, Forward, Backward, Bidirectional}
use Rattle.symk_cli.specs.declared.reading.Named.{Named}
use Rattle.symk_cli.specs.declared.reading.Named.TheVariants.{File, Plans, Cert}

-- what a list is asked to be: so many plans of FILE in a mode, searched for so, up to a cost
pub record Ask : Type 0 where
  pub file : Bytes
  pub wanted : Wanted
  pub mode : Mode
  pub search : Search
  pub reach : Reach

-- what a list that goes on is asked to be: so many plans of FILE in a mode, searched for so, after those in PLANS
pub record Further : Type 0 where
  pub file : Bytes
  pub plans : Bytes
  pub wanted : Wanted
  pub mode : Mode
  pub search : Search

-- a list of plans; one that goes on from that in PLANS; a verdict on the plans in PLANS; so many switches shown; a certificate that
-- FILE has no plan; a verdict on the one in CERT
pub data Wish : Type 0 where
  lists : Ask → Wish
  continues : Further → Wish
  checks : Bytes → Bytes → Mode → Wish
  shows : ℕ → Wish
  proves : Bytes → Wish
  refutes : Bytes → Bytes → Wish

-- the number that a whole word spells: 1 to 20 digits, and a value within the bounds
unfoldable pub number_within : ℕ → ℕ → Bytes → Option ℕ
number_within least most word =
    if list_all is_ascii_digit word && nat_le 1 (length word) && nat_le (length word) 20 && nat_le least (value_of word) && nat_le (value_of word) most
    then Some (value_of word) else None

-- the mode that a word names
unfoldable pub mode_named : Bytes → Option Mode
mode_named word = if bytes_eq word (codes "topk") then Some TopK
    else (if bytes_eq word (codes "loopless") then Some Loopless
    else (if bytes_eq word (codes "unordered") then Some Unordered else None))

-- all plans, where no word is given
abbrev pub mode_of : Option Bytes → Option Mode
mode_of None = Some TopK
mode_of (Some word) = mode_named word

-- the direction that a word names
unfoldable pub direction_named : Bytes → Option Direction
direction_named word = if bytes_eq word (codes "auto") then Some Auto
    else (if bytes_eq word (codes "forward") then Some Forward
    else (if bytes_eq word (codes "backward") then Some Backward
    else (if bytes_eq word (codes "bidirectional") then Some Bidirectional else None)))

-- the program's own choice, where no word is given
abbrev pub direction_of : Option Bytes → Option Direction
direction_of None = Some Auto
direction_of (Some word) = direction_named word

-- the greatest cost that is wanted, if there is one: by itself, or as 100 to 10,000 percent of the least cost, but not both
abbrev pub reach_of : Option Bytes → Option Bytes → Option Reach
reach_of None None = Some All
reach_of (Some bound) None = option_map (λ most. UpTo most) (number_within 0 18446744073709551615 bound)
reach_of None (Some quality) = option_map (λ percent. Percent percent) (number_within 100 10000 quality)
reach_of (Some bound) (Some quality) = None

-- loopless plans are not found forward, nor from both sides
abbrev pub serves : Mode → Direction → Bool
serves Loopless Forward = false
serves Loopless Bidirectional = false
serves mode direction = true

-- a list that goes on has no greatest cost
abbrev pub continues_if_all : Reach → Further → Option Wish
continues_if_all All ask = Some (continues ask)
continues_if_all (UpTo most) ask = None
continues_if_all (Percent percent) ask = None

-- a list, or one that goes on from that in a file that is named
abbrev pub lists_after : Option Bytes → Ask → Option Wish
lists_after None ask = Some (lists ask)
lists_after (Some plans) ask = continues_if_all ask.reach (record { file = ask.file; plans = plans; wanted = ask.wanted; mode = ask.mode; search = ask.search })

abbrev pub lists_if_served : Option Bytes → Ask → Option Wish
lists_if_served after ask = if serves ask.mode ask.search.direction then lists_after after ask else None

-- the list that the texts ask for, once its number, its mode, its direction and its reach are known
abbrev pub ask_of : PlanTexts → ℕ → Mode → Direction → Reach → Ask
ask_of t count mode direction reach =
    record { file = t.file; wanted = record { count = count; more = t.more }; mode = mode; search = record { direction = direction; mutex = t.mutex }; reach = reach }

-- what the texts spell, None where one of them isn't as the usage text says
unfoldable pub spelled : Texts → Option Wish
spelled (plan t) =
    option_and_then (λ count. option_and_then (λ mode. option_and_then (λ direction. option_and_then (λ reach. lists_if_served t.after (ask_of t count mode direction reach))
    (reach_of t.bound t.quality)) (direction_of t.search)) (mode_of t.mode)) (number_within 1 1000000000 t.k)
spelled (check file plans mode) = option_map (λ m. checks file plans m) (mode_of mode)
spelled (demo n) = option_map (λ number. shows number) (number_within 1 64 n)
spelled (prove file) = Some (proves file)
spelled (refute file cert) = Some (refutes file cert)

-- what the words ask for, None where the answer is the usage text
unfoldable pub wish_of : List Bytes → Option Wish
wish_of words = option_and_then spelled (texts_asked words)

-- the files that are asked for, by what they are and their names, in the order in which they are read
abbrev pub files_of : Option Wish → List (Named × Bytes)
files_of None = []
files_of (Some (lists ask)) = (File, ask.file) ∷ []
files_of (Some (continues ask)) = (File, ask.file) ∷ (Plans, ask.plans) ∷ []
files_of (Some (checks file plans mode)) = (File, file) ∷ (Plans, plans) ∷ []
files_of (Some (shows number)) = []
files_of (Some (proves file)) = (File, file) ∷ []
files_of (Some (refutes file cert)) = (File, file) ∷ (Cert, cert) ∷ []

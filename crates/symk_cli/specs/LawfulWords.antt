-- Lawful words.
use Rattle.std.specs.Prelude.{◌≡◌, List, IsSome}
use Rattle.symk_io.specs.View.{Bytes}
use Rattle.symk_words.specs.Texts.{Texts, plan, check, demo, prove, refute}
use Rattle.symk_words.specs.Lawful.{Plain, PlainIfSome, plan_words, check_words, demo_words, prove_words, refute_words}
use Rattle.symk_cli.specs.Wishes.{spelled}

-- the program's name, the subcommand, its texts in their places, and its options in the order of the usage text; no name is
-- empty or begins with `-`
abbrev pub AreWordsOf : Texts → List Bytes → Type 0
AreWordsOf (plan t) words = (prog : Bytes) × (words ≡ plan_words prog t) × Plain t.file × PlainIfSome t.after
AreWordsOf (check file plans mode) words = (prog : Bytes) × (words ≡ check_words prog file plans mode) × Plain file × Plain plans
AreWordsOf (demo n) words = (prog : Bytes) × (words ≡ demo_words prog n)
AreWordsOf (prove file) words = (prog : Bytes) × (words ≡ prove_words prog file) × Plain file
AreWordsOf (refute file cert) words = (prog : Bytes) × (words ≡ refute_words prog file cert) × Plain file × Plain cert

-- Words in such a form, with a number, a mode and a direction as the usage text says.
pub record AreLawful (words : List Bytes) : Type 0 where
  pub texts : Texts
  pub form : AreWordsOf texts words
  pub request : IsSome (spelled texts)

-- What clap's definitions make of the words of a `plan`: each option adds a row to those before it, whichever these are.
use Rattle.std.proofs.Common.{◌≡◌, ◌∙◌, append_assoc, ap, ap₂, refl, sym, ℕ, List, [], ◌∷◌, ◌++◌, Bool, true, false, Option, Some, None, codes, ◌==◌, ◌||◌}
use Rattle.std.specs.Prelude.{fold, find, cond, is_some, ⊤}
use Rattle.std.specs.List.{list_any}
use Rattle.std.specs.Option.{option_or, option_and_then}
use Rattle.std.specs.Str.{bytes_eq}
use Rattle.std.specs.Prelude.{slice_get}
use Rattle.std.proofs.lemmas.List.{append-nil}
use Rattle.std.proofs.lemmas.List.Sums.{fold-append}
use Rattle.std.proofs.lemmas.List.Folds.{list_any-append, find-append}
use Rattle.clap.specs.Walk.{Row, Rule, Text, Walk, Held, walked, walk, walk_from, nothing_held, settled, settled_rows, finished, has_row, first_of, Names, at_row, more_values, with_values, without, with_default, default_rows, reading_by, is_empty}
use Rattle.clap.specs.Walk.{idle, option}
use Rattle.clap.specs.declared.builder.action.ArgAction.TheVariants.{SetTrue}
use Rattle.clap.specs.declared.parser.matches.ValueSource.{ValueSource}
use Rattle.clap.specs.declared.parser.matches.ValueSource.TheVariants.{CommandLine, DefaultValue}
use Rattle.clap.specs.declared.builder.value_parser.Reading.{Reading}
use Rattle.clap.specs.declared.builder.value_parser.Reading.TheVariants.{AsWritten}
use Rattle.clap.specs.Simple.{Shape, App, subcommand_of, built, built_leaf, inherited, marked_built, entered, names_of, filled, filled_from}
use Rattle.clap.specs.Kinds.{Kinds, or_else}
use Rattle.clap.specs.Faults.{fault_of, turn_fault, walk_fault, settle_fault, default_fault, given_default_fault, defaults_fault, check_fault, level_fault, entered_fault}
use Rattle.clap.proofs.OnLiterals.{clap_on_literals}
use Rattle.symk_words.specs.App.{symk_app, top_app, plan_app, positional_rule, wanted, wished, flag}
use Rattle.symk_words.specs.Lawful.{Plain, PlainIfSome, ArePlain, option_words, flag_words, plan_words}
use Rattle.symk_words.specs.Texts.{PlanTexts, plan, plan_with, is_set, texts_asked, texts_of, unless_fault}

-- Walks.

abbrev leaf : Shape
leaf = built_leaf (inherited (marked_built top_app.top) plan_app.top)

abbrev pub at_start : Walk
at_start = walk_from nothing_held

-- the walk goes through the words to a positional_rule, with no fault
record Goes (w : Walk) (words : List Text) (v : Walk) : Type 0 where
  there : fold (walked leaf.rules []) w words ≡ v
  right : walk_fault leaf [] w words ≡ []

stays : (w : Walk) → Goes w [] w
unfolding walk_fault
stays w = record { there = refl; right = refl }

one_word : (w v : Walk) (word : Text) → walked leaf.rules [] w word ≡ v → turn_fault leaf [] w word ≡ [] → Goes w (word ∷ []) v
unfolding walk_fault
one_word w v word there right = record { there = there; right = ap (λ k. or_else k []) right }

neither : (k one other : Kinds) → (one ≡ [] → other ≡ []) → or_else k one ≡ [] → or_else k other ≡ []
neither [] one other f e = f e
neither (x ∷ k) one other f e = absurd (cc)

fault_append : (w : Walk) (xs ys : List Text) → walk_fault leaf [] w xs ≡ [] → walk_fault leaf [] (fold (walked leaf.rules []) w xs) ys ≡ [] → walk_fault leaf [] w (xs ++ ys) ≡ []
unfolding walk_fault
fault_append w [] ys f g = g
fault_append w (x ∷ xs) ys f g = neither (turn_fault leaf [] w x) _ _ (λ e. fault_append (walked leaf.rules [] w x) xs ys e g) f

goes_on : (w v u : Walk) (xs ys : List Text) → Goes w xs v → Goes v ys u → Goes w (xs ++ ys) u
goes_on w v u xs ys g h = record {
  there = fold-append (walked leaf.rules []) w xs ys ∙ ap (λ x. fold (walked leaf.rules []) x ys) g.there ∙ h.there;
  right = fault_append w xs ys g.right (ap (λ x. walk_fault leaf [] x ys) g.there ∙ h.right);
}

-- what is left of the level's fault at the end of the walk
abbrev pub end_fault : Shape → Held → Kinds
end_fault s end = or_else (settle_fault s.rules s.args_override_self end) (or_else (defaults_fault (settled s.rules end).rows s.rules) (check_fault s (finished s.rules end) false))

-- Rows.

abbrev pub row : Text → Text → Row
row id value = record { id = id; values = value ∷ []; count = None; source = Some CommandLine; reading = AsWritten }

-- a new row comes last
other_row : {X : Type 0} (t among : Bool) (one other last : X) → (among ≡ false → other ≡ last) → (t || among) ≡ false → cond t one other ≡ last
other_row true among one other last f e = absurd (cc)
other_row false among one other last f e = f e

appended : (id : Text) (change : Row → List Row) (missing rows : List Row) → has_row id rows ≡ false → at_row id change missing rows ≡ rows ++ missing
appended id change missing [] h = refl
appended id change missing (r ∷ rows) h =
    other_row (bytes_eq r.id id) (has_row id rows) (change r ++ rows) (r ∷ at_row id change missing rows) (r ∷ rows ++ missing) (λ e. ap (λ x. r ∷ x) (appended id change missing rows e)) h

new_row : (id : Text) (how : Reading) (source : ValueSource) (values : List Text) (rows : List Row) → has_row id rows ≡ false
    → with_values id how source values (without id rows) ≡ rows ++ record { id = id; values = values; count = None; source = Some source; reading = how } ∷ []
new_row id how source values rows h =
    let same = appended id (λ _. []) [] rows h ∙ append-nil rows in
    ap (λ x. with_values id how source values x) same ∙ appended id (more_values source values) _ rows h

lacks_both : (id : Text) (xs ys : List Row) → has_row id xs ≡ false → has_row id ys ≡ false → has_row id (xs ++ ys) ≡ false
lacks_both id xs ys h k = list_any-append (λ r. bytes_eq r.id id) xs ys ∙ ap₂ (λ a b. a || b) h k

none_found : (id : Text) (rows : List Row) → has_row id rows ≡ false → find (λ r. bytes_eq r.id id) rows ≡ None
none_found id [] h = refl
none_found id (r ∷ rows) h = other_row (bytes_eq r.id id) (has_row id rows) (Some r) (find (λ x. bytes_eq x.id id) rows) None (none_found id rows) h

-- the first text of an option is among the later rows, or among the earlier ones
first_later : (id : Text) (xs ys : List Row) → has_row id xs ≡ false → first_of id (xs ++ ys) ≡ first_of id ys
first_later id xs ys h =
    ap (λ o. option_and_then (λ r. slice_get r.values 0) o) (find-append (λ r. bytes_eq r.id id) xs ys ∙ ap (λ o. option_or o (find (λ r. bytes_eq r.id id) ys)) (none_found id xs h))

or_none : (o : Option Row) → option_or o None ≡ o
or_none None = refl
or_none (Some r) = refl

first_earlier : (id : Text) (xs ys : List Row) → has_row id ys ≡ false → first_of id (xs ++ ys) ≡ first_of id xs
first_earlier id xs ys h =
    ap (λ o. option_and_then (λ r. slice_get r.values 0) o)
    (find-append (λ r. bytes_eq r.id id) xs ys ∙ ap (λ o. option_or (find (λ r. bytes_eq r.id id) xs) o) (none_found id ys h) ∙ or_none (find (λ r. bytes_eq r.id id) xs))

-- the rows of an option, if it is given
abbrev option_rows : Text → Option Text → List Row
option_rows id None = []
option_rows id (Some value) = row id value ∷ []

lacks_option : (id other : Text) (value : Option Text) → bytes_eq other id ≡ false → has_row id (option_rows other value) ≡ false
lacks_option id other None e = refl
lacks_option id other (Some value) e = ap (λ b. b || false) e

first_option : (id : Text) (value : Option Text) → bytes_eq id id ≡ true → first_of id (option_rows id value) ≡ value
first_option id None e = refl
first_option id (Some value) e = ap (λ b. option_and_then (λ r. slice_get r.values 0) (cond b (Some (row id value)) None)) e

-- the row of an option without a value: `true` where it is given, and else `false`
abbrev flag_row : Text → Text → ValueSource → Row
flag_row id text source = record { id = id; values = text ∷ []; count = None; source = Some source; reading = AsWritten }

abbrev flag_rows : Text → Bool → List Row
flag_rows id false = []
flag_rows id true = flag_row id (codes "true") CommandLine ∷ []

abbrev default_rows_of : Text → Bool → List Row
default_rows_of id true = []
default_rows_of id false = flag_row id (codes "false") DefaultValue ∷ []

lacks_flag : (id other : Text) (given : Bool) → bytes_eq other id ≡ false → has_row id (flag_rows other given) ≡ false
lacks_flag id other false e = refl
lacks_flag id other true e = ap (λ b. b || false) e

lacks_default : (id other : Text) (given : Bool) → bytes_eq other id ≡ false → has_row id (default_rows_of other given) ≡ false
lacks_default id other true e = refl
lacks_default id other false e = ap (λ b. b || false) e

-- Options, one after the other.

abbrev held_at : List Row → Option (Text × List Text) → Held
held_at rows pending = record { rows = rows; pending = pending; skip = 0 }

-- nothing waits for a value
abbrev idle_at : List Row → Option (Text × List Text) → Walk
idle_at rows pending = record { held = held_at rows pending; waiting = idle; position = 2; is_trailing = false; stopped = None }

-- an option waits for its value
abbrev asks : List Row → Text → Walk
asks rows id = record { held = held_at rows (Some (id, [])); waiting = option id; position = 2; is_trailing = false; stopped = None }

-- The words were walked through, and gave these rows, once what is pending is used.
record Gives (words : List Text) (rows : List Row) : Type 0 where
  before : List Row
  pending : Option (Text × List Text)
  goes : Goes at_start words (idle_at before pending)
  uses : settled_rows leaf.rules pending before ≡ rows
  right : settle_fault leaf.rules false (held_at before pending) ≡ []

-- The option of this name, written so, takes the next word, and is used with it.
record IsOption (id word : Text) : Type 0 where
  waits : (rows : List Row) (pending : Option (Text × List Text)) → walked leaf.rules [] (idle_at rows pending) word ≡ asks (settled_rows leaf.rules pending rows) id
  right : (rows : List Row) (pending : Option (Text × List Text)) → settle_fault leaf.rules false (held_at rows pending) ≡ [] → turn_fault leaf [] (idle_at rows pending) word ≡ []
  goes : (rows : List Row) (c : ℕ) (cs : Text) → (c == 45) ≡ false → walked leaf.rules [] (asks rows id) (c ∷ cs) ≡ idle_at rows (Some (id, (c ∷ cs) ∷ []))
  value_right : (rows : List Row) (c : ℕ) (cs : Text) → (c == 45) ≡ false → turn_fault leaf [] (asks rows id) (c ∷ cs) ≡ []
  uses : (rows : List Row) (value : Text) → settled_rows leaf.rules (Some (id, value ∷ [])) rows ≡ with_values id AsWritten CommandLine (value ∷ []) (without id rows)
  use_right : (rows : List Row) (value : Text) → has_row id rows ≡ false → settle_fault leaf.rules false (held_at rows (Some (id, value ∷ []))) ≡ []

with_option : (id word value : Text) (words : List Text) (rows : List Row) → IsOption id word → Plain value → has_row id rows ≡ false → Gives words rows → Gives (words ++ word ∷ value ∷ []) (rows ++ row id value ∷ [])
with_option id word [] words rows is plain lacks g = absurd plain
with_option id word (c ∷ cs) words rows is plain lacks g =
    let asked : Walk = asks rows id in
    let waits : Goes (idle_at g.before g.pending) (word ∷ []) (asks rows id) =
    one_word (idle_at g.before g.pending) (asks rows id) word (is.waits g.before g.pending ∙ ap (λ x. asks x id) g.uses) (is.right g.before g.pending g.right) in
    let takes : Goes (asks rows id) ((c ∷ cs) ∷ []) (idle_at rows (Some (id, (c ∷ cs) ∷ []))) = one_word _ _ (c ∷ cs) (is.goes rows c cs plain) (is.value_right rows c cs plain) in
    record {
      before = rows;
      pending = Some (id, (c ∷ cs) ∷ []);
      goes = goes_on _ _ _ words (word ∷ (c ∷ cs) ∷ []) g.goes (goes_on _ _ _ (word ∷ []) ((c ∷ cs) ∷ []) waits takes);
      uses = is.uses rows (c ∷ cs) ∙ new_row id AsWritten CommandLine ((c ∷ cs) ∷ []) rows lacks;
      right = is.use_right rows (c ∷ cs) lacks;
    }

-- an option that may be left out
gives_same : (words more : List Text) (rows others : List Row) → more ≡ words → others ≡ rows → Gives words rows → Gives more others
gives_same words more rows others e f g = record {
  before = g.before;
  pending = g.pending;
  goes = record { there = ap (λ x. fold (walked leaf.rules []) at_start x) e ∙ g.goes.there; right = ap (λ x. walk_fault leaf [] at_start x) e ∙ g.goes.right };
  uses = g.uses ∙ sym f;
  right = g.right;
}

may_have : (id word : Text) (value : Option Text) (words : List Text) (rows : List Row) → IsOption id word → PlainIfSome value → has_row id rows ≡ false → Gives words rows
    → Gives (words ++ option_words word value) (rows ++ option_rows id value)
may_have id word None words rows is plain lacks g = gives_same words (words ++ []) rows (rows ++ []) (append-nil words) (append-nil rows) g
may_have id word (Some value) words rows is plain lacks g = with_option id word value words rows is plain lacks g

no_repeat : (f : Bool → Kinds) → f false ≡ [] → (b : Bool) → b ≡ false → f b ≡ []
no_repeat f e b h = ap f h ∙ e

k_option : IsOption (codes "k") (codes "--k")
unfolding clap_on_literals
k_option = record {
  waits = λ rows pending. refl;
  right = λ rows pending e. ap (λ k. or_else k []) e;
  goes = λ rows c cs h. simp h refl;
  value_right = λ rows c cs h. simp h refl;
  uses = λ rows value. refl;
  use_right = λ rows value h. simp h refl;
}

mode_option : IsOption (codes "mode") (codes "--mode")
unfolding clap_on_literals
mode_option = record {
  waits = λ rows pending. refl;
  right = λ rows pending e. ap (λ k. or_else k []) e;
  goes = λ rows c cs h. simp h refl;
  value_right = λ rows c cs h. simp h refl;
  uses = λ rows value. refl;
  use_right = λ rows value h. simp h refl;
}

search_option : IsOption (codes "search") (codes "--search")
unfolding clap_on_literals
search_option = record {
  waits = λ rows pending. refl;
  right = λ rows pending e. ap (λ k. or_else k []) e;
  goes = λ rows c cs h. simp h refl;
  value_right = λ rows c cs h. simp h refl;
  uses = λ rows value. refl;
  use_right = λ rows value h. simp h refl;
}

bound_option : IsOption (codes "bound") (codes "--bound")
unfolding clap_on_literals
bound_option = record {
  waits = λ rows pending. refl;
  right = λ rows pending e. ap (λ k. or_else k []) e;
  goes = λ rows c cs h. simp h refl;
  value_right = λ rows c cs h. simp h refl;
  uses = λ rows value. refl;
  use_right = λ rows value h. simp h refl;
}

quality_option : IsOption (codes "quality") (codes "--quality")
unfolding clap_on_literals
quality_option = record {
  waits = λ rows pending. refl;
  right = λ rows pending e. ap (λ k. or_else k []) e;
  goes = λ rows c cs h. simp h refl;
  value_right = λ rows c cs h. simp h refl;
  uses = λ rows value. refl;
  use_right = λ rows value h. simp h refl;
}

after_option : IsOption (codes "after") (codes "--after")
unfolding clap_on_literals
after_option = record {
  waits = λ rows pending. refl;
  right = λ rows pending e. ap (λ k. or_else k []) e;
  goes = λ rows c cs h. simp h refl;
  value_right = λ rows c cs h. simp h refl;
  uses = λ rows value. refl;
  use_right = λ rows value h. simp h refl;
}

-- The option of this name, written so, has no value, and is used at once.
record IsFlag (id word : Text) : Type 0 where
  walks : (rows : List Row) (pending : Option (Text × List Text)) → walked leaf.rules [] (idle_at rows pending) word
      ≡ idle_at (with_values id AsWritten CommandLine (codes "true" ∷ []) (without id (settled_rows leaf.rules pending rows))) None
  right : (rows : List Row) (pending : Option (Text × List Text)) → settle_fault leaf.rules false (held_at rows pending) ≡ [] → has_row id (settled_rows leaf.rules pending rows) ≡ false
      → turn_fault leaf [] (idle_at rows pending) word ≡ []

more_flag : IsFlag (codes "more") (codes "--more")
unfolding clap_on_literals
more_flag = record { walks = λ rows pending. refl; right = λ rows pending e h. simp (e, h) refl }

mutex_flag : IsFlag (codes "mutex") (codes "--mutex")
unfolding clap_on_literals
mutex_flag = record { walks = λ rows pending. refl; right = λ rows pending e h. simp (e, h) refl }

may_be_set : (id word : Text) (given : Bool) (words : List Text) (rows : List Row) → IsFlag id word → has_row id rows ≡ false → Gives words rows → Gives (words ++ flag_words word given) (rows ++ flag_rows id given)
may_be_set id word false words rows is lacks g = gives_same words (words ++ []) rows (rows ++ []) (append-nil words) (append-nil rows) g
may_be_set id word true words rows is lacks g =
    let last = rows ++ flag_row id (codes "true") CommandLine ∷ [] in
    let there = is.walks g.before g.pending ∙ ap (λ x. idle_at (with_values id AsWritten CommandLine (codes "true" ∷ []) (without id x)) None) g.uses
    ∙ ap (λ x. idle_at x None) (new_row id AsWritten CommandLine (codes "true" ∷ []) rows lacks) in
    let lacks_it = ap (λ x. has_row id x) g.uses ∙ lacks in
    record {
      before = last;
      pending = None;
      goes = goes_on _ _ _ words (word ∷ []) g.goes (one_word _ _ word there (is.right g.before g.pending g.right lacks_it));
      uses = refl;
      right = refl;
    }

-- The file and how many plans, which have to be there.

file_goes : (f : ℕ) (fs : Text) → (f == 45) ≡ false → walked leaf.rules [] at_start (f ∷ fs) ≡ idle_at [] (Some (codes "file", (f ∷ fs) ∷ []))
unfolding clap_on_literals
file_goes f fs h = simp h refl

file_right : (f : ℕ) (fs : Text) → (f == 45) ≡ false → turn_fault leaf [] at_start (f ∷ fs) ≡ []
unfolding clap_on_literals
file_right f fs h = simp h refl

file_uses : (F : Text) → settled_rows leaf.rules (Some (codes "file", F ∷ [])) [] ≡ row (codes "file") F ∷ []
unfolding clap_on_literals
file_uses F = refl

file_use_right : (F : Text) → settle_fault leaf.rules false (held_at [] (Some (codes "file", F ∷ []))) ≡ []
unfolding clap_on_literals
file_use_right F = refl

gives_file : (F : Text) → Plain F → Gives (F ∷ []) (row (codes "file") F ∷ [])
gives_file [] plain = absurd plain
gives_file (f ∷ fs) plain = record {
  before = [];
  pending = Some (codes "file", (f ∷ fs) ∷ []);
  goes = one_word _ _ (f ∷ fs) (file_goes f fs plain) (file_right f fs plain);
  uses = file_uses (f ∷ fs);
  right = file_use_right (f ∷ fs);
}

abbrev least_rows : Text → Text → List Row
least_rows F K = row (codes "file") F ∷ row (codes "k") K ∷ []

gives_least : (F K : Text) → Plain F → Plain K → Gives (F ∷ codes "--k" ∷ K ∷ []) (least_rows F K)
gives_least F K f k = with_option (codes "k") (codes "--k") K (F ∷ []) (row (codes "file") F ∷ []) k_option k refl (gives_file F f)

-- The end of the words: the two options without a value alone have a default.

or_true : (t : Bool) (k : Kinds) → cond (t || true) [] k ≡ []
or_true true k = refl
or_true false k = refl

either_way : (t : Bool) (rows : List Row) → cond t rows rows ≡ rows
either_way true rows = refl
either_way false rows = refl

no_default_fault : (rows : List Row) (a : Rule) → a.defaults ≡ [] → default_fault rows a ≡ []
no_default_fault rows a e =
    ap (λ (d : List Text). cond (has_row a.id rows || is_empty d) [] (given_default_fault a d)) e ∙ or_true (has_row a.id rows) (given_default_fault a [])

no_default : (rows : List Row) (a : Rule) → a.defaults ≡ [] → with_default rows a ≡ rows
no_default rows a e = ap (λ (d : List Text). cond (has_row a.id rows) rows (default_rows a.id (reading_by a) d rows)) e ∙ either_way (has_row a.id rows) rows

abbrev NoDefaults : List Rule → Type 0
NoDefaults [] = ⊤
NoDefaults (a ∷ rules) = (a.defaults ≡ []) × NoDefaults rules

fault_past : (rows : List Row) (rules rest : List Rule) → NoDefaults rules → defaults_fault rows (rules ++ rest) ≡ defaults_fault rows rest
unfolding defaults_fault
fault_past rows [] rest e = refl
fault_past rows (a ∷ rules) rest e =
    ap₂ or_else (no_default_fault rows a e.0) (ap (λ r. defaults_fault r (rules ++ rest)) (no_default rows a e.0) ∙ fault_past rows rules rest e.1)

rows_past : (rows : List Row) (rules rest : List Rule) → NoDefaults rules → fold with_default rows (rules ++ rest) ≡ fold with_default rows rest
rows_past rows [] rest e = refl
rows_past rows (a ∷ rules) rest e = ap (λ r. fold with_default r (rules ++ rest)) (no_default rows a e.0) ∙ rows_past rows rules rest e.1

-- the options before the first one without a value, and those between it and the last one
abbrev first_rules : List Rule
first_rules = filled_from 1 (positional_rule (codes "file") ∷ wanted (codes "k") ∷ wished (codes "mode") ∷ wished (codes "search") ∷ [])

abbrev more_rule : Rule
more_rule = filled (flag (codes "more"))

abbrev later_rules : List Rule
later_rules = filled_from 3 (wished (codes "bound") ∷ wished (codes "quality") ∷ wished (codes "after") ∷ [])

abbrev mutex_rule : Rule
mutex_rule = filled (flag (codes "mutex"))

abbrev last_rules : List Rule
last_rules = later_rules ++ mutex_rule ∷ []

rules_are : leaf.rules ≡ first_rules ++ more_rule ∷ last_rules
unfolding clap_on_literals
rules_are = refl

first_have_none : NoDefaults first_rules
unfolding clap_on_literals
first_have_none = (refl, (refl, (refl, (refl, tt))))

later_have_none : NoDefaults later_rules
unfolding clap_on_literals
later_have_none = (refl, (refl, (refl, tt)))

-- an option without a value has its default where it isn't given
more_fault : (rows : List Row) (given : Bool) → has_row (codes "more") rows ≡ given → default_fault rows more_rule ≡ []
unfolding clap_on_literals
more_fault rows true h = simp h refl
more_fault rows false h = simp h refl

more_row : (rows : List Row) (given : Bool) → has_row (codes "more") rows ≡ given → with_default rows more_rule ≡ rows ++ default_rows_of (codes "more") given
unfolding clap_on_literals
more_row rows true h = simp h (sym (append-nil rows))
more_row rows false h = simp h (appended (codes "more") (more_values DefaultValue (codes "false" ∷ [])) _ rows h)

mutex_fault : (rows : List Row) (given : Bool) → has_row (codes "mutex") rows ≡ given → default_fault rows mutex_rule ≡ []
unfolding clap_on_literals
mutex_fault rows true h = simp h refl
mutex_fault rows false h = simp h refl

mutex_row : (rows : List Row) (given : Bool) → has_row (codes "mutex") rows ≡ given → with_default rows mutex_rule ≡ rows ++ default_rows_of (codes "mutex") given
unfolding clap_on_literals
mutex_row rows true h = simp h (sym (append-nil rows))
mutex_row rows false h = simp h (appended (codes "mutex") (more_values DefaultValue (codes "false" ∷ [])) _ rows h)

-- whether the options without a value are given
record HasFlags (rows : List Row) (has_more has_mutex : Bool) : Type 0 where
  more : has_row (codes "more") rows ≡ has_more
  mutex : has_row (codes "mutex") rows ≡ has_mutex

or_no : (b : Bool) → (b || false) ≡ b
or_no true = refl
or_no false = refl

-- rows with those of the one that isn't given, and then of the other
abbrev with_more : List Row → Bool → List Row
with_more rows more = rows ++ default_rows_of (codes "more") more

abbrev with_both : List Row → Bool → Bool → List Row
with_both rows more mutex = with_more rows more ++ default_rows_of (codes "mutex") mutex

mutex_then : (rows : List Row) (more mutex : Bool) → HasFlags rows more mutex → has_row (codes "mutex") (with_more rows more) ≡ mutex
mutex_then rows more mutex h =
    let test = λ (r : Row). bytes_eq r.id (codes "mutex") in
    list_any-append test rows _ ∙ ap (λ b. list_any test rows || b) (lacks_default (codes "mutex") (codes "more") more refl) ∙ or_no _ ∙ h.mutex

no_fault_left : (rows : List Row) (more mutex : Bool) → HasFlags rows more mutex → defaults_fault rows leaf.rules ≡ []
unfolding defaults_fault
no_fault_left rows more mutex h =
    let then = ap (λ r. has_row (codes "mutex") r) (more_row rows more h.more) ∙ mutex_then rows more mutex h in
    ap (λ r. defaults_fault rows r) rules_are ∙ fault_past rows first_rules (more_rule ∷ last_rules) first_have_none
    ∙ ap₂ or_else (more_fault rows more h.more) (fault_past (with_default rows more_rule) later_rules (mutex_rule ∷ []) later_have_none
    ∙ ap (λ k. or_else k []) (mutex_fault (with_default rows more_rule) mutex then))

rows_at_end : (rows : List Row) (more mutex : Bool) → HasFlags rows more mutex → fold with_default rows leaf.rules ≡ with_both rows more mutex
rows_at_end rows more mutex h =
    ap (λ r. fold with_default rows r) rules_are ∙ rows_past rows first_rules (more_rule ∷ last_rules) first_have_none
    ∙ rows_past (with_default rows more_rule) later_rules (mutex_rule ∷ []) later_have_none
    ∙ ap (λ r. with_default r mutex_rule) (more_row rows more h.more) ∙ mutex_row (with_more rows more) mutex (mutex_then rows more mutex h)

required_there : (F K : Text) (others : List Row) → check_fault leaf (row (codes "file") F ∷ row (codes "k") K ∷ others) false ≡ []
unfolding clap_on_literals
required_there F K others = refl

-- What the words give at the end.

finished_rows : (words : List Text) (rows : List Row) (more mutex : Bool) (g : Gives words rows) → HasFlags rows more mutex → finished leaf.rules (walk leaf.rules [] nothing_held words).held ≡ with_both rows more mutex
finished_rows words rows more mutex g h =
    ap (λ (w : Walk). finished leaf.rules w.held) g.goes.there ∙ ap (λ r. fold with_default r leaf.rules) g.uses ∙ rows_at_end rows more mutex h

-- the rows of a file and of how many plans, and others
abbrev from_least : Text → Text → List Row → List Row
from_least F K others = row (codes "file") F ∷ row (codes "k") K ∷ others

level_right : (F K : Text) (words : List Text) (others : List Row) (more mutex : Bool) (g : Gives words (from_least F K others)) → HasFlags (from_least F K others) more mutex → level_fault leaf [] nothing_held words false [] ≡ []
level_right F K words others more mutex g h =
    let rows = from_least F K others in
    let defaults = ap (λ r. defaults_fault r leaf.rules) g.uses ∙ no_fault_left rows more mutex h in
    let checks = ap (λ r. check_fault leaf (fold with_default r leaf.rules) false) g.uses ∙ ap (λ r. check_fault leaf r false) (rows_at_end rows more mutex h) ∙ required_there F K (with_both others more mutex) in
    ap₂ or_else g.goes.right (ap (λ (w : Walk). end_fault leaf w.held) g.goes.there ∙ ap₂ or_else g.right (ap₂ or_else defaults checks))

-- From the words of the program to those of the subcommand.

abbrev top : Shape
top = (built symk_app).top

abbrev names : Names
names = names_of (built symk_app)

-- the walk stopped at the subcommand, and these words came after it
abbrev in_plan : List Text → Walk
in_plan words = record { held = nothing_held; waiting = idle; position = 1; is_trailing = false; stopped = Some (codes "plan", words) }

passes_over : (before words : List Text) → fold (walked top.rules names) (in_plan before) words ≡ in_plan (before ++ words)
unfolding walked
passes_over before [] = ap in_plan (sym (append-nil before))
passes_over before (word ∷ words) = passes_over (before ++ word ∷ []) words ∙ ap in_plan (append_assoc before (word ∷ []) words)

no_fault_over : (before words : List Text) → walk_fault top names (in_plan before) words ≡ []
unfolding walk_fault walked
no_fault_over before [] = refl
no_fault_over before (word ∷ words) = no_fault_over (before ++ word ∷ []) words

-- the faults of the whole command, from the end of its own walk
abbrev at_top : Walk → Kinds → Kinds
at_top w k =
    let a = built symk_app in
    or_else k (or_else (entered_fault a w.stopped) (or_else (settle_fault top.rules top.args_override_self w.held)
    (or_else (defaults_fault (settled top.rules w.held).rows top.rules) (check_fault top (finished top.rules w.held) (is_some (entered a w.stopped))))))

enters : (prog : Text) (words : List Text) → fault_of symk_app (prog ∷ codes "plan" ∷ words) ≡ at_top (fold (walked top.rules names) (in_plan []) words) (walk_fault top names (in_plan []) words)
unfolding clap_on_literals
enters prog words = refl

top_fault : (prog : Text) (words : List Text) → fault_of symk_app (prog ∷ codes "plan" ∷ words) ≡ or_else (level_fault leaf [] nothing_held words false []) []
unfolding clap_on_literals
top_fault prog words = enters prog words ∙ ap₂ at_top (passes_over [] words) (no_fault_over [] words)

enters_rows : (prog : Text) (words : List Text) → subcommand_of symk_app (prog ∷ codes "plan" ∷ words) ≡ entered (built symk_app) (fold (walked top.rules names) (in_plan []) words).stopped
unfolding clap_on_literals
enters_rows prog words = refl

top_rows : (prog : Text) (words : List Text) → subcommand_of symk_app (prog ∷ codes "plan" ∷ words) ≡ Some (codes "plan", finished leaf.rules (walk leaf.rules [] nothing_held words).held)
unfolding clap_on_literals
top_rows prog words = enters_rows prog words ∙ ap (λ (w : Walk). entered (built symk_app) w.stopped) (passes_over [] words)

given_texts : (prog : Text) (words : List Text) (F K : Text) (others : List Row) (more mutex : Bool) → Gives words (from_least F K others) → HasFlags (from_least F K others) more mutex
    → texts_asked (prog ∷ codes "plan" ∷ words) ≡ Some (plan (plan_with (from_least F K (with_both others more mutex)) F K))
unfolding texts_asked
given_texts prog words F K others more mutex g h =
    let rows = from_least F K others in
    let none = top_fault prog words ∙ ap (λ k. or_else k []) (level_right F K words others more mutex g h) in
    let found = top_rows prog words ∙ ap (λ r. Some (codes "plan", r)) (finished_rows words rows more mutex g h) in
    ap₂ unless_fault none (ap texts_of found)

-- Lawful words.

has_flag : (id : Text) (given : Bool) → bytes_eq id id ≡ true → has_row id (flag_rows id given) ≡ given
has_flag id false e = refl
has_flag id true e = ap (λ b. b || false) e

is_set_given : (id : Text) (given : Bool) → bytes_eq id id ≡ true → is_set (first_of id (flag_rows id given ++ default_rows_of id given)) ≡ given
is_set_given id false e = ap (λ b. is_set (option_and_then (λ r. slice_get r.values 0) (cond b (Some (flag_row id (codes "false") DefaultValue)) None))) e
is_set_given id true e = ap (λ b. is_set (option_and_then (λ r. slice_get r.values 0) (cond b (Some (flag_row id (codes "true") CommandLine)) None))) e

-- The rows of the texts, without defaults: those of the options up to each.
abbrev to_mode : PlanTexts → List Row
to_mode t = least_rows t.file t.k ++ option_rows (codes "mode") t.mode

abbrev to_search : PlanTexts → List Row
to_search t = to_mode t ++ option_rows (codes "search") t.search

abbrev to_more : PlanTexts → List Row
to_more t = to_search t ++ flag_rows (codes "more") t.more

abbrev to_bound : PlanTexts → List Row
to_bound t = to_more t ++ option_rows (codes "bound") t.bound

abbrev to_quality : PlanTexts → List Row
to_quality t = to_bound t ++ option_rows (codes "quality") t.quality

abbrev to_after : PlanTexts → List Row
to_after t = to_quality t ++ option_rows (codes "after") t.after

abbrev to_mutex : PlanTexts → List Row
to_mutex t = to_after t ++ flag_rows (codes "mutex") t.mutex

abbrev to_default : PlanTexts → List Row
to_default t = with_more (to_mutex t) t.more

abbrev all_rows : PlanTexts → List Row
all_rows t = with_both (to_mutex t) t.more t.mutex

-- No row up to an option is that of a later one.
lacks_to_mode : (id : Text) (t : PlanTexts) → has_row id (least_rows t.file t.k) ≡ false → bytes_eq (codes "mode") id ≡ false → has_row id (to_mode t) ≡ false
lacks_to_mode id t e m = lacks_both id (least_rows t.file t.k) _ e (lacks_option id (codes "mode") t.mode m)

lacks_to_search : (id : Text) (t : PlanTexts) → has_row id (to_mode t) ≡ false → bytes_eq (codes "search") id ≡ false → has_row id (to_search t) ≡ false
lacks_to_search id t e s = lacks_both id (to_mode t) _ e (lacks_option id (codes "search") t.search s)

lacks_to_more : (id : Text) (t : PlanTexts) → has_row id (to_search t) ≡ false → bytes_eq (codes "more") id ≡ false → has_row id (to_more t) ≡ false
lacks_to_more id t e m = lacks_both id (to_search t) _ e (lacks_flag id (codes "more") t.more m)

lacks_to_bound : (id : Text) (t : PlanTexts) → has_row id (to_more t) ≡ false → bytes_eq (codes "bound") id ≡ false → has_row id (to_bound t) ≡ false
lacks_to_bound id t e b = lacks_both id (to_more t) _ e (lacks_option id (codes "bound") t.bound b)

search_new : (t : PlanTexts) → has_row (codes "search") (to_mode t) ≡ false
search_new t = lacks_to_mode (codes "search") t refl refl

more_new : (t : PlanTexts) → has_row (codes "more") (to_search t) ≡ false
more_new t = lacks_to_search (codes "more") t (lacks_to_mode (codes "more") t refl refl) refl

bound_new : (t : PlanTexts) → has_row (codes "bound") (to_more t) ≡ false
bound_new t = lacks_to_more (codes "bound") t (lacks_to_search (codes "bound") t (lacks_to_mode (codes "bound") t refl refl) refl) refl

quality_new : (t : PlanTexts) → has_row (codes "quality") (to_bound t) ≡ false
quality_new t =
    let id = codes "quality" in
    lacks_to_bound id t (lacks_to_more id t (lacks_to_search id t (lacks_to_mode id t refl refl) refl) refl) refl

after_new : (t : PlanTexts) → has_row (codes "after") (to_quality t) ≡ false
after_new t =
    let id = codes "after" in
    let bound = lacks_to_bound id t (lacks_to_more id t (lacks_to_search id t (lacks_to_mode id t refl refl) refl) refl) refl in
    lacks_both id (to_bound t) _ bound (lacks_option id (codes "quality") t.quality refl)

mutex_new : (t : PlanTexts) → has_row (codes "mutex") (to_after t) ≡ false
mutex_new t =
    let id = codes "mutex" in
    let bound = lacks_to_bound id t (lacks_to_more id t (lacks_to_search id t (lacks_to_mode id t refl refl) refl) refl) refl in
    lacks_both id (to_quality t) _ (lacks_both id (to_bound t) _ bound (lacks_option id (codes "quality") t.quality refl)) (lacks_option id (codes "after") t.after refl)

gives_all : (t : PlanTexts) → ArePlain t → Gives ((((((((t.file ∷ codes "--k" ∷ t.k ∷ []) ++ option_words (codes "--mode") t.mode) ++ option_words (codes "--search") t.search) ++ flag_words (codes "--more") t.more)
    ++ option_words (codes "--bound") t.bound) ++ option_words (codes "--quality") t.quality) ++ option_words (codes "--after") t.after) ++ flag_words (codes "--mutex") t.mutex) (to_mutex t)
gives_all t p =
    let mode = may_have (codes "mode") (codes "--mode") t.mode _ (least_rows t.file t.k) mode_option p.mode refl (gives_least t.file t.k p.file p.k) in
    let search = may_have (codes "search") (codes "--search") t.search _ (to_mode t) search_option p.search (search_new t) mode in
    let more = may_be_set (codes "more") (codes "--more") t.more _ (to_search t) more_flag (more_new t) search in
    let bound = may_have (codes "bound") (codes "--bound") t.bound _ (to_more t) bound_option p.bound (bound_new t) more in
    let quality = may_have (codes "quality") (codes "--quality") t.quality _ (to_bound t) quality_option p.quality (quality_new t) bound in
    let after = may_have (codes "after") (codes "--after") t.after _ (to_quality t) after_option p.after (after_new t) quality in
    may_be_set (codes "mutex") (codes "--mutex") t.mutex _ (to_after t) mutex_flag (mutex_new t) after

-- What the rows say of each option: what stands after its row is passed over, and what stands before it.
past_flags : (id : Text) (t : PlanTexts) → bytes_eq (codes "more") id ≡ false → bytes_eq (codes "mutex") id ≡ false → first_of id (all_rows t) ≡ first_of id (to_after t)
past_flags id t m x =
    first_earlier id (to_default t) _ (lacks_default id (codes "mutex") t.mutex x) ∙ first_earlier id (to_mutex t) _ (lacks_default id (codes "more") t.more m)
    ∙ first_earlier id (to_after t) _ (lacks_flag id (codes "mutex") t.mutex x)

past_last : (id : Text) (t : PlanTexts) → bytes_eq (codes "more") id ≡ false → bytes_eq (codes "mutex") id ≡ false → bytes_eq (codes "after") id ≡ false → first_of id (all_rows t) ≡ first_of id (to_quality t)
past_last id t m x a = past_flags id t m x ∙ first_earlier id (to_quality t) _ (lacks_option id (codes "after") t.after a)

past_end : (id : Text) (t : PlanTexts) → bytes_eq (codes "more") id ≡ false → bytes_eq (codes "mutex") id ≡ false → bytes_eq (codes "after") id ≡ false → bytes_eq (codes "quality") id ≡ false → first_of id (all_rows t) ≡ first_of id (to_bound t)
past_end id t m x a q = past_last id t m x a ∙ first_earlier id (to_bound t) _ (lacks_option id (codes "quality") t.quality q)

past_more : (id : Text) (t : PlanTexts) → bytes_eq (codes "bound") id ≡ false → bytes_eq (codes "more") id ≡ false → first_of id (to_bound t) ≡ first_of id (to_search t)
past_more id t b m = first_earlier id (to_more t) _ (lacks_option id (codes "bound") t.bound b) ∙ first_earlier id (to_search t) _ (lacks_flag id (codes "more") t.more m)

mode_is : (t : PlanTexts) → first_of (codes "mode") (all_rows t) ≡ t.mode
mode_is t =
    let id = codes "mode" in
    past_end id t refl refl refl refl ∙ past_more id t refl refl ∙ first_earlier id (to_mode t) _ (lacks_option id (codes "search") t.search refl)
    ∙ first_later id (least_rows t.file t.k) (option_rows id t.mode) refl ∙ first_option id t.mode refl

search_is : (t : PlanTexts) → first_of (codes "search") (all_rows t) ≡ t.search
search_is t =
    let id = codes "search" in
    past_end id t refl refl refl refl ∙ past_more id t refl refl ∙ first_later id (to_mode t) (option_rows id t.search) (search_new t) ∙ first_option id t.search refl

bound_is : (t : PlanTexts) → first_of (codes "bound") (all_rows t) ≡ t.bound
bound_is t =
    let id = codes "bound" in
    past_end id t refl refl refl refl ∙ first_later id (to_more t) (option_rows id t.bound) (bound_new t) ∙ first_option id t.bound refl

quality_is : (t : PlanTexts) → first_of (codes "quality") (all_rows t) ≡ t.quality
quality_is t =
    let id = codes "quality" in
    past_last id t refl refl refl ∙ first_later id (to_bound t) (option_rows id t.quality) (quality_new t) ∙ first_option id t.quality refl

after_is : (t : PlanTexts) → first_of (codes "after") (all_rows t) ≡ t.after
after_is t =
    let id = codes "after" in
    past_flags id t refl refl ∙ first_later id (to_quality t) (option_rows id t.after) (after_new t) ∙ first_option id t.after refl

-- the options without a value: given, or by default
more_given : (t : PlanTexts) → has_row (codes "more") (to_mutex t) ≡ t.more
more_given t =
    let id = codes "more" in
    let test = λ (r : Row). bytes_eq r.id id in
    let end = list_any-append test (to_after t) _ ∙ ap (λ b. list_any test (to_after t) || b) (lacks_flag id (codes "mutex") t.mutex refl) in
    let last = list_any-append test (to_quality t) _ ∙ ap (λ b. list_any test (to_quality t) || b) (lacks_option id (codes "after") t.after refl) in
    let next = list_any-append test (to_bound t) _ ∙ ap (λ b. list_any test (to_bound t) || b) (lacks_option id (codes "quality") t.quality refl) in
    let third = list_any-append test (to_more t) _ ∙ ap (λ b. list_any test (to_more t) || b) (lacks_option id (codes "bound") t.bound refl) in
    let flag = list_any-append test (to_search t) _ ∙ ap₂ (λ a b. a || b) (more_new t) (has_flag id t.more refl) in
    end ∙ or_no _ ∙ last ∙ or_no _ ∙ next ∙ or_no _ ∙ third ∙ or_no _ ∙ flag

mutex_given : (t : PlanTexts) → has_row (codes "mutex") (to_mutex t) ≡ t.mutex
mutex_given t =
    let id = codes "mutex" in
    list_any-append (λ (r : Row). bytes_eq r.id id) (to_after t) _ ∙ ap₂ (λ a b. a || b) (mutex_new t) (has_flag id t.mutex refl)

flags_are : (t : PlanTexts) → HasFlags (to_mutex t) t.more t.mutex
flags_are t = record { more = more_given t; mutex = mutex_given t }

-- rows without it are passed over in the middle
first_around : (id : Text) (xs ys zs : List Row) → has_row id ys ≡ false → first_of id ((xs ++ ys) ++ zs) ≡ first_of id (xs ++ zs)
first_around id xs ys zs h =
    let test = λ (r : Row). bytes_eq r.id id in
    ap (λ o. option_and_then (λ r. slice_get r.values 0) o)
    (find-append test (xs ++ ys) zs ∙ ap (λ o. option_or o (find test zs)) (find-append test xs ys ∙ ap (λ o. option_or (find test xs) o) (none_found id ys h) ∙ or_none (find test xs))
    ∙ sym (find-append test xs zs))

more_is : (t : PlanTexts) → is_set (first_of (codes "more") (all_rows t)) ≡ t.more
more_is t =
    let id = codes "more" in
    let default = default_rows_of id t.more in
    let around = first_earlier id (to_default t) _ (lacks_default id (codes "mutex") t.mutex refl)
    ∙ first_around id (to_after t) _ default (lacks_flag id (codes "mutex") t.mutex refl)
    ∙ first_around id (to_quality t) _ default (lacks_option id (codes "after") t.after refl)
    ∙ first_around id (to_bound t) _ default (lacks_option id (codes "quality") t.quality refl)
    ∙ first_around id (to_more t) _ default (lacks_option id (codes "bound") t.bound refl) in
    let flag = ap (λ r. first_of id r) (append_assoc (to_search t) (flag_rows id t.more) default) ∙ first_later id (to_search t) (flag_rows id t.more ++ default) (more_new t) in
    ap is_set (around ∙ flag) ∙ is_set_given id t.more refl

mutex_is : (t : PlanTexts) → is_set (first_of (codes "mutex") (all_rows t)) ≡ t.mutex
mutex_is t =
    let id = codes "mutex" in
    let default = default_rows_of id t.mutex in
    let around = first_around id (to_mutex t) _ default (lacks_default id (codes "more") t.more refl) in
    let flag = ap (λ r. first_of id r) (append_assoc (to_after t) (flag_rows id t.mutex) default) ∙ first_later id (to_after t) (flag_rows id t.mutex ++ default) (mutex_new t) in
    ap is_set (around ∙ flag) ∙ is_set_given id t.mutex refl

abbrev texts_with : PlanTexts → Option Text → Option Text → Bool → Option Text → Option Text → Option Text → Bool → PlanTexts
texts_with t mode search more bound quality after mutex = record { file = t.file; k = t.k; mode = mode; search = search; more = more; bound = bound; quality = quality; after = after; mutex = mutex }

texts_are : (t : PlanTexts) → plan_with (all_rows t) t.file t.k ≡ t
texts_are t =
    let rows = all_rows t in
    let more = is_set (first_of (codes "more") rows) in
    let bound = first_of (codes "bound") rows in
    let quality = first_of (codes "quality") rows in
    let after = first_of (codes "after") rows in
    let mutex = is_set (first_of (codes "mutex") rows) in
    ap (λ x. texts_with t x (first_of (codes "search") rows) more bound quality after mutex) (mode_is t) ∙ ap (λ x. texts_with t t.mode x more bound quality after mutex) (search_is t)
    ∙ ap (λ x. texts_with t t.mode t.search x bound quality after mutex) (more_is t) ∙ ap (λ x. texts_with t t.mode t.search t.more x quality after mutex) (bound_is t)
    ∙ ap (λ x. texts_with t t.mode t.search t.more t.bound x after mutex) (quality_is t) ∙ ap (λ x. texts_with t t.mode t.search t.more t.bound t.quality x mutex) (after_is t)
    ∙ ap (λ x. texts_with t t.mode t.search t.more t.bound t.quality t.after x) (mutex_is t)

pub lawful_plan : (prog : Text) (t : PlanTexts) → ArePlain t → texts_asked (plan_words prog t) ≡ Some (plan t)
lawful_plan prog t p = given_texts prog _ t.file t.k _ t.more t.mutex (gives_all t p) (flags_are t) ∙ ap (λ x. Some (plan x)) (texts_are t)

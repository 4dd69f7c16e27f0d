-- The words of the whole command line: where clap finds no fault it takes them, and its matches
-- hold a command; and so it does where they are of a plain form.
use Rattle.std.proofs.Common.{◌≡◌, ◌∙◌, ◌==◌, ◌<◌, ◌^◌, true≢false, ℕ, lt-ltb, le-leb, Bool, List, [], ◌∷◌, ◌++◌, arith, refl, sym, ap, cond, length, map, subst, true, false, Option, Some, None, inl, inr, codes}
use Rattle.std.specs.Prelude.{⊤, All, nat_le, nat_lt, find, fold, is_some, option_and_then, option_map}
use Rattle.std.specs.Map.{lookup}
use Rattle.std.specs.Option.{option_map_or, unwrap_or}
use Rattle.std.specs.Str.{bytes_eq}
use Rattle.std.proofs.lemmas.Slice.Eq.{bytes_eq-Decides}
use Rattle.std.proofs.lemmas.Bool.Decides.{Decides-eqb}
use Rattle.std.proofs.lemmas.List.Elements.{All-head, All-tail}
use Rattle.std.specs.Str.Parse.{digits_value, without_leading_plus}
use Rattle.std.proofs.lemmas.Int.Digits.{digits_value-lt}
use Rattle.std.proofs.lemmas.Str.Parse.{digit_from_value, without_leading_plus_none}
use Rattle.std.proofs.Math.Nat.{pow-le-pow_right}
use Rattle.clap.specs.Words.{Shape, Text, built}
use Rattle.clap.specs.ValueTests.{is_numeral}
use Rattle.clap.specs.declared.builder.value_parser.ValueParser.TheVariants.{NonEmptyString, Unsigned}
use Rattle.clap.specs.Walk.{Names, Walk, answers_to, nothing_held, subcommand_met, idle, walk_from, walked}
use Rattle.clap.specs.Simple.{built_leaf, entered, help_shape, label_of, names_of, rows_at}
use Rattle.clap.specs.Faults.{defaults_fault, entered_fault, fault_of, is_simple_and_free, level_fault, turn_fault, walk_fault}
use Rattle.clap.specs.Takes.{entered_passes, level_passes, turn_passes, walk_passes}
use Rattle.clap.proofs.WalkLemmas.{find-map, walk_stopped}
use Rattle.sfm_words.specs.Command.{Asks, Command, IsFileName, IsForm, IsPlainFor, IsSeed, command_by}
use Rattle.sfm_words.specs.Subcommand.{Maker, files, number, subcommands}
use Rattle.sfm_words.specs.Line.{sfm_line}
use Rattle.sfm_words.proofs.Numbers.{numeral_told}
use Rattle.sfm_words.proofs.Turns.{HasHelpOnly, at, dashes, dashes_or_value, none_of, not_none, value_fault, some_word}
use Rattle.sfm_words.proofs.Levels.{Handles, HasSmallSeed, IsFree, IsPlain, Reaches}
use Rattle.sfm_words.proofs.Forms.{IsGood, PlainNames, PlainWords, handles_words, has_help_only, made_by, sub_of, value_of}

pub line_is_simple : is_simple_and_free sfm_line ≡ true
line_is_simple = refl

abbrev top : Shape
top = (built sfm_line).top

abbrev names : Names
names = names_of (built sfm_line)

-- the subcommand for help, as it is built
abbrev help_sub : Shape
help_sub = built_leaf help_shape

some_not_none : {X : Type 0} (x : X) → Some x ≡ None → ⊥
some_not_none x e = true≢false (ap (λ o. is_some o) e)

-- the walk that has met a subcommand
abbrev met_with : Text → List Text → Walk
met_with verb words = record (at [] None 1 false) { stopped = Some (verb, words) }

stopped_passes : (s : Shape) (ns : Names) (w : Walk) (p : Text × List Text) (words : List Text)
    → walk_passes s ns (record w { stopped = Some p }) words ≡ true
unfolding walk_passes walked
stopped_passes s ns w p [] = refl
stopped_passes s ns w p (x ∷ xs) = stopped_passes s ns w (p.0, p.1 ++ x ∷ []) xs

-- the words ask for a command, of a seed that the line takes
abbrev pub AskSome : List Text → Type 0
AskSome words = (command : Command) × Asks words command × HasSmallSeed command

-- ---- the table

-- a subcommand is found by its name as in the table
finds : (rest : List Shape) (word : Text) (rows : List (Text × Maker))
    → find (λ s. answers_to word (label_of s)) (map (λ row. sub_of row.0 row.1) rows ++ rest)
    ≡ option_map_or (λ maker. Some (sub_of word maker)) (lookup (λ verb. bytes_eq verb word) rows)
    (find (λ s. answers_to word (label_of s)) rest)
finds rest word [] = refl
finds rest word (row ∷ rows) = go (bytes_eq row.0 word) refl (finds rest word rows)
  where
    go : (b : Bool) → bytes_eq row.0 word ≡ b
        → find (λ s. answers_to word (label_of s)) (map (λ row. sub_of row.0 row.1) rows ++ rest)
        ≡ option_map_or (λ maker. Some (sub_of word maker))
        (lookup (λ verb. bytes_eq verb word) rows)
        (find (λ s. answers_to word (label_of s)) rest)
        → find (λ s. answers_to word (label_of s))
        (map (λ row. sub_of row.0 row.1) (row ∷ rows) ++ rest)
        ≡ option_map_or (λ maker. Some (sub_of word maker))
        (lookup (λ verb. bytes_eq verb word) (row ∷ rows))
        (find (λ s. answers_to word (label_of s)) rest)
    go true e more = rw e (ap (λ verb. Some (sub_of verb row.1))
        ((bytes_eq-Decides row.0 word).0 e))
    go false e more = rw e more

-- each row is good
abbrev AreGood : List (Text × Maker) → Type 0
AreGood [] = ⊤
AreGood (row ∷ rows) = IsGood row.1 × AreGood rows

good_row : (word : Text) (maker : Maker) (rows : List (Text × Maker)) → AreGood rows
    → lookup (λ verb. bytes_eq verb word) rows ≡ Some maker → IsGood maker
good_row word maker [] good e = absurd (some_not_none maker (sym e))
good_row word maker (row ∷ rows) good e =
    go (bytes_eq row.0 word) e (good_row word maker rows good.1)
  where
    go : (b : Bool) → cond b (Some row.1) (lookup (λ verb. bytes_eq verb word) rows) ≡ Some maker
        → (lookup (λ verb. bytes_eq verb word) rows ≡ Some maker → IsGood maker) → IsGood maker
    go true e more = subst IsGood (ap (λ o. unwrap_or o maker) e) good.0
    go false e more = more e

all_good : AreGood subcommands
all_good = (
  (tt, λ given. tt),
  (
    (refl, λ given. tt),
    (
      λ n small. small,
      (
        (refl, λ given. tt),
        (
          ((refl, refl, refl), λ given. tt),
          (
            (refl, λ given. tt),
            (
              (tt, λ given. tt),
              ((refl, λ given. tt), ((refl, λ given. tt), (((refl, refl, refl), λ given. tt), tt))),
            ),
          ),
        ),
      ),
    ),
  ),
)

-- a verb of the table, and the subcommand that it names
module _ (verb : Text) (maker : Maker)
    (listed : lookup (λ word. bytes_eq word verb) subcommands ≡ Some maker) where
  abbrev sub : Shape
  sub = sub_of verb maker

  named : find (λ s. answers_to verb (label_of s)) (built sfm_line).subs ≡ Some sub
  named = finds (help_sub ∷ []) verb subcommands
      ∙ ap (λ o. option_map_or (λ maker. Some (sub_of verb maker)) o
      (find (λ s. answers_to verb (label_of s)) (help_sub ∷ []))) listed

  met : subcommand_met names idle verb ≡ Some verb
  met = ap (λ o. option_map (λ (p : Text × List Text). p.0) o)
      (sym (find-map (answers_to verb) label_of (built sfm_line).subs)
      ∙ ap (λ o. option_map label_of o) named)

  no_topic : bytes_eq verb (codes "help") ≡ false
  no_topic = go (bytes_eq verb (codes "help")) refl
    where
      go : (b : Bool) → bytes_eq verb (codes "help") ≡ b → b ≡ false
      go false e = refl
      go true e = absurd (some_not_none maker
          (sym listed ∙ ap (λ v. lookup (λ word. bytes_eq word v) subcommands)
          ((bytes_eq-Decides verb (codes "help")).0 e)))

  first : walked top.rules names (walk_from nothing_held) verb ≡ met_with verb []
  unfolding walked
  first = rw met refl

  passes : turn_passes top names (walk_from nothing_held) verb ≡ true
  passes = rw (met, no_topic) refl

  walk_is : (words : List Text) → fold (walked top.rules names) (walk_from nothing_held)
      (verb ∷ words) ≡ met_with verb words
  walk_is words = ap (λ w. fold (walked top.rules names) w words) first
      ∙ sym (walk_stopped top.rules names (at [] None 1 false) verb [] words)

  stop_is : (words : List Text) → (fold (walked top.rules names) (walk_from nothing_held)
      (verb ∷ words)).stopped ≡ Some (verb, words)
  stop_is words = ap (λ (w : Walk). w.stopped) (walk_is words)

  fault_below : (words : List Text) → fault_of sfm_line (verb ∷ words) ≡ []
      → IsFree sub (at [] None 1 false) words
  fault_below words e =
      let entering = ap (λ stop. entered_fault (built sfm_line) stop) (stop_is words)
      ∙ ap (λ o. option_map_or (λ (s : Shape). level_fault s [] nothing_held words false []) o
      []) named in
      let below : level_fault sub [] nothing_held words false [] ≡ [] =
      sym entering
      ∙ (none_of _ _ (none_of (walk_fault top names (walk_from nothing_held) (verb ∷ words)) _
      e).1).0 in
      let parts = none_of (walk_fault sub [] (walk_from nothing_held) words) _ below in
      record { walk = parts.0; end = parts.1 }

  entered_is : (words : List Text)
      → entered (built sfm_line) (fold (walked top.rules names) (walk_from nothing_held)
      (verb ∷ words)).stopped ≡ Some (rows_at sub words)
  entered_is words = ap (λ stop. entered (built sfm_line) stop) (stop_is words)
      ∙ ap (λ o. option_map (λ (s : Shape). rows_at s words) o) named

  top_passes : (words : List Text) → level_passes top names nothing_held (verb ∷ words) true ≡ true
  unfolding walk_passes
  top_passes words =
      let rest : walk_passes top names (walked top.rules names (walk_from nothing_held) verb)
      words ≡ true =
      ap (λ w. walk_passes top names w words) first ∙ stopped_passes top names (at [] None 1 false)
      (verb, []) words in
      let end : (fold (walked top.rules names)
      (walked top.rules names (walk_from nothing_held) verb) words).held
      ≡ nothing_held = ap (λ (w : Walk). w.held) (walk_is words) in
      rw (passes, rest, end) refl

  -- words that reach a command ask for it
  pub asks : (words : List Text) (command : Command)
      → Reaches sub (at [] None 1 false) words command → Asks (verb ∷ words) command
  asks words command r =
      let level : level_passes sub [] nothing_held words false ≡ true = rw (r.walk, r.end.passes)
      refl in
      let below : entered_passes (built sfm_line)
      (fold (walked top.rules names) (walk_from nothing_held) (verb ∷ words)).stopped ≡ true =
      ap (λ stop. entered_passes (built sfm_line) stop) (stop_is words)
      ∙ ap (λ o. option_map_or (λ (s : Shape). level_passes s [] nothing_held words false) o true)
      named ∙ level in
      let above : level_passes top names nothing_held (verb ∷ words)
      (is_some (entered (built sfm_line)
      (fold (walked top.rules names) (walk_from nothing_held) (verb ∷ words)).stopped)) ≡ true =
      ap (λ o. level_passes top names nothing_held (verb ∷ words) (is_some o)) (entered_is words)
      ∙ top_passes words in
      (rw (below, above) refl, ap (option_and_then command_by) (entered_is words) ∙ r.end.found)

  verb_words : Handles sub [] None 1 ⊤ (PlainWords maker)
  verb_words = handles_words verb maker listed (good_row verb maker subcommands all_good listed)

  -- so do words with no fault
  verb_asks : (words : List Text) → fault_of sfm_line (verb ∷ words) ≡ [] → AskSome (verb ∷ words)
  verb_asks words e =
      let (command, r) = verb_words.free false words (fault_below words e) in
      (command, asks words command r, r.end.small)

  -- and plain words
  plain_asks : (words : List Text) (command : Command) → PlainWords maker words command
      → Asks (verb ∷ words) command
  plain_asks words command is = asks words command (verb_words.plain tt words command is)

-- ---- the first word

no_help : (words : List Text) → fault_of sfm_line (codes "help" ∷ words) ≡ [] → ⊥
unfolding walk_fault
no_help words e = not_none _ _ e

no_dashes : (words : List Text) → fault_of sfm_line (dashes ∷ words) ≡ [] → ⊥
unfolding walk_fault walked defaults_fault
no_dashes [] e = not_none _ _ e
no_dashes (word ∷ words) e = not_none _ _ e

top_helps : HasHelpOnly top.rules
top_helps = has_help_only _ (λ name. refl) (λ x. refl)

no_other : (word : Text) (words : List Text) → subcommand_met names idle word ≡ None
    → fault_of sfm_line (word ∷ words) ≡ [] → ⊥
unfolding walk_fault
no_other word words met e =
    let turn : turn_fault top names (at [] None 1 false)
    word ≡ [] = (none_of _ _ (none_of
    (walk_fault top names (walk_from nothing_held) (word ∷ words)) _ e).0).0 in
    elim (dashes_or_value top names [] None 1 word top_helps met turn) [
      | inl is ↦ no_dashes words (subst (λ w. fault_of sfm_line (w ∷ words) ≡ []) is e)
      | inr is ↦ not_none _ _ (value_fault top names word met is [] None 1 turn)
    ]

-- where clap finds no fault, it takes the words, and they ask for a command
pub reads : (words : List Text) → fault_of sfm_line words ≡ [] → AskSome words
unfolding walk_fault defaults_fault
reads [] e = absurd (not_none _ _ e)
reads (word ∷ words) e = go (lookup (λ verb. bytes_eq verb word) subcommands)
    (bytes_eq (codes "help") word) refl refl
  where
    go : (o : Option Maker) (b : Bool) → lookup (λ verb. bytes_eq verb word) subcommands ≡ o
        → bytes_eq (codes "help") word ≡ b → AskSome (word ∷ words)
    go (Some maker) b listed at_b = verb_asks word maker listed words e
    go None true none is =
        absurd (no_help words (subst (λ w. fault_of sfm_line (w ∷ words) ≡ [])
        (sym ((bytes_eq-Decides (codes "help") word).0 is)) e))
    go None false none is_not =
        let found : find (λ s. answers_to word (label_of s)) (built sfm_line).subs ≡ None =
        finds (help_sub ∷ []) word subcommands
        ∙ ap (λ o. option_map_or (λ maker. Some (sub_of word maker)) o
        (find (λ s. answers_to word (label_of s)) (help_sub ∷ []))) none ∙ rw is_not refl in
        absurd (no_other word words (ap (λ o. option_map (λ (p : Text × List Text). p.0) o)
        (sym (find-map (answers_to word) label_of (built sfm_line).subs)
        ∙ ap (λ o. option_map label_of o) found)) e)

-- ---- the plain forms

name_is_plain : (name : Text) → IsFileName name → IsPlain NonEmptyString name
name_is_plain [] is = absurd (omega (arith, is.0))
name_is_plain (x ∷ xs) is = go (x == 45) refl
  where
    go : (b : Bool) → (x == 45) ≡ b → IsPlain NonEmptyString (x ∷ xs)
    go true e = absurd (is.1 ((Decides-eqb x 45).0 e))
    go false e = record {
      is = record {
        apart = rw e refl;
        long = rw e refl;
        short = λ flags at. absurd (some_not_none flags (sym at ∙ rw e refl));
      };
      taken = some_word x xs;
    }

seed_is_plain : (make : ℕ → Command) (text : Text) (seed : ℕ) → IsSeed text seed
    → IsPlain (Unsigned 0 999999999) text × (make (value_of text) ≡ make seed)
seed_is_plain make [] seed is = absurd (omega (arith, is.0))
seed_is_plain make (x ∷ xs) seed is =
    let first = digit_from_value x is.2.0 in
    let below : digits_value 10 (x ∷ xs) < 10 ^ 9 = omega (
      arith,
      digits_value-lt 10 (x ∷ xs) is.2,
      pow-le-pow_right {n = 10} (omega arith) is.1,
    ) in
    let unsigned : without_leading_plus (x ∷ xs) ≡ x ∷ xs =
    without_leading_plus_none (x ∷ xs) (λ e. omega (arith, first, e)) in
    let numeral : is_numeral (x ∷ xs) ≡ true = numeral_told (x ∷ xs) (is.0, is.2) in
    let fits : nat_lt (digits_value 10 (x ∷ xs)) (2 ^ 64) ≡ true = lt-ltb _ _
    (omega (arith, below)) in
    let large : nat_le 0 (digits_value 10 (x ∷ xs)) ≡ true = le-leb _ _ (omega arith) in
    let small : nat_le (digits_value 10 (x ∷ xs)) 999999999 ≡ true =
    le-leb _ _ (omega (arith, below)) in (
      record {
        is = (name_is_plain (x ∷ xs) (omega arith, λ e. omega (arith, first, e))).is;
        taken = rw (unsigned, numeral, fits, large, small) refl;
      },
      rw unsigned (ap make is.3),
    )

names_are_plain : (names : List Text) (make : List Text → Command) (words : List Text)
    (command : Command)
    → length words ≡ length names → All IsFileName words → make words ≡ command
    → PlainNames names make words command
names_are_plain [] make [] command size all made = made
names_are_plain [] make (x ∷ words) command size all made = absurd (omega (arith, size))
names_are_plain (a ∷ names) make [] command size all made = absurd (omega (arith, size))
names_are_plain (a ∷ names) make (x ∷ words) command size all made = (
  name_is_plain x (All-head IsFileName x words all),
  names_are_plain names (λ texts. make (x ∷ texts)) words command (omega (arith, size))
      (All-tail IsFileName x words all) made,
)

-- words of the plain form of a subcommand are plainly those behind its own
plain_words : (maker : Maker) (words : List Text) (command : Command)
    → IsPlainFor maker words command
    → PlainWords maker words command
plain_words (files names make) words command (size, all, made) =
    names_are_plain names (made_by make) words command size all made
plain_words (number a make) words command (x, seed, is, s, made) =
    let (plain, same) = seed_is_plain make x seed s in
    rw is (plain, same ∙ made)

pub form_asks : (words : List Text) (command : Command) → IsForm words command
    → Asks words command
form_asks words command (verb, maker, behind, is, listed, plain) =
    subst (λ v. Asks v command) (sym is)
    (plain_asks verb maker listed behind command (plain_words maker behind command plain))

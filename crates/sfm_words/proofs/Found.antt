-- What the getters of clap's matches give, by the rows.
use Rattle.std.proofs.Common.{true≢false, ap₂, ◌≡◌, ◌≤◌, ◌∙◌, ℕ, List, [], Bool, Result, Ok, Err, IsErrAnd, IfErr, MatchResult, IfOk, rules, true, false, subst, refl, sym, ap, Some, None, Option, option_map, option_and_then}
use Rattle.std.specs.Option.{is_some, ok_or, unwrap_or}
use Rattle.std.specs.Prelude.{Box}
use Rattle.std.specs.Box.{box_value}
use Rattle.clap.specs.Words.{Row, Text, subcommand_name_of, subcommand_rows, subcommand_rows_of}
use Rattle.clap.specs.declared.parser.matches.ArgMatches.{ArgMatches}
use Rattle.clap.specs.declared.parser.matches.SubCommand.{SubCommand}
use Rattle.clap.specs.declared.parser.matches.ArgMatches.TheViews.{out-ArgMatches, out-SubCommand}
use Rattle.clap.specs.Words.{App, HasMatchesOf, fault_of, takes}
use Rattle.clap.specs.declared.error.kind.ErrorKind.{ErrorKind}
use Rattle.clap.specs.declared.error.kind.ErrorKind.TheVariants.{OutOfMemory}
use Rattle.sfm_words.specs.Line.{sfm_line}
use Rattle.sfm_words.specs.Command.{Asks, Command, IsForm, IsToldAs, command_by, command_of, demo}
use Rattle.sfm_words.specs.declared.command.Command.{Command as Read}
use Rattle.sfm_words.specs.declared.command.Refusal.{Refusal}
use Rattle.sfm_words.specs.declared.command.Refusal.TheVariants.{Memory, Usage}
use Rattle.sfm_words.proofs.Levels.{HasSmallSeed}
use Rattle.sfm_words.proofs.Lines.{AskSome, form_asks, reads}

some_not_none : {X : Type 0} (x : X) → Some x ≡ None → ⊥
some_not_none x e = true≢false (ap (λ o. is_some o) e)

module _ {Z : Type 0} where
  by_parts : (o : Option (Box SubCommand Z)) (verb : Text) (rows : List Row)
      → Some verb ≡ option_map (λ b. (out-SubCommand (box_value b)).name.now) o
      → Some rows ≡ option_map (λ p. p.1) (subcommand_rows o)
      → subcommand_rows o ≡ Some (verb, rows)
  by_parts None verb rows named held = absurd (some_not_none verb named)
  by_parts (Some b) verb rows named held =
      ap₂ (λ v rs. Some (v, rs)) (sym (ap (λ o. unwrap_or o verb) named))
      (sym (ap (λ o. unwrap_or o rows) held))

  by_none : (o : Option (Box SubCommand Z))
      → None ≡ option_map (λ b. (out-SubCommand (box_value b)).name.now) o
      → subcommand_rows o ≡ None
  by_none None e = refl
  by_none (Some b) e = absurd (some_not_none _ (sym e))

-- a subcommand that was found, by its name and its rows
pub found_is : (m : ArgMatches) (verb : Text) (rows : List Row) → Some verb ≡ subcommand_name_of m
    → Some rows ≡ option_map (λ p. p.1) (subcommand_rows_of m)
    → subcommand_rows_of m ≡ Some (verb, rows)
found_is m = by_parts (out-ArgMatches m).subcommand

pub none_found : (m : ArgMatches) → None ≡ subcommand_name_of m → subcommand_rows_of m ≡ None
none_found m = by_none (out-ArgMatches m).subcommand

-- ---- what a parse comes to

-- the command that was found, or that is the answer, is one that the words ask for, of a seed that
-- the line takes
abbrev pub IsFound : List Text → Option Read → Type 0
IsFound words found = (read : Read) × (found ≡ Some read) × Asks words (command_of read)
    × HasSmallSeed (command_of read)

abbrev pub IsAnswer : List Text → Result Read Refusal → Type 0
IsAnswer words r = (read : Read) × (r ≡ Ok read) × Asks words (command_of read)
    × HasSmallSeed (command_of read)

-- the command that was found, of words with no fault
pub read_is : (words : List Text) (m : ArgMatches) (found : Option Read)
    → fault_of sfm_line words ≡ [] → HasMatchesOf sfm_line words m
    → option_map command_of found ≡ option_and_then command_by (subcommand_rows_of m)
    → IsFound words found
read_is words m found no_fault matches by = go found same
  where
    some : AskSome words
    some = reads words no_fault

    same : option_map command_of found ≡ Some some.0
    same = by ∙ ap (option_and_then command_by) (matches refl).1 ∙ some.1.1

    go : (o : Option Read) → option_map command_of o ≡ Some some.0 → IsFound words o
    go None e = absurd (some_not_none some.0 (sym e))
    go (Some read) e = (
      read,
      refl,
      (some.1.0, some.1.1 ∙ sym e),
      subst HasSmallSeed (sym (ap (λ o. unwrap_or o some.0) e)) some.2,
    )

pub answered : (words : List Text) (found : Option Read) (r : Result Read Refusal)
    → r ≡ ok_or found Usage → IsFound words found → IsAnswer words r
answered words found r is some = (some.0, is ∙ ap (λ o. ok_or o Usage) some.1, some.2, some.3)

pub answer_asks : (words : List Text) (r : Result Read Refusal) → IsAnswer words r
    → IfOk r (λ read. Asks words (command_of read))
answer_asks words r some = subst (λ r. IfOk r (λ read. Asks words (command_of read))) (sym some.1)
    some.2

pub answer_is_small : (words : List Text) (r : Result Read Refusal) → IsAnswer words r
    → IfOk r (λ read. (seed : ℕ) → command_of read ≡ demo seed → seed ≤ 999999999)
answer_is_small words r some =
    subst (λ r. IfOk r (λ read. (seed : ℕ) → command_of read ≡ demo seed → seed ≤ 999999999))
    (sym some.1) (λ seed is. subst HasSmallSeed is some.3)

pub answer_is_no_refusal : (words : List Text) (r : Result Read Refusal) (P : Refusal → Type 0)
    → IsAnswer words r → IfErr r P
answer_is_no_refusal words r P some = subst (λ r. IfErr r P) (sym some.1) tt

-- words ask for at most one command
pub answer_is_form : (words : List Text) (r : Result Read Refusal) → IsAnswer words r
    → (command : Command) → IsForm words command
    → MatchResult r (λ read. command_of read ≡ command) (λ refusal. refusal ≡ Memory)
answer_is_form words r some command form =
    let one : command_of some.0 ≡ command = ap (λ o. unwrap_or o command)
    (sym some.2.1 ∙ (form_asks words command form).1) in
    subst (λ r. MatchResult r (λ read. command_of read ≡ command) (λ refusal. refusal ≡ Memory))
    (sym some.1) one

not_true : (b : Bool) → (b ≡ true → ⊥) → b ≡ false
not_true true h = absurd (h refl)
not_true false h = refl

-- ---- what a refusal tells

memory_is_no_usage : Memory ≡ Usage → ⊥
memory_is_no_usage e = search rules

module _ (line : App) (words : List Text) (kind : ErrorKind) (is : line ≡ sfm_line)
    (passes : takes line words ≡ true → kind ≡ OutOfMemory) where
  -- words that clap takes are refused only for want of memory
  memory_of : (refusal : Refusal) → IsToldAs kind refusal → takes sfm_line words ≡ true
      → refusal ≡ Memory
  memory_of Memory told taken = refl
  memory_of Usage told taken = absurd (told (passes (ap (λ a. takes a words) is ∙ taken)))

  pub taken_for_memory : {X : Type 0} (r : Result X Refusal) → IsErrAnd r (IsToldAs kind)
      → IfErr r (λ refusal. takes sfm_line words ≡ true → refusal ≡ Memory)
  taken_for_memory (Ok x) told = tt
  taken_for_memory (Err refusal) told = memory_of refusal told

-- a refusal that comes of no words that clap takes, but for want of memory
module _ (words : List Text) (told : Refusal)
    (is : takes sfm_line words ≡ true → told ≡ Memory) where
  pub usage_is_not_taken : (r : Result Read Refusal) → IsErrAnd r (λ refusal. refusal ≡ told)
      → IfErr r (λ refusal. refusal ≡ Usage → takes sfm_line words ≡ false)
  usage_is_not_taken (Ok read) e = tt
  usage_is_not_taken (Err refusal) e =
      λ usage. not_true _ (λ taken. memory_is_no_usage (sym (e ∙ is taken) ∙ usage))

  pub form_is_no_usage : (r : Result Read Refusal) → IsErrAnd r (λ refusal. refusal ≡ told)
      → (command : Command) → IsForm words command
      → MatchResult r (λ read. command_of read ≡ command) (λ refusal. refusal ≡ Memory)
  form_is_no_usage (Ok read) e command form = absurd e
  form_is_no_usage (Err refusal) e command form = e ∙ is (form_asks words command form).0

-- The words that ask for a command.
use Rattle.std.specs.Prelude.{◌≡◌, ◌≢◌, ◌<◌, ◌≤◌, ◌^◌, ◌&&◌, ℕ, List, [], ◌∷◌, true, false, All, Option, Some, None, if◌then◌else◌, length, get_or, slice_index, nat_lt, option_map, option_and_then}
use Rattle.std.specs.Map.{lookup}
use Rattle.std.specs.Str.{bytes_eq}
use Rattle.std.specs.Str.Parse.{AllDigits, digits_value, without_leading_plus}
use Rattle.clap.specs.ValueTests.{is_numeral}
use Rattle.clap.specs.Words.{Row, Text, first_of, one_of, subcommand_of, takes}
use Rattle.clap.specs.declared.error.kind.ErrorKind.{ErrorKind}
use Rattle.clap.specs.declared.error.kind.ErrorKind.TheVariants.{OutOfMemory}
use Rattle.sfm_words.specs.Line.{sfm_line}
use Rattle.sfm_words.specs.Subcommand.{Maker, subcommands}
pub use Rattle.sfm_words.specs.Subcommand.{Command, solve, check, demo, weigh, weighed, ask, level, edit, meet, met, files, number}
use Rattle.sfm_words.specs.declared.command.Command.{Command as Read}
use Rattle.sfm_words.specs.declared.command.Command.TheVariants.{Solve as ReadSolve, Check as ReadCheck, Demo as ReadDemo, Weigh as ReadWeigh, Weighed as ReadWeighed, Ask as ReadAsk, Level as ReadLevel, Edit as ReadEdit, Meet as ReadMeet, Met as ReadMet}
use Rattle.sfm_words.specs.declared.command.Refusal.{Refusal}
use Rattle.sfm_words.specs.declared.command.Refusal.TheVariants.{Memory, Usage}

-- the command that was read
abbrev pub command_of : Read → Command
command_of (ReadSolve file) = solve file.now
command_of (ReadCheck file answer) = check file.now answer.now
command_of (ReadDemo seed) = demo seed
command_of (ReadWeigh file sizes) = weigh file.now sizes.now
command_of (ReadWeighed file sizes answer) = weighed file.now sizes.now answer.now
command_of (ReadAsk file pins) = ask file.now pins.now
command_of (ReadLevel file) = level file.now
command_of (ReadEdit file edits) = edit file.now edits.now
command_of (ReadMeet left right) = meet left.now right.now
command_of (ReadMet left right answer) = met left.now right.now answer.now

-- ---- what clap finds in the words

-- the number of a text of decimal digits, behind at most one plus sign, below 2^64
abbrev pub parsed_number : Text → Option ℕ
parsed_number text =
    let digits = without_leading_plus text in
    if is_numeral digits && nat_lt (digits_value 10 digits) (2 ^ 64) then Some (digits_value 10 digits) else None

-- the texts of the arguments of these names, where each of them has one
abbrev pub texts_given : List Text → List Row → Option (List Text)
texts_given [] rows = Some []
texts_given (name ∷ names) rows = option_and_then (λ text. option_map (λ texts. text ∷ texts) (texts_given names rows)) (first_of name rows)

-- the command that the matches of a subcommand make
abbrev pub made_of : Maker → List Row → Option Command
made_of (files names make) rows = option_map (λ texts. make (λ i. get_or texts i [])) (texts_given names rows)
made_of (number name make) rows = option_map make (option_and_then parsed_number (one_of name rows))

-- the command that a subcommand is, by its name and its matches
abbrev pub command_by : Text × List Row → Option Command
command_by found = option_and_then (λ maker. made_of maker found.1)
    (lookup (λ verb. bytes_eq verb found.0) subcommands)

-- clap takes the words, and its matches of them are the command
abbrev pub Asks : List Text → Command → Type 0
Asks words command = (takes sfm_line words ≡ true) × (option_and_then command_by (subcommand_of sfm_line words) ≡ Some command)

-- clap does not take the words
abbrev pub IsNotTaken : List Text → Type 0
IsNotTaken words = takes sfm_line words ≡ false

-- an error of this kind ends as this refusal: only want of memory as such
abbrev pub IsToldAs : ErrorKind → Refusal → Type 0
IsToldAs kind Memory = kind ≡ OutOfMemory
IsToldAs kind Usage = kind ≢ OutOfMemory

-- ---- the plain forms of a command

-- a name of a file: not empty, and not beginning with `-`
abbrev pub IsFileName : Text → Type 0
IsFileName name = (0 < length name) × (slice_index name 0 ≢ 45)

-- the text of a seed: 1 to 9 decimal digits, of its value in base ten
abbrev pub IsSeed : Text → ℕ → Type 0
IsSeed text seed = (0 < length text) × (length text ≤ 9) × AllDigits 10 text × (digits_value 10 text ≡ seed)

-- words behind that of a subcommand that are names of files, one for each argument, or a seed, and the command that they make
abbrev pub IsPlainFor : Maker → List Text → Command → Type 0
IsPlainFor (files names make) words command = (length words ≡ length names) × All IsFileName words × (make (λ i. get_or words i []) ≡ command)
IsPlainFor (number name make) words command = (x : Text) × (seed : ℕ) × (words ≡ x ∷ []) × IsSeed x seed × (make seed ≡ command)

-- the words are that of a subcommand, and behind it what it takes
abbrev pub IsForm : List Text → Command → Type 0
IsForm words command = (verb : Text) × (maker : Maker) × (behind : List Text) × (words ≡ verb ∷ behind)
    × (lookup (λ word. bytes_eq word verb) subcommands ≡ Some maker) × IsPlainFor maker behind command

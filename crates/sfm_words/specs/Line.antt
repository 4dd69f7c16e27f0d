-- The command line of the program, as what clap reads of it.
use Rattle.std.specs.Prelude.{List, [], ◌∷◌, Some, codes, fold, map, true}
use Rattle.clap.specs.declared.builder.value_parser.ValueParser.{ValueParser}
use Rattle.clap.specs.declared.builder.value_parser.ValueParser.TheVariants.{NonEmptyString, Unsigned}
use Rattle.clap.specs.Words.{App, Rule, Text, new_app, new_rule, with_subcommand}
use Rattle.sfm_words.specs.Subcommand.{Maker, files, number, subcommands}

-- an argument of one word, which has to be there and to be of a form
abbrev pub word_rule : ValueParser → Text → Rule
word_rule form id = record (new_rule id) { required = true; parser = Some form }

-- the arguments of a subcommand: names, none of them empty, or a whole number from 0 to 999,999,999
abbrev pub rules_of : Maker → List Rule
rules_of (files names make) = map (word_rule NonEmptyString) names
rules_of (number name make) = word_rule (Unsigned 0 999999999) name ∷ []

-- a subcommand, with its arguments in order
abbrev pub app_of : Text × Maker → App
app_of subcommand = record (new_app subcommand.0) {
  top = record (new_app subcommand.0).top { rules = rules_of subcommand.1 };
}

-- a program of which a subcommand has to be called; its words begin after its name
abbrev pub program : App
program = record (new_app (codes "sfm")) { top = record (new_app (codes "sfm")).top { no_binary_name = true; subcommand_required = true } }

-- the command line: the program with its subcommands in order
abbrev pub sfm_line : App
sfm_line =
    fold (λ line subcommand. with_subcommand line (app_of subcommand).top) program subcommands

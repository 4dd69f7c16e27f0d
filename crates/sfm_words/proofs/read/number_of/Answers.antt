use Rattle.std.proofs.Common.{◌∙◌, ap}
use Rattle.std.specs.Prelude.{option_and_then}
use Rattle.std.specs.Str.Parse.{ParsesUnsigned, ExplainsUnsignedError, HasUnsignedDigitsIfOk}
use Rattle.clap.specs.Words.{found_of, one_text}
use Rattle.clap.proofs.WalkLemmas.{one_text-rows}
use Rattle.sfm_words.specs.Command.{parsed_number}
use Rattle.sfm_words.proofs.Numbers.{number_is}
use Rattle.sfm_words.proofs.read.number_of.Goals as goal

pub returns : goal.returns
returns c =
    number_is (λ bs r. ParsesUnsigned 64 10 bs r × ExplainsUnsignedError 10 bs r
    × HasUnsignedDigitsIfOk bs r) (λ text r told. told.0)
    (one_text (found_of c.args.found.now) c.args.id.now) c.get_one.result c.get_one.ensures.none
    c.get_one.ensures.value
    ∙ ap (option_and_then parsed_number) (one_text-rows (found_of c.args.found.now) c.args.id.now)

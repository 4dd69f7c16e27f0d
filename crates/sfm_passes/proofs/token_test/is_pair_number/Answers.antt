use Rattle.sfm_lines.specs.ReadParts.{IsNumberOf}
use Rattle.sfm_lines.specs.declared.word.TermWord.TheVariants.{WeightWord}
use Rattle.sfm_passes.proofs.LongNames.{pair-by}
use Rattle.sfm_passes.proofs.token_test.is_pair_number.Goals as goal

pub returns-in-Some : goal.returns-in-Some
returns-in-Some c = pair-by c.args.token.now _ c.in-Some.ensures
    (λ pair. IsNumberOf c.args.instance.now.version WeightWord pair.1) c.is_number_of.result
    c.is_number_of.ensures

pub returns-in-None : goal.returns-in-None
returns-in-None c = λ (pair, h, more). c.in-None.ensures pair h

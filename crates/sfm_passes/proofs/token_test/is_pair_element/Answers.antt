use Rattle.sfm_lines.specs.ReadParts.{IsKnown}
use Rattle.sfm_passes.proofs.LongNames.{pair-by}
use Rattle.sfm_passes.proofs.token_test.is_pair_element.Goals as goal

pub returns-in-Some : goal.returns-in-Some
returns-in-Some c = pair-by c.args.token.now _ c.in-Some.ensures
    (λ pair. IsKnown c.args.instance.now.names pair.0) c.is_known.result c.is_known.ensures

pub returns-in-None : goal.returns-in-None
returns-in-None c = λ (pair, h, more). c.in-None.ensures pair h

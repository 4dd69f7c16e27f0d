use Rattle.std.proofs.lemmas.Result.{IfOk-weaker}
use Rattle.sfm_lines.specs.ReadParts.{parts_of}
use Rattle.sfm_lines.proofs.SplitLines.{colon-counted}
use Rattle.sfm_lines.proofs.line_parts.colon_parts.Goals as goal

pub returns : goal.returns
returns c = IfOk-weaker c.counted_parts.result _ _
    (λ r h. colon-counted parts_of c.args.word c.args.tokens.now c.in-Some.numbers.now
    c.in-Some.elements.now c.in-Some.ensures r h) c.counted_parts.ensures

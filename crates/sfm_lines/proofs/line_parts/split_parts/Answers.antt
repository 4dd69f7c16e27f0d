-- Tokens that are enough and have no separator are such a line where their counts are those of one.
use Rattle.std.proofs.lemmas.Result.{IfOk-weaker}
use Rattle.sfm_lines.specs.Lines.{texts_of}
use Rattle.sfm_lines.specs.ReadParts.{parts_of}
use Rattle.sfm_lines.proofs.SplitLines.{split-counted, split-few, split-marked}
use Rattle.sfm_lines.proofs.line_parts.split_parts.Goals as goal
use Rattle.sfm_lines.proofs.line_parts.split_parts.Goals.{then-tokens-count-via-then-tokens-count, then-tokens-count-via-else-tokens-count+then-has_separator}

pub returns-then-tokens-count : goal.returns-then-tokens-count
returns-then-tokens-count c = λ parts h. elim c.then-tokens-count.branch [
  | then-tokens-count-via-then-tokens-count w ↦ split-few c.args.word c.args.count c.args.tokens.now
      w.if-tokens-count.true parts h
  | then-tokens-count-via-else-tokens-count+then-has_separator w ↦ split-marked c.args.word
      c.args.count (texts_of c.args.tokens.now) w.if-has_separator.ensures parts h
]

pub returns : goal.returns
returns c = IfOk-weaker c.counted_parts.result _ _
    (λ r h. split-counted parts_of c.args.word c.args.count c.args.tokens.now
    c.if-tokens-count.false c.if-has_separator.ensures r h) c.counted_parts.ensures

-- A rank line is refused by its shape first, then by what stands in the place of a weight, and then
-- as without weights.
use Rattle.std.proofs.Common.{ℤ}
use Rattle.std.specs.List.{All}
use Rattle.sfm_lines.specs.Lines.{tokens_of}
use Rattle.sfm_lines.specs.Weights.{IsWeightText}
use Rattle.sfm_text.specs.Weighed.{IsPastShape}
use Rattle.sfm_text.proofs.SaidLines.{refused-wrong, kept-refused, kept-read}
use Rattle.sfm_text.proofs.added.read_weighed.Goals as goal
use Rattle.sfm_text.proofs.added.read_weighed.Goals.{else-is_past_shape-via-then-is_past_shape+else-not-are_weights, else-is_past_shape-via-else-is_past_shape}

pub returns-then-not-are_weights-clause-refused : goal.returns-then-not-are_weights-clause-refused
returns-then-not-are_weights-clause-refused c =
    let (entries, cut) = c.requires.plain in
    refused-wrong c.args.instance.now (tokens_of c.args.rest.now) (tokens_of c.args.plain.now)
    entries c.requires.version cut c.read_behind-read.result c.read_behind-read.ensures.read
    c.read_behind-read.ensures.refused
    c.if-is_past_shape.ensures (c.if-not-are_weights.ensures (tokens_of c.args.plain.now) entries
    cut)

right-past : (c : goal.Joined-else-is_past_shape) → IsPastShape c.read_behind-read.result
    → All (λ entry. (value : ℤ) × IsWeightText entry.1 value) c.requires.plain.0
right-past c past = elim c.else-is_past_shape.branch [
  | else-is_past_shape-via-then-is_past_shape+else-not-are_weights w ↦ w.if-not-are_weights.ensures
      (tokens_of c.args.plain.now) c.requires.plain.0 c.requires.plain.1
  | else-is_past_shape-via-else-is_past_shape w ↦ absurd (w.if-is_past_shape.ensures past)
]

pub returns-clause-read : goal.returns-clause-read
returns-clause-read c =
    kept-read c.args.instance.now (tokens_of c.args.rest.now) (tokens_of c.args.plain.now)
    c.requires.plain.0 c.requires.version c.requires.plain.1 c.read_behind-read.result
    c.read_behind-read.ensures.read (right-past c)

pub returns-clause-refused : goal.returns-clause-refused
returns-clause-refused c =
    kept-refused c.args.instance.now (tokens_of c.args.rest.now) (tokens_of c.args.plain.now)
    c.requires.plain.0 c.requires.version c.requires.plain.1 c.read_behind-read.result
    c.read_behind-read.ensures.refused (right-past c)

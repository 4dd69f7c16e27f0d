use Rattle.std.proofs.Common.{refl}
use Rattle.std.proofs.lemmas.Bool.{false≢true}
use Rattle.sfm_lines.proofs.line_parts.counted_parts.Goals as goal

pub returns-then-not-are_counts : goal.returns-then-not-are_counts
returns-then-not-are_counts c = λ count. false≢true (c.if-not-are_counts.ensures.1 count)

pub returns : goal.returns
returns c = (c.if-not-are_counts.ensures.0 refl, c.in_ok-parts.ensures)

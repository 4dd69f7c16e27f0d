-- a count has a first digit, which is 1 to 9, and where it is at most 10^30 no more than 31 digits
use Rattle.std.proofs.Common.{sym, ◌∙◌, arith}
use Rattle.std.proofs.lemmas.Bool.{eqb-true}
use Rattle.sfm_base.proofs.NumberText.{count_short, count_nonempty}
use Rattle.sfm_base.proofs.number_text.read_count.Goals as goal
use Rattle.sfm_base.proofs.number_text.read_count.Goals.{then-is_empty-via-then-is_empty, then-is_empty-via-else-is_empty+then-digits-lt49, then-is_empty-via-else-is_empty+else-digits-lt49+then-digits-gt-MOST_DIGITS}

pub returns-then-is_empty-clause-value : goal.returns-then-is_empty-clause-value
returns-then-is_empty-clause-value c n = (
  λ e. absurd (cc),
  λ p.
      absurd (elim c.then-is_empty.branch [
        | then-is_empty-via-then-is_empty w ↦
            omega (
              arith,
              eqb-true _ _ (sym c.is_empty.ensures ∙ w.if-is_empty.true),
              count_nonempty _ _ p.0,
            )
        | then-is_empty-via-else-is_empty+then-digits-lt49 w ↦
            omega (arith, w.if-digits-lt49.true, p.0.first)
        | then-is_empty-via-else-is_empty+else-digits-lt49+then-digits-gt-MOST_DIGITS w ↦
            omega (arith, w.if-digits-gt-MOST_DIGITS.true, count_short _ _ p.0 p.1)
      ]),
)

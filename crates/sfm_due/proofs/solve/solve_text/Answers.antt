-- What the text asks is its instance, with what the terms mean.
use Rattle.sfm_kind.proofs.Meanings.{kinds-mean}
use Rattle.sfm_due.specs.Meanings.{question_of}
use Rattle.sfm_due.proofs.solve.solve_text.Goals as goal

pub returns-clause-solved : goal.returns-clause-solved
returns-clause-solved c = (
  question_of c.in_ok-instance.instance,
  record {
    good = c.in_ok-instance.ensures.read;
    means = kinds-mean c.in_ok-instance.instance.terms;
  },
  c.in_ok-file_for.ensures,
)

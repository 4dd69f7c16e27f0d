-- The line of the seed's instance.
use Rattle.std.proofs.Common.{inl, refl}
use Rattle.sfm_kind.proofs.Meanings.{kinds-mean}
use Rattle.sfm_due.specs.Meanings.{question_of}
use Rattle.sfm_due.proofs.demo.due_to_demo.Goals as goal

pub returns-in-Ok : goal.returns-in-Ok
returns-in-Ok c = record {
  owed = inl (
    question_of c.in-Ok.instance,
    record {
      good = rw (c.as_slice.ensures.value, c.in_ok-text.ensures) at c.in-Ok.ensures.read;
      means = kinds-mean c.in-Ok.instance.terms;
    },
    c.in_ok-line_of-in-Ok.ensures,
    refl,
  );
  answered = inl refl;
}

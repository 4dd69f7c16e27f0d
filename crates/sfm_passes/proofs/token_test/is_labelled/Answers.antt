use Rattle.sfm_passes.proofs.token_test.is_labelled.Goals as goal

pub returns-in-Some : goal.returns-in-Some
returns-in-Some c = let (labels, is, are) = c.in-Some.ensures in (
  (c.in-Some.field-0.0.now, labels),
  is,
)

pub returns-in-None : goal.returns-in-None
returns-in-None c = λ (entry, is). c.in-None.ensures entry is

use Rattle.sfm_run.proofs.Opening.{tells_small, tells_too_large}
use Rattle.sfm_run.proofs.open.level_in.Goals as goal

pub returns-in-Some-clause-told : goal.returns-in-Some-clause-told
returns-in-Some-clause-told c = λ text good numbered. tells_too_large text c.args.numbered.instance
    c.args.numbered.ground_line c.args.numbered.term_lines.items c.in-Some.line c.faulty.result good
    numbered
    (rw c.deref.ensures.value at c.in-Some.ensures) c.faulty.ensures

pub returns-in-None-clause-told : goal.returns-in-None-clause-told
returns-in-None-clause-told c =
    λ text good numbered. rw c.into_instance.ensures
    (tells_small text c.args.numbered.instance good c.in-None.ensures)

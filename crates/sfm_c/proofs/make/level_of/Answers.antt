use Rattle.sfm_c.proofs.Making.{small_due, too_large_due}
use Rattle.sfm_c.proofs.make.level_of.Goals as goal

pub returns-in_ok-refuse-in-Some : goal.returns-in_ok-refuse-in-Some
returns-in_ok-refuse-in-Some c =
    λ text good numbered. too_large_due text c.args.numbered.now.instance
    c.args.numbered.now.ground_line c.args.numbered.now.term_lines.items c.in-Some.line good
    numbered
    (rw c.deref.ensures.value at c.in-Some.ensures) c.in_ok-refuse-in-Some.field-0
    c.in_ok-refuse-in-Some.ensures.0 c.in_ok-refuse-in-Some.ensures.1

pub returns-in-None : goal.returns-in-None
returns-in-None c = λ text good numbered. small_due text c.args.numbered.now.instance good
    c.in-None.ensures c.due_to_level.result c.due_to_level.ensures

-- The answer that was found is true for the instance, so its text is a right file.
use Rattle.sfm_cert.specs.Header.{header_text}
use Rattle.sfm_cert.specs.Solved.{answer_of}
use Rattle.sfm_due.proofs.Solves.{solved}
use Rattle.sfm_due.proofs.solve.file_by.Goals as goal

pub returns : goal.returns
returns c = solved (header_text c.args.header) c.in_ok-write_with.field-0.items c.args.instance.now
    c.args.sizes.now (answer_of c.in_ok-solved.solved) c.in_ok-solved.ensures
    c.in_ok-write_with.ensures

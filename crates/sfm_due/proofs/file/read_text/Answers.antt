use Rattle.std.proofs.Common.{inl, refl}
use Rattle.sfm_due.proofs.ReadLemmas.{fails_to_open, reads_text}
use Rattle.sfm_due.proofs.file.read_text.Goals as goal

pub returns-in-Err-clause-read : goal.returns-in-Err-clause-read
returns-in-Err-clause-read g c = inl (refl, fails_to_open _ _ _ _ c.in-Err.ensures)

pub returns-in-Ok-clause-read : goal.returns-in-Ok-clause-read
returns-in-Ok-clause-read g c = reads_text c.args.limit _ _ _ _ _ c.read_open.result c.in-Ok.ensures
    c.read_open.ensures.read

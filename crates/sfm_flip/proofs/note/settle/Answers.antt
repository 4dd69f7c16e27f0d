-- Where nothing is owed there is nothing to do.
use Rattle.sfm_flip.proofs.KnownRows.{settled_noted}
use Rattle.sfm_flip.proofs.note.settle.Goals as goal

pub returns-in-None-clause-settled : goal.returns-in-None-clause-settled
returns-in-None-clause-settled c =
    settled_noted c.args.term.now c.args.q c.args.note.now c.requires.noted c.in-None.is

-- The new note keeps the negated base.
use Rattle.sfm_kind.proofs.Passed.{factor_kept}
use Rattle.sfm_flip.proofs.Bases.{base_of}
use Rattle.sfm_flip.proofs.flip.FlipTerm.note.Goals as goal

pub note_at-requires : goal.note_at-requires
note_at-requires c =
    let s = c.args.self.now in
    let at = c.args.at.now in
    rw (factor_kept _ c.requires.factor, c.in_ok-base.ensures, c.self.view_is)
    (base_of s at.q at.x.now c.requires)

use Rattle.std.proofs.Common.{refl}
use Rattle.sfm_edit.proofs.FirstBases.{old-bases}
use Rattle.sfm_side_tests.proofs.edits.is_edited.Goals as goal

pub is_resumed-requires-clause-old : goal.is_resumed-requires-clause-old
is_resumed-requires-clause-old c =
    let e = c.in-Ok-apply.edited in
    old-bases c.args.instance.terms e.instance.terms e.kept c.in-Ok.old.bases
    c.in-Ok-apply.ensures.origins
    (rw c.terms.ensures.terms at c.in-Ok.ensures.optimum.optimal.bases)
    (c.in-Ok.ensures.plain refl refl)

use Rattle.std.proofs.Common.{length, None, ap, ◌∙◌, arith}
use Rattle.std.proofs.lemmas.List.{length-replicate}
use Rattle.sfm_reach.proofs.Noting.{notes_none}
use Rattle.sfm_reach.proofs.noted.no_notes.Goals as goal

pub returns-clause-count : goal.returns-clause-count
returns-clause-count g c = ap length c.loop.invariant
    ∙ (length-replicate c.loop.index None ∙ omega (arith, c.loop.auto.index-end, c.loop-test.false))

pub returns-clause-fit : goal.returns-clause-fit
returns-clause-fit g c = λ q bases.
    rw c.loop.invariant (notes_none g.T.Term.fits q c.args.terms.now c.loop.index bases
    (omega (arith, c.loop.auto.index-end, c.loop-test.false)))

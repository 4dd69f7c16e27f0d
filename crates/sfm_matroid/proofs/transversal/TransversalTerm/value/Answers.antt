use Rattle.std.proofs.Common.{◌∙◌, ◌*ℤ◌, length, pos, Some, ap, sym}
use Rattle.sfm_spec.specs.Sets.{size}
use Rattle.sfm_matroid.proofs.AnyRank.{worth_passed}
use Rattle.sfm_matroid.proofs.Passed.{weigh_passed}
use Rattle.sfm_matroid.proofs.transversal.TransversalTerm.value.Goals as goal

pub matched-requires : goal.matched-requires
matched-requires c = let s = c.args.self.now in c.requires
    ∙ (sym s.same_count ∙ ap length (sym s.framed))

pub worth-requires : goal.worth-requires
worth-requires c = let s = c.args.self.now in weigh_passed s.w _ s.given s.low
    (rw (c.in_ok-taken.ensures.places ∙ c.requires) s.few)

pub returns-clause-value : goal.returns-clause-value
returns-clause-value c =
    let s = c.args.self.now in
    ap Some (worth_passed s.w _ s.given c.worth.result c.worth.ensures.small c.worth.ensures.value
    ∙ ap (λ t. s.w *ℤ pos (size t)) (rw s.framed at c.in_ok-taken.ensures.taken))

use Rattle.std.proofs.Common.{◌≡◌, ◌∙◌, false, true, get_or, refl, sym, FitsSigned}
use Rattle.std.proofs.lemmas.Int.{to_z-of_z}
use mir.Syntax.{w128}
use Rattle.sfm_rank.proofs.Terms.{at_places-at}
use Rattle.sfm_matroid.proofs.ranked.share.Goals as goal

pub returns-then-not-contains : goal.returns-then-not-contains
returns-then-not-contains c =
    let t = c.args.set.now in
    let fm : FitsSigned w128 c.args.m = c.ranges.m in
    let out : get_or t c.args.j false ≡ false = sym c.contains.ensures ∙ c.if-not-contains.true in
    sym (at_places-at c.args.m t c.args.j ∙ rw out refl)

pub returns : goal.returns
returns c =
    let t = c.args.set.now in
    let fm : FitsSigned w128 c.args.m = c.ranges.m in
    let has : get_or t c.args.j false ≡ true = sym c.contains.ensures ∙ c.if-not-contains.false in
    simp to_z-of_z (sym (at_places-at c.args.m t c.args.j ∙ rw has refl))

use Rattle.std.proofs.Common.{◌∙◌, get_or, pos, ◌*ℤ◌, arith, FitsSigned}
use Rattle.std.proofs.lemmas.Int.{to_z-of_z}
use Rattle.std.proofs.lemmas.List.Elements.{All-get_or}
use mir.Syntax.{w128}
use Rattle.sfm_spec.specs.Bounds.{IsEntry}
use Rattle.sfm_law.proofs.Writes.{entry_fits}
use Rattle.sfm_law.proofs.Fits.{given_fits, given_more, product_fits}
use Rattle.sfm_simple.specs.CutLaws.{cut_base, cut_base_back}
use Rattle.sfm_simple.proofs.cut.CutPlain.is_base_of.Goals as goal

pub returns : goal.returns
returns c =
    let s = c.args.self.now in
    let x = c.args.x.now in
    let two = c.requires.entries ∙ s.two in
    let fq : FitsSigned w128 c.args.q = c.ranges.q in
    let fc : FitsSigned w128 s.c = given_fits _ s.given in
    let f0 : FitsSigned w128 (get_or x 0 (pos 0)) = entry_fits _
    (All-get_or IsEntry x 0 (pos 0) (omega (arith, two)) c.requires.small) in
    let f1 : FitsSigned w128 (get_or x 1 (pos 0)) = entry_fits _
    (All-get_or IsEntry x 1 (pos 0) (omega (arith, two)) c.requires.small) in
    let fm : FitsSigned w128 (c.args.q *ℤ s.c) = product_fits _ _ c.requires.factor
    (given_more _ s.given) in
    let p = simp to_z-of_z at c.product.ensures in
    let i = simp to_z-of_z at (rw p at c.are_opposite_within.ensures) in (
      (λ t. let g = i.0 t in cut_base c.args.q s.c x two g.0 g.1 g.2),
      (λ b. let h = cut_base_back c.args.q s.c x two b in i.1 (h.low, h.high, h.sum)),
    )

pub product-requires-clause-factor : goal.product-requires-clause-factor
product-requires-clause-factor c = let fq : FitsSigned w128 c.args.q = c.ranges.q in simp to_z-of_z
    c.requires.factor

pub product-requires-clause-given : goal.product-requires-clause-given
product-requires-clause-given c = let fc : FitsSigned w128 c.args.self.now.c = given_fits _
    c.args.self.now.given in simp to_z-of_z (given_more _ c.args.self.now.given)

pub are_opposite_within-requires-clause-first_small
    : goal.are_opposite_within-requires-clause-first_small
are_opposite_within-requires-clause-first_small c =
    let two = c.requires.entries ∙ c.args.self.now.two in
    let small : IsEntry (get_or c.args.x.now 0 (pos 0)) = All-get_or IsEntry c.args.x.now 0 (pos 0)
    (omega (arith, two)) c.requires.small in
    let f0 : FitsSigned w128 (get_or c.args.x.now 0 (pos 0)) = entry_fits _ small in
    simp to_z-of_z small

pub are_opposite_within-requires-clause-second_small
    : goal.are_opposite_within-requires-clause-second_small
are_opposite_within-requires-clause-second_small c =
    let two = c.requires.entries ∙ c.args.self.now.two in
    let small : IsEntry (get_or c.args.x.now 1 (pos 0)) = All-get_or IsEntry c.args.x.now 1 (pos 0)
    (omega (arith, two)) c.requires.small in
    let f1 : FitsSigned w128 (get_or c.args.x.now 1 (pos 0)) = entry_fits _ small in
    simp to_z-of_z small

use Rattle.std.proofs.Common.{◌≡◌, ◌∙◌, get_or, pos, ◌*ℤ◌, ◌-ℤ◌, arith, FitsSigned}
use Rattle.std.proofs.lemmas.Int.{ints, to_z-of_z}
use Rattle.std.proofs.lemmas.List.Elements.{All-get_or}
use mir.Syntax.{w128}
use Rattle.sfm_spec.specs.Bounds.{IsEntry}
use Rattle.sfm_law.proofs.Writes.{entry_fits}
use Rattle.sfm_law.proofs.Fits.{factor_fits, given_fits, given_more, product_fits}
use Rattle.sfm_simple.specs.CutLaws.{cut_base_back}
use Rattle.sfm_simple.proofs.CutRooms.{cut-capacity_up, cut-capacity_down}
use Rattle.sfm_simple.proofs.cut.CutPlain.room_of.Goals as goal
use Rattle.sfm_simple.proofs.cut.CutPlain.room_of.Goals.{After-product}

-- the numbers of the first room fit
fits : (c : After-product) → let q = c.args.at.now.q in let s = c.args.self.now in let a = get_or
    c.args.at.now.x.now 0 (pos 0) in
    FitsSigned w128 q × FitsSigned w128 s.c × FitsSigned w128 a × FitsSigned w128 (q *ℤ s.c)
    × FitsSigned w128 ((q *ℤ s.c) -ℤ a)
fits c =
    let r = c.requires in
    let s = c.args.self.now in
    let x = c.args.at.now.x.now in
    let two = r.entries ∙ s.two in
    let fm = product_fits _ _ r.factor (given_more _ s.given) in
    let h = cut_base_back c.args.at.now.q s.c x two r.base in (
      factor_fits _ r.factor,
      given_fits _ s.given,
      entry_fits _ (All-get_or IsEntry x 0 (pos 0) (omega (arith, two)) r.small),
      fm,
      omega (arith, ints, h.low, h.high, fm),
    )

pub returns-then-u-eq0 : goal.returns-then-u-eq0
returns-then-u-eq0 c =
    let r = c.requires in
    let s = c.args.self.now in
    let x = c.args.at.now.x.now in
    let two = r.entries ∙ s.two in
    let u : c.args.u ≡ 0 = c.if-u-eq0.true in
    let v : c.args._v ≡ 1 = omega (arith, two, u) in
    let (fq, fc, f0, fm, fd) = fits (goal.at.returns-then-u-eq0 c).After-product in
    let p = simp to_z-of_z at c.product.ensures in
    rw (u, v, p) (simp to_z-of_z (cut-capacity_up c.args.at.now.q s.c x two r.base))

pub returns : goal.returns
returns c =
    let r = c.requires in
    let s = c.args.self.now in
    let two = r.entries ∙ s.two in
    let v : c.args._v ≡ 0 = omega (arith, two) in
    let u : c.args.u ≡ 1 = omega (arith, two) in
    let f0 : FitsSigned w128 (get_or c.args.at.now.x.now 0 (pos 0)) = entry_fits _
    (All-get_or IsEntry c.args.at.now.x.now 0 (pos 0) (omega (arith, two)) r.small) in
    rw (u, v) (simp to_z-of_z (cut-capacity_down c.args.at.now.q s.c c.args.at.now.x.now two
    r.base))

pub product-requires-clause-factor : goal.product-requires-clause-factor
product-requires-clause-factor c = let fq : FitsSigned w128 c.args.at.now.q = factor_fits _
    c.requires.factor in simp to_z-of_z c.requires.factor

pub product-requires-clause-given : goal.product-requires-clause-given
product-requires-clause-given c =
    let fc : FitsSigned w128 c.args.self.now.c = given_fits _ c.args.self.now.given in
    simp to_z-of_z (given_more _ c.args.self.now.given)

pub overflow_sub-result : goal.overflow_sub-result
overflow_sub-result c =
    let (fq, fc, f0, fm, fd) = fits (goal.at.overflow_sub-result c).After-product in
    let p = simp to_z-of_z at c.product.ensures in
    rw p (simp to_z-of_z fd)

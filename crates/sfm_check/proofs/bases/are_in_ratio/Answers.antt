use Rattle.std.proofs.Common.{◌≡◌, ◌<◌, ◌*ℤ◌, length, get_or, ℤ, pos, ⊎_elim, ap, to_z, arith, FitsSigned}
use Rattle.std.proofs.lemmas.Bool.{cases_lt}
use Rattle.std.proofs.lemmas.Int.{ints, to_z-of_z}
use Rattle.std.proofs.lemmas.List.Elements.{All-get_or}
use mir.Syntax.{w128}
use Rattle.sfm_spec.specs.Bounds.{IsEntry}
use Rattle.sfm_law.proofs.Fits.{factor_fits}
use Rattle.sfm_check.proofs.Ratios.{entry_fits}
use Rattle.sfm_check.proofs.bases.are_in_ratio.Goals as goal

one_fits : (a : ℤ) → IsEntry a → FitsSigned w128 a
one_fits a h = omega (arith, ints)

pub overflow_mul-known : goal.overflow_mul-known
overflow_mul-known c =
    let r = c.requires in
    let a = get_or c.args.at.now.x.now c.loop-i.i (pos 0) in
    let is : IsEntry a = All-get_or IsEntry c.args.at.now.x.now c.loop-i.i (pos 0)
    c.loop-i-test.true r.small in
    let fq : FitsSigned w128 c.args.known.now.q = factor_fits _ r.other in
    let fa : FitsSigned w128 a = one_fits a is in
    simp to_z-of_z (entry_fits c.args.known.now.q a r.other is)

pub overflow_mul-at : goal.overflow_mul-at
overflow_mul-at c =
    let r = c.requires in
    let y = c.args.known.now.x.now in
    let b = get_or y c.loop-i.i (pos 0) in
    let l : c.loop-i.i < length y = let t = c.loop-i-test.true in omega (arith, t, r.entries) in
    let is : IsEntry b = All-get_or IsEntry y c.loop-i.i (pos 0) l r.known in
    let fq : FitsSigned w128 c.args.at.now.q = factor_fits _ r.factor in
    let fb : FitsSigned w128 b = one_fits b is in
    simp to_z-of_z (entry_fits c.args.at.now.q b r.factor is)

pub loop-i-preserved : goal.loop-i-preserved
loop-i-preserved c = λ j l.
    let r = c.requires in
    let x = c.args.at.now.x.now in
    let y = c.args.known.now.x.now in
    let i = c.loop-i.i in
    let p = c.args.known.now.q in
    let q = c.args.at.now.q in
    let lx : i < length x = c.loop-i-test.true in
    let ly : i < length y = omega (arith, lx, r.entries) in
    let a = get_or x i (pos 0) in
    let b = get_or y i (pos 0) in
    let ia : IsEntry a = All-get_or IsEntry x i (pos 0) lx r.small in
    let ib : IsEntry b = All-get_or IsEntry y i (pos 0) ly r.known in
    let fp : FitsSigned w128 p = factor_fits _ r.other in
    let fq : FitsSigned w128 q = factor_fits _ r.factor in
    let fa : FitsSigned w128 a = one_fits a ia in
    let fb : FitsSigned w128 b = one_fits b ib in
    let fpa : FitsSigned w128 (p *ℤ a) = entry_fits p a r.other ia in
    let fqb : FitsSigned w128 (q *ℤ b) = entry_fits q b r.factor ib in
    let here : (p *ℤ a) ≡ (q *ℤ b) = simp to_z-of_z at (ap (to_z w128) c.if-known-at.false) in
    ⊎_elim
    (λ less. c.loop-i.invariant j less)
    (λ ge. let is : j ≡ i = omega (arith, l, ge) in rw is here)
    (cases_lt j i)

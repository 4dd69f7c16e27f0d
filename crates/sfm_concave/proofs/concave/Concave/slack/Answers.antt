use Rattle.std.proofs.Common.{◌≡◌, ◌^◌, ◌-ℤ◌, ◌∙◌, ap, arith, FitsSigned}
use Rattle.std.proofs.lemmas.Int.{to_z-of_z}
use mir.Syntax.{w128}
use Rattle.sfm_spec.specs.Bounds.{IsAtMost}
use Rattle.sfm_spec.proofs.Sizes.{size_below_length}
use Rattle.sfm_concave.specs.ConcaveLaws.{scaled}
use Rattle.sfm_concave.specs.Thresholds.{slack}
use Rattle.sfm_spec.specs.Sets.{size}
use Rattle.sfm_law.proofs.Fits.{at_most_more, difference_fits, share_fits, share_small}
use Rattle.sfm_concave.proofs.concave.Concave.slack.Goals as goal

pub scaled-requires-clause-count : goal.scaled-requires-clause-count
scaled-requires-clause-count c =
    let (s, share) = c.requires.share in
    let few = size_below_length s in
    let counted = c.args.self.now.counted in
    omega (arith, few, counted, share.counts, share.places, c.requires.entries)

pub overflow_sub-result : goal.overflow_sub-result
overflow_sub-result c =
    let (s, share) = c.requires.share in
    let places = c.args.self.now.few in
    let small : IsAtMost (10 ^ 33) c.args.share.sum = rw share.sums
    (share_small s c.args._x.now (omega (arith, c.requires.entries, places))
    c.requires.small) in
    let fs : FitsSigned w128 c.args.share.sum = share_fits _ small in
    let fn : FitsSigned w128 c.scaled.result = share_fits _
    (at_most_more _ c.scaled.ensures.small) in
    simp to_z-of_z (difference_fits _ _ c.scaled.ensures.small small)

pub returns : goal.returns
returns c s own =
    let q = c.args.q in
    let sum = c.args.share.sum in
    let h = scaled q c.args.self.now.values in
    let places = c.args.self.now.few in
    let small : IsAtMost (10 ^ 33) sum = rw own.sums
    (share_small s c.args._x.now (omega (arith, c.requires.entries, places))
    c.requires.small) in
    let fq : FitsSigned w128 q = c.ranges.q in
    let fs : FitsSigned w128 sum = share_fits _ small in
    let fn : FitsSigned w128 c.scaled.result = share_fits _
    (at_most_more _ c.scaled.ensures.small) in
    let fd : FitsSigned w128 (c.scaled.result -ℤ sum) = difference_fits _ _ c.scaled.ensures.small
    small in
    let value = simp to_z-of_z at c.scaled.ensures.value in
    let all : (c.scaled.result -ℤ sum) ≡ slack h c.args._x.now s = ap (λ z. z -ℤ sum)
    (value ∙ ap h own.counts) ∙ ap (λ z. h (size s) -ℤ z) own.sums in
    simp to_z-of_z all

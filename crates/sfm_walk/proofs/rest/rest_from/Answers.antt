use Rattle.std.proofs.Common.{◌≡◌, ◌^◌, ⊎_elim, [], ◌∷◌, ◌++◌, length, get_or, pos, ◌-ℤ◌, ◌≤ℤ◌, ap, ◌∙◌, refl, rules, arith, FitsSigned}
use Rattle.std.proofs.lemmas.Bool.{cases_lt}
use Rattle.std.proofs.lemmas.Int.{ints, to_z-of_z}
use Rattle.std.proofs.lemmas.List.{length-append}
use Rattle.std.proofs.lemmas.List.Elements.{All-get_or}
use Rattle.std.proofs.Math.ListN.{get_or-append}
use Rattle.std.proofs.Math.Seq.{get_or-append_seam}
use mir.Syntax.{w128}
use Rattle.sfm_spec.specs.Bounds.{IsAtMost}
use Rattle.sfm_spec.specs.Sets.{magnitudes}
use Rattle.sfm_law.proofs.Rests.{magnitudes-at}
use Rattle.sfm_walk.proofs.rest.rest_from.Goals as goal
use Rattle.sfm_walk.proofs.rest.rest_from.Goals.{In-loop-e}

-- the next difference is small
less : (c : In-loop-e) → FitsSigned w128
    (get_or c.args.sums.now c.loop-e.e (pos 0) -ℤ get_or c.args.shift.now c.loop-e.e (pos 0))
less c =
    let e = c.loop-e.e in
    let (b, t) = magnitudes-at c.args.shift.now e in
    let bound : magnitudes c.args.shift.now ≤ℤ pos (10 ^ 36) = c.requires.shifts in
    let s : IsAtMost (10 ^ 35) (get_or c.args.sums.now e (pos 0)) = All-get_or (IsAtMost (10 ^ 35))
    c.args.sums.now e (pos 0) (rw c.requires.same c.loop-e-test.true) c.requires.small in
    omega (arith, ints, b.low, b.high, t, bound, s.low, s.high)

pub overflow_sub-sums : goal.overflow_sub-sums
overflow_sub-sums c =
    let fa : FitsSigned w128 (get_or c.args.sums.now c.loop-e.e (pos 0)) = search rules in
    let fb : FitsSigned w128 (get_or c.args.shift.now c.loop-e.e (pos 0)) = search rules in
    simp to_z-of_z (less (goal.at.overflow_sub-sums c).In-loop-e)

pub loop-e-preserved : goal.loop-e-preserved
loop-e-preserved c =
    let z = c.loop-e.z.items in
    let e = c.loop-e.e in
    let a = get_or c.args.sums.now e (pos 0) in
    let b = get_or c.args.shift.now e (pos 0) in
    let fa : FitsSigned w128 a = search rules in
    let fb : FitsSigned w128 b = search rules in
    let fs = less (goal.at.loop-e-preserved c).In-loop-e in
    let count = c.loop-e.invariant.0 in
    let pushed : c.push.new.self.items ≡ z ++ (a -ℤ b) ∷ [] = simp to_z-of_z at
    c.in_ok-push.ensures.items in
    let long = length-append z ((a -ℤ b) ∷ []) in (
      ap length pushed ∙ omega (arith, long, count),
      λ k l. ap (λ y. get_or y k (pos 0)) pushed ∙ ⊎_elim
          (λ before. get_or-append z ((a -ℤ b) ∷ []) (pos 0) k (omega (arith, before, count))
          ∙ c.loop-e.invariant.1 k before)
          (λ ge.
          let here : k ≡ e = omega (arith, ge, l) in
          let last : k ≡ length z = omega (arith, here, count) in
          ap (λ j. get_or (z ++ (a -ℤ b) ∷ []) j (pos 0)) last
          ∙ (get_or-append_seam z (a -ℤ b) [] (pos 0) ∙ rw here refl))
          (cases_lt k e),
    )

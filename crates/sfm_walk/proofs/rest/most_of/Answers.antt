use Rattle.std.proofs.Common.{◌≡◌, get_or, pos, neg_ℤ, ◌-ℤ◌, ◌≤ℤ◌, ◌<ℤ◌, ℤ, refl, FitsSigned, arith}
use Rattle.std.specs.Int.{int_min}
use Rattle.std.proofs.lemmas.Int.{ints, int_min_is, to_z-of_z}
use mir.Syntax.{w128}
use Rattle.sfm_walk.proofs.rest.most_of.Goals as goal

-- the lesser of v and -u, where u < 0 < v
record IsLesser (u v r : ℤ) : Type 0 where
  some : pos 1 ≤ℤ r
  under : r ≤ℤ neg_ℤ u
  over : r ≤ℤ v
  greatest : (b : ℤ) → b ≤ℤ neg_ℤ u → b ≤ℤ v → b ≤ℤ r

lesser : (u v n : ℤ) → n ≡ (pos 0 -ℤ u) → u <ℤ pos 0 → pos 0 <ℤ v → IsLesser u v (int_min v n)
lesser u v n is low high =
    let m = int_min_is v n in
    record {
      some = omega (arith, ints, m, is, low, high);
      under = omega (arith, ints, m, is);
      over = omega (arith, ints, m, is);
      greatest = λ b below above. omega (arith, ints, m, is, below, above);
    }

pub returns : goal.returns
returns c =
    let z = c.args.z.now in
    let u = get_or z c.args.first (pos 0) in
    let v = get_or z c.args.last (pos 0) in
    let small_first = c.requires.small c.args.first (pos 0) c.requires.first in
    let small_last = c.requires.small c.args.last (pos 0) c.requires.last in
    let fu : FitsSigned w128 u = omega (arith, ints, small_first.low, small_first.high) in
    let fn : FitsSigned w128 (pos 0 -ℤ u) = omega (
      arith,
      ints,
      small_first.low,
      small_first.high,
    ) in
    let fv : FitsSigned w128 v = omega (arith, ints, small_last.low, small_last.high) in
    let fr : FitsSigned w128 c.min.result = record { sfits = c.min.type_inv } in
    let m : c.min.result ≡ int_min v (pos 0 -ℤ u) = simp to_z-of_z at c.min.ensures.value in
    let h = lesser u v (pos 0 -ℤ u) refl c.requires.under c.requires.over in
    simp to_z-of_z
    (rw m (record { some = h.some; under = h.under; over = h.over; greatest = h.greatest }))

use Rattle.std.proofs.Common.{◌≡◌, ◌<◌, ◌^◌, length, get_or, ℤ, pos, ◌≤ℤ◌, to_z, of_z, refl, ap, ◌∙◌, arith}
use Rattle.std.specs.Int.{w128}
use Rattle.std.proofs.lemmas.Int.{ints}
use Rattle.std.proofs.lemmas.List.{get_or_default}
use Rattle.std.proofs.lemmas.List.Edits.{map_over_more}
use Rattle.std.proofs.lemmas.List.Elements.{All-get_or}
use Rattle.sfm_side.specs.SizeLines.{count_of}
use Rattle.sfm_side.proofs.Keeping.{count-low, count-high, set-kept}
use Rattle.sfm_side.proofs.sizes.count_each.Goals as goal

pub loop-e-init : goal.loop-e-init
loop-e-init c = record { so_far = refl; kept = record { places = refl; each = c.requires } }

pub loop-e-preserved : goal.loop-e-preserved
loop-e-preserved c =
    let first = c.args.kept.now in
    let kept = c.loop-e.kept in
    let e = c.loop-e.e in
    let before = c.loop-e.invariant in
    let lt : e < length kept = omega (arith, c.loop-e-test.true, before.kept.places) in
    let w = get_or kept e (pos 0) in
    let old = All-get_or (λ (w : ℤ). (pos 0 ≤ℤ w) × (w ≤ℤ pos (10 ^ 6))) kept e (pos 0) lt
    before.kept.each in
    let same : to_z w128 (of_z w128 (get_or kept e (pos 0))) ≡ get_or kept e
    (pos 0) = omega (arith, ints, old.0, old.1) in
    let is : c.counted.result ≡ count_of (get_or kept e (pos 0)) = c.counted.ensures
    ∙ ap count_of same in
    let low = count-low w in
    let high = count-high w old.1 in
    let put : to_z w128 (of_z w128 c.counted.result) ≡ count_of
    (get_or kept e (pos 0)) = omega (arith, ints, is, low, high) in
    record {
      so_far = rw put (map_over_more count_of first kept e w c.loop-e-test.true before.so_far
          (get_or_default kept e (pos 0) w lt));
      kept = set-kept (length first) kept e (count_of w) _ before.kept put low high;
    }

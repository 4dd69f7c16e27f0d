use Rattle.std.proofs.Common.{get_or, pos, arith, FitsSigned}
use Rattle.std.proofs.lemmas.Int.{ints, to_z-of_z}
use Rattle.std.proofs.lemmas.List.Elements.{All-get_or}
use mir.Syntax.{w128}
use Rattle.sfm_spec.specs.Bounds.{IsEntry}
use Rattle.sfm_law.proofs.Writes.{entry_fits}
use Rattle.sfm_concave.proofs.Shares.{next_above, next_below, scanned_more}
use Rattle.sfm_concave.proofs.share.share_by_scan.Goals as goal
use Rattle.sfm_concave.proofs.share.share_by_scan.Goals.{then-a-bar, else-a-bar}

pub loop-a-preserved : goal.loop-a-preserved
loop-a-preserved c =
    let x = c.args.x.now in
    let i = c.loop-a.a-index in
    let fb : FitsSigned w128 c.args.bar = c.ranges.bar in
    let a : IsEntry (get_or x i (pos 0)) = All-get_or IsEntry x i (pos 0) c.loop-a-test.true
    c.requires.small in
    let fa : FitsSigned w128 (get_or x i (pos 0)) = entry_fits _ a in
    let inv = simp to_z-of_z at c.loop-a.invariant in
    elim c.if-a-bar.branch [
      | then-a-bar w ↦
          (let h = simp to_z-of_z at w.if-a-bar.true in
          let next = next_above c.args.bar x i c.loop-a-test.true (omega (arith, ints, h)) in
          simp to_z-of_z (scanned_more c.args.bar x i 1 _ _ _ _ _ (omega arith) a next
          (omega (arith, w.count-is)) (omega (arith, ints, w.sum-is)) inv))
      | else-a-bar w ↦
          (let h = simp to_z-of_z at w.if-a-bar.false in
          let next = next_below c.args.bar x i c.loop-a-test.true (omega (arith, ints, h)) in
          simp to_z-of_z (scanned_more c.args.bar x i 0 _ _ (pos 0) _ _ (omega arith)
          (record { low = omega (arith, ints); high = omega (arith, ints) }) next
          (omega (arith, w.count-is)) (omega (arith, ints, w.sum-is)) inv))
    ]

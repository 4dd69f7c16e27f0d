use Rattle.std.proofs.Common.{◌≡◌, ◌∙◌, length, pos, sym, arith, FitsSigned}
use Rattle.std.proofs.lemmas.Int.{to_z-of_z}
use Rattle.std.proofs.lemmas.List.{ext_get_or}
use mir.Syntax.{w128}
use Rattle.sfm_rank.specs.Terms.{at_places}
use Rattle.sfm_rank.proofs.Terms.{at_places-length}
use Rattle.sfm_matroid.proofs.ranked.write_at.Goals as goal

pub returns : goal.returns
returns c =
    let m = c.args.m in
    let fm : FitsSigned w128 m = c.ranges.m in
    let t = c.args.set.now in
    let inv = simp to_z-of_z at c.loop-j.invariant in
    let sized : length c.loop-j.x ≡ length t = omega (arith, c.loop-j.auto.x, c.requires) in
    ext_get_or (pos 0) c.loop-j.x (at_places m t) (sized ∙ sym (at_places-length m t))
    (λ j h. inv j (omega (arith, h, sized)))

use Rattle.std.proofs.Common.{get_or, pos, sym, FitsSigned}
use Rattle.std.proofs.lemmas.Int.{to_z-of_z}
use Rattle.std.proofs.lemmas.List.Elements.{All-get_or}
use mir.Syntax.{w128}
use Rattle.sfm_spec.specs.Bounds.{IsEntry}
use Rattle.sfm_law.proofs.Writes.{entry_fits}
use Rattle.sfm_concave.proofs.Above.{get_or-above}
use Rattle.sfm_concave.proofs.share.is_above.Goals as goal

pub returns : goal.returns
returns c =
    let r = c.requires in
    let x = c.args.x.now in
    let fb : FitsSigned w128 c.args.bar = c.ranges.bar in
    let fa : FitsSigned w128 (get_or x c.args.v (pos 0)) = entry_fits _
    (All-get_or IsEntry x c.args.v (pos 0) r.place r.small) in
    simp to_z-of_z (sym (get_or-above c.args.bar x c.args.v r.place))

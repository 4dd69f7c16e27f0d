use Rattle.std.proofs.Common.{◌∙◌, get_or, pos, arith, FitsSigned}
use Rattle.std.proofs.lemmas.Int.{to_z-of_z}
use Rattle.std.proofs.lemmas.List.Elements.{All-get_or}
use mir.Syntax.{w128}
use Rattle.sfm_spec.specs.Bounds.{IsEntry}
use Rattle.sfm_law.proofs.Writes.{entry_fits}
use Rattle.sfm_simple.specs.NeedLaws.{need_base, need_base_back}
use Rattle.sfm_simple.proofs.need.NeedPlain.is_base_of.Goals as goal

pub returns : goal.returns
returns c =
    let x = c.args.x.now in
    let two = c.requires.entries ∙ c.args.self.now.two in
    let f0 : FitsSigned w128 (get_or x 0 (pos 0)) = entry_fits _
    (All-get_or IsEntry x 0 (pos 0) (omega (arith, two)) c.requires.small) in
    let f1 : FitsSigned w128 (get_or x 1 (pos 0)) = entry_fits _
    (All-get_or IsEntry x 1 (pos 0) (omega (arith, two)) c.requires.small) in
    let i = simp to_z-of_z at c.are_opposite.ensures in (
      (λ t. need_base c.args._q x two (i.0 t).0 (i.0 t).1),
      (λ b. i.1 (need_base_back c.args._q x two b)),
    )

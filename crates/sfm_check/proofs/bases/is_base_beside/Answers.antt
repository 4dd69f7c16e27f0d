use Rattle.std.proofs.Common.{◌∙◌, refl, sym}
use Rattle.sfm_kind.specs.Kinds.{kind_value}
use Rattle.sfm_check.proofs.Ratios.{base_in_ratio}
use Rattle.sfm_check.proofs.bases.is_base_beside.Goals as goal

pub returns-then-are_in_ratio : goal.returns-then-are_in_ratio
returns-then-are_in_ratio c =
    let r = c.requires in
    let k = r.known in
    let at = c.args.at.now in
    let known = c.args.known.now in (
      (λ yes. base_in_ratio (kind_value c.args.term.now) known.q at.q at.x.now known.x.now
          k.factor.low r.factor.low (r.entries ∙ sym k.entries)
          (c.are_in_ratio.ensures c.if-are_in_ratio.true) k.base),
      (λ base. refl),
    )

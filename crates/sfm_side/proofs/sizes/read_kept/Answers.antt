use Rattle.std.proofs.Common.{length, sym, subst, ◌∙◌}
use Rattle.sfm_sizes.specs.Sizes.{AreElementSizes}
use Rattle.sfm_side.specs.SizeLines.{given_of}
use Rattle.sfm_side.proofs.Keeping.{counts-sizes, counts-are}
use Rattle.sfm_side.proofs.sizes.read_kept.Goals as goal

pub returns-clause-read : goal.returns-clause-read
returns-clause-read c = (
  given_of c.take_lines.new.kept,
  c.count_each.ensures ∙ counts-are c.take_lines.new.kept,
  c.in_ok-take_lines.ensures.read,
)

pub returns-clause-sizes : goal.returns-clause-sizes
returns-clause-sizes c =
    let n = length c.args.instance.now.names in
    subst (AreElementSizes n) (sym c.count_each.ensures)
    (counts-sizes n c.take_lines.new.kept c.take_lines.ensures.kept.places
    c.in_ok-take_lines.ensures.small)

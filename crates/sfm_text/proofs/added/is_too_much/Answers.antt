use Rattle.std.proofs.Common.{ap, length, ◌∙◌, arith}
use Rattle.sfm_lines.specs.Versions.{most_size}
use Rattle.sfm_text.proofs.TooMuch.{kept-room, much-by-size}
use Rattle.sfm_text.proofs.added.is_too_much.Goals as goal

pub overflow_sub-size_left : goal.overflow_sub-size_left
overflow_sub-size_left c = kept-room _ c.args.instance.now.version c.args.instance.now.terms
    c.size_limit-most.result c.total_size.result c.terms-terms.ensures.bounded
    (c.size_limit-most.ensures.most ∙ ap most_size c.text_version-version.ensures)
    c.total_size.ensures.total

pub returns-else-places-places_left-clause-much : goal.returns-else-places-places_left-clause-much
returns-else-places-places_left-clause-much c =
    let left = c.if-places-places_left.false in
    much-by-size _ c.args.instance.now.version c.args.instance.now.lines c.args.instance.now.terms
    c.args.places c.size_limit-most.result c.total_size.result c.args.size
    c.terms-terms.ensures.bounded
    (c.size_limit-most.ensures.most ∙ ap most_size c.text_version-version.ensures)
    c.total_size.ensures.total c.ranges.size
    (omega (arith, left.0, ap length c.lines.ensures.lines))
    (omega (
      arith,
      left.1,
      c.support-places_left.ensures.support,
      (c.terms-terms.ensures.bounded).few_places,
    ))

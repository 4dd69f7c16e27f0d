-- The pieces behind the first are the groups, of which each is cut in its one way.
use Rattle.std.proofs.Common.{ap, ◌∙◌}
use Rattle.sfm_lines.specs.Lines.{texts_of, text_lists_of}
use Rattle.sfm_lines.specs.Parts.{LineParts}
use Rattle.sfm_lines.specs.CutParts.{with_groups}
use Rattle.sfm_lines.proofs.Pieces.{each-cut, first-lists, some-texts}
use Rattle.sfm_lines.proofs.laminar_line.group_parts.Goals as goal

pub returns-then-not-branch : goal.returns-then-not-branch
returns-then-not-branch c = λ elements groups h.
    let rest = c.in-Some.rest.now in
    let each = each-cut (text_lists_of c.args.pieces.now) (texts_of c.in-Some.elements.now.now)
    (text_lists_of rest) elements groups
    (first-lists c.args.pieces.now c.in-Some.elements.now rest c.in-Some.ensures.cases) h in
    (rw c.if-not-branch.true at c.in_ok-add_groups.ensures) groups each

pub returns : goal.returns
returns c =
    let (groups, each, is) = rw c.if-not-branch.false at c.in_ok-add_groups.ensures in
    let elements = c.in-Some.elements.now.now in (
      texts_of elements,
      groups,
      record {
        rest = text_lists_of c.in-Some.rest.now;
        pieces_are = first-lists c.args.pieces.now c.in-Some.elements.now c.in-Some.rest.now
            c.in-Some.ensures.cases;
        some = some-texts elements c.if-is_empty.ensures;
        unmarked = c.if-has_separator.ensures;
        each = each;
      },
      is ∙ ap (λ (p : LineParts). with_groups p groups) c.in_ok-parts.ensures,
    )

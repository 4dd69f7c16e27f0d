use Rattle.std.proofs.Common.{refl, ap, ◌∙◌}
use Rattle.sfm_lines.specs.Lines.{texts_of}
use Rattle.sfm_lines.specs.Parts.{LineParts}
use Rattle.sfm_lines.specs.CutParts.{with_labelled}
use Rattle.sfm_lines.proofs.Pieces.{some-texts, none-texts}
use Rattle.sfm_lines.proofs.graphic_line.edge_parts.Goals as goal

pub returns-then-is_empty : goal.returns-then-is_empty
returns-then-is_empty c = λ entries h. none-texts c.args.tokens.now (texts_of c.args.tokens.now)
    refl h.some c.if-is_empty.ensures

pub returns-then-not-branch : goal.returns-then-not-branch
returns-then-not-branch c = λ entries h. (rw c.if-not-branch.true at c.in_ok-add_edges.ensures)
    entries h.each

pub returns : goal.returns
returns c =
    let (entries, each, is) = rw c.if-not-branch.false at c.in_ok-add_edges.ensures in (
      entries,
      record { some = some-texts c.args.tokens.now c.if-is_empty.ensures; each = each },
      is ∙ ap (λ (p : LineParts). with_labelled p entries) c.in_ok-parts.ensures,
    )

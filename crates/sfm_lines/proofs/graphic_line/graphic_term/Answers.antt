use Rattle.std.proofs.Common.{◌<◌, length, pos, ap, sym, ◌∙◌, arith}
use Rattle.std.proofs.lemmas.Int.{ints}
use Rattle.std.proofs.lemmas.List.{length-map}
use Rattle.sfm_graphic.specs.Ends.{edge_of, edges_of}
use Rattle.sfm_lines.specs.LabelTerms.{edge_between, numbers_of}
use Rattle.sfm_kind.specs.declared.kind.Kind.TheVariants.{Graphic}
use Rattle.sfm_lines.specs.declared.word.RankKind.TheVariants.{GraphicRank}
use Rattle.sfm_lines.specs.ReadParts.{parts_of}
use Rattle.sfm_lines.proofs.ReadLines.{kept-at}
use Rattle.sfm_lines.proofs.RankTerms.{of-rank}
use Rattle.sfm_lines.proofs.graphic_line.graphic_term.Goals as goal

pub numbered_ends-requires-clause-few : goal.numbered_ends-requires-clause-few
numbered_ends-requires-clause-few c = rw c.deref.ensures.value c.requires.few

pub numbered_ends-requires-clause-two : goal.numbered_ends-requires-clause-two
numbered_ends-requires-clause-two c = rw c.deref.ensures.value c.requires.two

pub new-requires-clause-elements : goal.new-requires-clause-elements
new-requires-clause-elements c = c.requires.given.elements

pub new-requires-clause-low : goal.new-requires-clause-low
new-requires-clause-low c =
    let one : 0 < length c.args.values.now = omega (arith, c.requires.one) in
    let low = c.requires.given.low 0 (pos 0) one in
    let small = c.requires.given.small 0 (pos 0) one in
    omega (arith, ints, low, small.low, small.high)

pub new-requires-clause-given : goal.new-requires-clause-given
new-requires-clause-given c =
    let small = c.requires.given.small 0 (pos 0) (omega (arith, c.requires.one)) in
    record {
      low = omega (arith, ints, small.low, small.high);
      high = omega (arith, ints, small.low, small.high);
    }

pub new-requires-clause-same_count : goal.new-requires-clause-same_count
new-requires-clause-same_count c =
    let lists = (parts_of c.args.parts.now).labels in
    ap length c.deref-2.ensures.value
    ∙ (sym (length-map c.in_ok-ends.ends.items edge_of)
    ∙ (ap length (rw c.deref.ensures.value at c.in_ok-ends.ensures)
    ∙ (length-map (numbers_of lists) edge_between ∙ (length-map lists _ ∙ c.requires.each))))

pub returns : goal.returns
returns c = record {
  same_places = c.in_ok-graphic.ensures.places;
  made = of-rank GraphicRank (parts_of c.args.parts.now) c.args.values.now
      (Graphic c.in_ok-graphic.graphic) c.requires.rank (
        c.in_ok-graphic.ensures.number ∙ kept-at c.args.values.now 0 (omega (arith, c.requires.one))
            c.requires.given.small,
        c.in_ok-graphic.ensures.ends
            ∙ (ap edges_of c.deref-2.ensures.value
            ∙ (rw c.deref.ensures.value at c.in_ok-ends.ensures)),
      );
}

use Rattle.std.proofs.Common.{◌≡◌, ◌++◌, ◌∷◌, ◌+◌, ◌<◌, length, get_or, take, [], ap, sym, ◌∙◌, arith, length-take}
use Rattle.std.proofs.lemmas.List.{take_more}
use Rattle.sfm_cert.specs.Answer.{row_lines, text_of}
use Rattle.sfm_cert.specs.Labels.{label_in, labels_of}
use Rattle.sfm_cert.specs.LineLists.{row_line}
use Rattle.sfm_cert.specs.Spots.{spot_label}
use Rattle.sfm_cert.proofs.AnswerLines.{row_lines-push}
use Rattle.sfm_cert.proofs.InstanceLengths.{few_lines_of}
use Rattle.sfm_cert.proofs.Labels.{length-labels, stands_before, stands_label}
use Rattle.sfm_cert.proofs.Pieces.{appended_lines}
use Rattle.sfm_cert.proofs.put.put_rows.Given as given
use Rattle.sfm_cert.proofs.put.put_rows.Goals.{In-loop-i}
use Rattle.sfm_cert.proofs.put.put_rows.Goals as goal

-- a term is left
labelled : (g : given.Over) (c : In-loop-i g)
    → c.loop-i.i < length (labels_of c.args.instance.now.lines)
labelled g c = omega (
  arith,
  c.loop-i-test.true,
  c.len-i-end.ensures,
  c.requires.count,
  length-labels c.args.instance.now.lines,
  c.lines-lines.ensures.lined,
)

before : (g : given.Over) (c : In-loop-i g)
    → c.loop-i.spot.before < length c.args.instance.now.lines
before g c = stands_before c.args.instance.now.lines c.loop-i.i c.loop-i.spot c.loop-i.invariant.1
    (labelled g c)

pub put_row-requires-clause-few : goal.put_row-requires-clause-few
put_row-requires-clause-few g c =
    let few = (few_lines_of (length c.args.instance.now.names) c.args.instance.now
    c.terms.ensures.bounded c.lines-lines.ensures.lined).count in
    let l = before g (goal.at.put_row-requires-clause-few g c).In-loop-i in
    omega (arith, few, l)

pub next-spot-requires : goal.next-spot-requires
next-spot-requires g c = rw c.lines-lines.ensures.lines
    (before g (goal.at.next-spot-requires g c).In-loop-i)

pub loop-i-preserved : goal.loop-i-preserved
loop-i-preserved g c =
    let rows = c.args.rows.now in
    let word = c.args.word.now in
    let lines = c.args.instance.now.lines in
    let i = c.loop-i.i in
    let d = (goal.at.loop-i-preserved g c).In-loop-i in
    let h : i < length rows = omega (arith, c.len-i-end.ensures) in
    let n : 1 + length (take i rows) ≡ i + 1 = omega (arith, length-take i rows) in
    let label : spot_label c.loop-i.spot ≡ label_in lines (i + 1) = sym
    (stands_label lines i c.loop-i.spot c.loop-i.invariant.1 (labelled g d)) in
    let put : c.put_row.new.out ≡ g.O.Out.after c.loop-i.out
    (text_of (row_line word (spot_label c.loop-i.spot) (get_or rows i []) ∷ [])) =
    rw (← c.row.ensures) c.put_row.ensures in (
      appended_lines g.O.Out.after g.met.O.Out.joined _ _ _ (row_lines word lines 1 (take i rows))
          (row_line word (spot_label c.loop-i.spot) (get_or rows i []) ∷ [])
          (row_lines word lines 1 (take (i + 1) rows)) c.loop-i.invariant.0 put
          (ap (λ r. row_lines word lines 1 r) (take_more rows i [] h)
          ∙ row_lines-push word lines 1 (take i rows) (get_or rows i [])
          ∙ ap (λ m. row_lines word lines 1 (take i rows) ++ row_line word (label_in lines m)
          (get_or rows i []) ∷ []) n
          ∙ ap (λ l. row_lines word lines 1 (take i rows) ++ row_line word l
          (get_or rows i []) ∷ []) (sym label)),
      rw (← c.lines-lines.ensures.lines)
          (c.next-spot.ensures i (rw c.lines-lines.ensures.lines c.loop-i.invariant.1)
          (rw c.lines-lines.ensures.lines (labelled g d))),
    )

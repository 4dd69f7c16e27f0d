use Rattle.std.proofs.Common.{◌≡◌, ◌<◌, ◌+◌, ℤ, ℕ, List, length, get_or, subst, sym, ap, ◌∙◌, arith}
use Rattle.std.proofs.lemmas.List.{length-map}
use Rattle.sfm_kind.specs.Kinds.{kind_places}
use Rattle.sfm_cert.specs.Labels.{label_in, labels_of}
use Rattle.sfm_cert.specs.Solved.{form_of}
use Rattle.sfm_cert.specs.Spots.{spot_label}
use Rattle.sfm_cert.proofs.AnswerLines.{item_at}
use Rattle.sfm_cert.proofs.InstanceLengths.{few_lines_of}
use Rattle.sfm_cert.proofs.Labels.{length-labels, stands_before, stands_label}
use Rattle.sfm_readback.specs.Lines.{IsRowLine}
use Rattle.sfm_readback.specs.Reading.{EndsStuck, TakesSome}
use Rattle.sfm_met.proofs.Reading.{IsDue, RowsSoFar, rows_begin, rows_more, rows_stop, rows_end}
use Rattle.sfm_met.proofs.read.read_side.Goals.{After-elements-width}
use Rattle.sfm_met.proofs.read.read_side.Goals as goal

pub loop-term-init : goal.loop-term-init
loop-term-init c = (
  rw c.new-rows.ensures (rows_begin c.args.word.now (form_of c.args.instance.now) c.args.text.now
      c.args.cursor.now c.requires),
  rw (← c.lines-lines.ensures.lines) c.first-spot.ensures,
)

-- a term is left
more : (c : After-elements-width) → c.loop-term.term-index < length c.args.instance.now.terms
more c = omega (arith, c.loop-term-test.true, ap length c.terms-term-items.ensures.terms)

labelled : (c : After-elements-width)
    → c.loop-term.term-index < length (labels_of c.args.instance.now.lines)
labelled c = omega (
  arith,
  more c,
  length-labels c.args.instance.now.lines,
  c.lines-lines.ensures.lined,
)

-- the row of the term is due, of a number for each of its places
due : (c : After-elements-width)
    → IsDue c.args.word.now (form_of c.args.instance.now) c.args.text.now c.loop-term.term-index
    (length c.elements-width.result.now)
due c =
    let terms = c.args.instance.now.terms in
    let i = c.loop-term.term-index in
    record {
      below = omega (arith, more c, length-map terms (λ t. length (kind_places t)));
      is = item_at (λ t. length (kind_places t)) terms i c.term-item.result 0 (more c)
          (c.term-item.is ∙ ap (λ ts. get_or ts i c.term-item.result)
          c.terms-term-items.ensures.terms) ∙ ap length (sym c.elements-width.ensures);
    }

label : (c : After-elements-width)
    → label_in c.args.instance.now.lines (c.loop-term.term-index + 1) ≡ spot_label c.loop-term.spot
label c = stands_label c.args.instance.now.lines c.loop-term.term-index c.loop-term.spot
    c.loop-term.invariant.1 (labelled c)

before : (c : After-elements-width) → c.loop-term.spot.before < length c.args.instance.now.lines
before c = stands_before c.args.instance.now.lines c.loop-term.term-index c.loop-term.spot
    c.loop-term.invariant.1 (labelled c)

pub read_labelled-requires-clause-few : goal.read_labelled-requires-clause-few
read_labelled-requires-clause-few c =
    let few = (few_lines_of (length c.args.instance.now.names) c.args.instance.now
    c.terms-term-items.ensures.bounded c.lines-lines.ensures.lined).count in
    let l = before (goal.at.read_labelled-requires-clause-few c).After-elements-width in
    omega (arith, few, l)

pub next-spot-requires : goal.next-spot-requires
next-spot-requires c = rw c.lines-lines.ensures.lines
    (before (goal.at.next-spot-requires c).After-elements-width)

pub returns-in_err-numbers-clause-stopped : goal.returns-in_err-numbers-clause-stopped
returns-in_err-numbers-clause-stopped c =
    let d = (goal.at.returns-in_err-numbers-clause-stopped c).After-elements-width in
    let width = length c.elements-width.result.now in
    rows_stop c.args.word.now (form_of c.args.instance.now) c.args.text.now c.from_residual.result
    c.args.cursor.now c.loop-term.cursor c.loop-term.term-index width c.loop-term.rows
    c.in_err-numbers.field-0.0
    c.from_residual.ensures.1 (due d) c.loop-term.invariant.0
    (subst (λ (l : List ℕ). EndsStuck c.args.text.now c.loop-term.cursor
    (λ line. (x : List ℤ) × IsRowLine c.args.word.now l width line x)
    c.in_err-numbers.field-0.0) (sym (label d)) c.in_err-numbers.ensures.stuck)

pub loop-term-preserved : goal.loop-term-preserved
loop-term-preserved c =
    let d = (goal.at.loop-term-preserved c).After-elements-width in
    let word = c.args.word.now in
    let form = form_of c.args.instance.now in
    let text = c.args.text.now in
    let width = length c.elements-width.result.now in (
      subst (λ (rows : List (List ℤ)). RowsSoFar word form text c.args.cursor.now
          c.read_labelled.new.cursor (c.loop-term.term-index + 1) rows)
          (sym (rw c.deref.ensures.value at c.in_ok-push.ensures))
          (rows_more word form text c.args.cursor.now c.loop-term.cursor c.read_labelled.new.cursor
          c.loop-term.term-index width c.loop-term.rows c.in_ok-numbers.numbers.items (due d)
          c.loop-term.invariant.0
          (subst (λ (l : List ℕ). TakesSome text c.loop-term.cursor c.read_labelled.new.cursor
          (λ line. IsRowLine word l width line c.in_ok-numbers.numbers.items)) (sym (label d))
          c.in_ok-numbers.ensures.read)),
      rw (← c.lines-lines.ensures.lines)
          (c.next-spot.ensures c.loop-term.term-index
          (rw c.lines-lines.ensures.lines c.loop-term.invariant.1)
          (rw c.lines-lines.ensures.lines (labelled d))),
    )

pub returns-clause-read : goal.returns-clause-read
returns-clause-read c =
    let terms = c.args.instance.now.terms in
    let form = form_of c.args.instance.now in
    let n : length form.widths ≡ length c.terms-term-items.result.now = length-map terms
    (λ t. length (kind_places t)) ∙ sym (ap length c.terms-term-items.ensures.terms) in
    rows_end c.args.word.now form c.args.text.now c.args.cursor.now c.loop-term.cursor
    c.loop-term.term-index c.loop-term.rows (omega (arith, c.loop-term-test.false, n))
    c.loop-term.invariant.0

-- The terms of the line are taken out of the instance, and their origins out of the list of these.
use Rattle.std.proofs.Common.{ℕ, ◌+◌, ◌<◌, ◌++◌, List, length, take, drop, ap, subst, ◌∙◌, arith}
use Rattle.std.proofs.lemmas.List.{length-map}
use Rattle.sfm_kind.specs.Instance.{terms_in}
use Rattle.sfm_kind.specs.Meanings.{kind_places}
use Rattle.sfm_lines.specs.Lines.{tokens_of}
use Rattle.sfm_edit.specs.Edits.{IsLineNumber}
use Rattle.sfm_edit.specs.EditLines.{editing_of}
use Rattle.sfm_edit.proofs.Reasons.{drop-shape, drop-number, drop-taken}
use Rattle.sfm_edit.proofs.Widths.{IsSpan, line-span}
use Rattle.sfm_edit.proofs.editing.take_drop.Goals as goal
use Rattle.sfm_edit.proofs.editing.take_drop.Goals.{After-width-count}

-- where the terms of the line stand
span : (c : After-width-count) → IsSpan c.args.edited.now.instance.lines c.in-Some-line_place.i
    c.terms_before-first.result c.width-count.result
span c =
    let lines = c.lines-lines.ensures.lines in
    let i = c.in-Some-line_place.i in
    line-span c.args.edited.now.instance.lines i _ c.terms_before-first.result c.width-count.result
    (subst (λ (l : List ℕ). i < length l) lines c.in-Some-line_place.ensures.0)
    (c.terms_before-first.ensures ∙ ap (λ (l : List ℕ). terms_in (take i l)) lines)
    (rw lines at c.width-count.ensures)

pub returns-in_default : goal.returns-in_default
returns-in_default c = drop-shape (editing_of c.args.edited.now) (tokens_of c.args.line.now)
    c.in_default.ensures

pub returns-in_default-line_place : goal.returns-in_default-line_place
returns-in_default-line_place c =
    let text = c.in-Some.text.now in
    drop-number (editing_of c.args.edited.now) (tokens_of c.args.line.now) text c.in-Some.ensures
    (subst (λ (lines : List ℕ). (i : ℕ) → IsLineNumber (length lines) text i → ⊥)
    c.lines-lines.ensures.lines c.in_default-line_place.ensures)

pub terms_before-first-requires-clause-few : goal.terms_before-first-requires-clause-few
terms_before-first-requires-clause-few c =
    let few = c.terms-terms.ensures.bounded.few_terms in
    rw c.lines-lines.ensures.lines
    (omega (
      arith,
      c.lines-lines.ensures.lined,
      few,
      length-map c.args.edited.now.instance.terms kind_places,
    ))

pub remove_all-requires : goal.remove_all-requires
remove_all-requires c =
    let s = span (goal.at.remove_all-requires c).After-width-count in
    omega (arith, s.within, c.lines-lines.ensures.lined, c.requires)

pub returns : goal.returns
returns c =
    let s = span (goal.at.returns c).After-width-count in
    let i = c.in-Some-line_place.i in
    let text = c.in-Some.text.now in
    let kept = c.args.edited.now.kept in
    let lines = c.args.edited.now.instance.lines in
    let number = subst (λ (l : List ℕ). IsLineNumber (length l) text i) c.lines-lines.ensures.lines
    c.in-Some-line_place.ensures in
    let left = ap (λ (n : ℕ). take n kept ++ drop
    (c.terms_before-first.result + c.width-count.result) kept) s.first_is
    ∙ ap (λ (n : ℕ). take (terms_in (take i lines)) kept ++ drop n kept) s.next_is in
    drop-taken (editing_of c.args.edited.now) (tokens_of c.args.line.now) text c.in-Some.ensures i
    (record { instance = c.drop_line.new.self; kept = c.remove_all.new.self })
    number c.drop_line.ensures.version c.drop_line.ensures.names c.drop_line.ensures.terms
    c.drop_line.ensures.lines (c.remove_all.ensures ∙ left)

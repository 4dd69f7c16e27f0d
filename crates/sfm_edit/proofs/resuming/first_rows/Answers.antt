use Rattle.std.proofs.Common.{[], ◌∷◌, ◌++◌, ℕ, List, ℤ, Option, map, take, sym, ap, ◌∙◌}
use Rattle.std.specs.Prelude.{zip}
use Rattle.sfm_kind.specs.declared.kind.Kind.{Kind}
use Rattle.sfm_edit.specs.Resuming.{first_of}
use Rattle.sfm_edit.proofs.FirstBases.{old-row, row-at, firsts-more, firsts-all}
use Rattle.sfm_edit.proofs.resuming.first_rows.Goals as goal

pub first_row-requires-clause-old : goal.first_row-requires-clause-old
first_row-requires-clause-old c =
    old-row c.args.terms.now c.args.kept.now c.args.rows.now c.requires.old c.requires.count
    c.loop-j.j c.index-terms-j.result c.loop-j-test.true c.at.result c.at.ensures

pub loop-j-preserved : goal.loop-j-preserved
loop-j-preserved c =
    let kinds = c.args.terms.now in
    let kept = c.args.kept.now in
    let rows = c.args.rows.now in
    let j = c.loop-j.j in
    let kind = c.index-terms-j.result in
    let row = c.in_ok-row.ensures ∙ row-at kinds kept rows j kind c.at.result c.index-terms-j.is
    c.at.ensures in
    let before = map (λ (pair : Kind × Option ℕ). first_of rows pair.0 pair.1)
    (take j (zip kinds kept)) in
    c.in_ok-push.ensures
    ∙ (ap (λ (x : List ℤ). c.loop-j.firsts ++ x ∷ []) c.deref.ensures.value
    ∙ (ap (λ (l : List (List ℤ)). l ++ c.in_ok-row.row.items ∷ []) c.loop-j.invariant
    ∙ (ap (λ (x : List ℤ). before ++ x ∷ []) row
    ∙ sym (firsts-more kinds kept rows j kind c.requires.count c.loop-j-test.true))))

pub returns : goal.returns
returns c = c.loop-j.invariant ∙ firsts-all c.args.terms.now c.args.kept.now c.args.rows.now
    c.loop-j.j c.requires.count c.loop-j-test.false

use Rattle.std.proofs.Common.{◌≡◌, ◌-◌, ◌++◌, List, ◌∷◌, length, replicate, codes, None, ap, ◌∙◌, arith}
use Rattle.sfm_kind.specs.declared.kind.Kind.{Kind}
use Rattle.sfm_lines.specs.Lines.{tokens_of}
use Rattle.sfm_edit.specs.EditLines.{editing_of, IsEditRefusal}
use Rattle.sfm_edit.proofs.Keeping.{added-longer}
use Rattle.sfm_edit.proofs.Reasons.{on-refusal, add-refused, add-taken}
use Rattle.sfm_edit.proofs.editing.take_add.Goals as goal

pub returns-in_err-add_line : goal.returns-in_err-add_line
returns-in_err-add_line c =
    let old = editing_of c.args.edited.now in
    let line = c.args.line.now in
    let end = c.in_err-add_line.field-0.0 in
    on-refusal _ (IsEditRefusal old (codes "add" ∷ tokens_of line)) c.from_residual.result end
    c.from_residual.ensures.1
    (add-refused old line c.requires.good end c.in_err-add_line.ensures.judged)

pub push_added-requires : goal.push_added-requires
push_added-requires c =
    let more = added-longer c.args.edited.now.instance c.add_line.new.instance
    (tokens_of c.args.line.now) c.in_ok-add_line.ensures.judged.adds in
    omega (arith, c.requires.count, more, ap (λ (l : List Kind). length l) c.terms.ensures.terms)

pub returns : goal.returns
returns c =
    let kept = c.args.edited.now.kept in
    let count : length c.terms.result.now ≡ length
    c.add_line.new.instance.terms = ap (λ (l : List Kind). length l) c.terms.ensures.terms in
    let more = ap (λ n. kept ++ replicate (n - length kept) None) count
    ∙ ap (λ n. kept ++ replicate (length c.add_line.new.instance.terms - n) None)
    c.requires.count in
    rw (c.in_ok-push_added.ensures ∙ more)
    (add-taken (editing_of c.args.edited.now) c.args.line.now c.requires.good
    c.add_line.new.instance c.in_ok-add_line.ensures.judged)

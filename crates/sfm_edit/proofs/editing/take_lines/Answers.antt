use Rattle.std.proofs.Common.{ℕ, List, ◌++◌, refl, sym, ap, subst, ◌∙◌, arith}
use Rattle.sfm_lines.specs.Lines.{tokens_of}
use Rattle.sfm_side.specs.Frame.{IsReadTo, left_of, text_in}
use Rattle.sfm_side.proofs.Framing.{opened, open-refused, left-refused, line-refused, line-read, end-read}
use Rattle.sfm_edit.specs.Edits.{Editing, edits_form}
use Rattle.sfm_edit.specs.EditLines.{editing_of}
use Rattle.sfm_edit.specs.Origins.{AreOrigins}
use Rattle.sfm_edit.proofs.LineLengths.{line-short}
use Rattle.sfm_edit.proofs.Reasons.{edits-framed}
use Rattle.sfm_edit.proofs.Keeping.{origins-first, origins-edited, names-edited}
use Rattle.sfm_edit.proofs.editing.take_lines.Goals as goal

pub loop-line-init : goal.loop-line-init
loop-line-init c =
    let instance = c.args.edited.now.instance in
    let frame = c.in_ok-frame.frame in
    record {
      read = subst (IsReadTo (edits_form instance) c.args.text.now (left_of frame))
          (sym c.requires.nothing) (opened (edits_form instance) c.args.text.now frame
          c.in_ok-frame.ensures.opened);
      whole = c.in_ok-frame.ensures.opened.whole;
      names = refl;
      origins = subst (λ (e : Editing). AreOrigins instance.terms e.instance.terms e.kept)
          (sym c.requires.nothing) (origins-first instance.terms);
    }

pub returns-in_err-frame-clause-refused : goal.returns-in_err-frame-clause-refused
returns-in_err-frame-clause-refused c =
    open-refused (edits_form c.args.edited.now.instance) c.args.text.now c.from_residual.result
    c.in_err-frame.field-0.0 c.from_residual.ensures.1 c.in_err-frame.ensures.refused

pub returns-in_err-line-clause-refused : goal.returns-in_err-line-clause-refused
returns-in_err-line-clause-refused c =
    let instance = c.args.edited.now.instance in
    let frame = c.loop-line.frame in
    left-refused (edits_form instance) c.args.text.now (edits-framed instance) (left_of frame)
    (editing_of c.loop-line.edited) c.loop-line.invariant.read
    c.from_residual-in_err-line.result c.in_err-line.field-0.0 c.from_residual-in_err-line.ensures.1
    (text_in frame) c.loop-line.invariant.whole c.in_err-line.ensures.next

pub take_line-requires : goal.take_line-requires
take_line-requires c =
    let before = c.loop-line.invariant in
    let (inner, next) = rw c.in-Some.is at c.in_ok-line.ensures.next in
    let line : ℕ × List ℕ = (c.in-Some.line.number, c.in-Some.line.bytes.now) in
    record {
      count = before.origins.count;
      short = omega (
        arith,
        before.read.short,
        line-short c.args.text.now before.read.done (left_of c.next_line.new.self) line
            (before.read.content ∙ ap (λ (left : List (ℕ × List ℕ)). before.read.done ++ left)
            next),
      );
      good = inner.good;
    }

pub returns-in-Err-Fault-clause-refused : goal.returns-in-Err-Fault-clause-refused
returns-in-Err-Fault-clause-refused c =
    let instance = c.args.edited.now.instance in
    let (inner, next) = rw c.in-Some.is at c.in_ok-line.ensures.next in
    rw c.in-Err-Fault.field-0-is (line-refused (edits_form instance) c.args.text.now
    (edits-framed instance) (left_of c.loop-line.frame) (editing_of c.loop-line.edited)
    c.loop-line.invariant.read
    c.in-Some.line.number c.in-Some.line.bytes.now (left_of c.next_line.new.self)
    c.in-Err-Fault.reason next inner (rw c.in-Err-Fault.field-0-is at c.in-Err-Fault.ensures))

pub loop-line-preserved : goal.loop-line-preserved
loop-line-preserved c =
    let instance = c.args.edited.now.instance in
    let before = c.loop-line.invariant in
    let (inner, next) = rw c.in-Some.is at c.in_ok-line.ensures.next in
    let line = c.in-Some.line.bytes.now in
    let old = editing_of c.loop-line.edited in
    let new = editing_of c.take_line.new.edited in
    let said = c.in-Ok.ensures in
    record {
      read = line-read (edits_form instance) c.args.text.now (edits-framed instance)
          (left_of c.loop-line.frame) old before.read
          c.in-Some.line.number line (left_of c.next_line.new.self) new next inner said.good
          said.says;
      whole = c.next_line.ensures.text ∙ before.whole;
      names = names-edited old new (tokens_of line) said.says ∙ before.names;
      origins = origins-edited instance.terms old new (tokens_of line) said.says before.origins;
    }

pub returns-clause-read : goal.returns-clause-read
returns-clause-read c =
    let instance = c.args.edited.now.instance in
    end-read (edits_form instance) c.args.text.now (edits-framed instance)
    (left_of c.loop-line.frame) (editing_of c.loop-line.edited) c.loop-line.invariant.read
    (rw c.in_default.is at c.in_ok-line.ensures.next)

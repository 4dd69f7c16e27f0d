use Rattle.std.proofs.Common.{ℕ, ◌+◌, List, length, refl, sym, ap, ◌∙◌}
use Rattle.sfm_lines.specs.Lines.{lines_of}
use Rattle.sfm_text.specs.Cursor.{content_left}
use Rattle.sfm_side.specs.Frame.{is_empty, is_header}
use Rattle.sfm_side.proofs.frame.Frame.open.Goals as goal

pub returns-in_default-clause-refused : goal.returns-in_default-clause-refused
returns-in_default-clause-refused c =
    let whole = c.in_default.ensures.text ∙ c.new-lines.ensures.text in
    is_empty c.if-text-gt-TEXT_LIMIT.false
    (sym c.new-lines.ensures.content ∙ c.in_default.ensures.next)
    (c.number.ensures ∙ (c.in_default.ensures.end
    ∙ ap (λ (text : List ℕ). length (lines_of text) + 1) whole)) refl

pub returns-in-Some-header_reason-clause-refused : goal.returns-in-Some-header_reason-clause-refused
returns-in-Some-header_reason-clause-refused c =
    is_header c.if-text-gt-TEXT_LIMIT.false c.in-Some.first.bytes.now
    (content_left c.next_content.new.self)
    (sym c.new-lines.ensures.content ∙ c.in-Some.ensures.next) c.in-Some-header_reason.ensures

pub returns-clause-opened : goal.returns-clause-opened
returns-clause-opened c = record {
  short = c.if-text-gt-TEXT_LIMIT.false;
  first = (c.in-Some.first.number, c.in-Some.first.bytes.now);
  content = sym c.new-lines.ensures.content ∙ c.in-Some.ensures.next;
  head = c.in_default-header_reason.ensures;
  whole = c.in-Some.ensures.text ∙ c.new-lines.ensures.text;
}

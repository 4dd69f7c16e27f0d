use Rattle.sfm_text.specs.Cursor.{content_left}
use Rattle.sfm_side.proofs.frame.Frame.past_end.Goals as goal

pub returns-in-Some-clause-end : goal.returns-in-Some-clause-end
returns-in-Some-clause-end c = (
  c.in-Some.line.bytes.now,
  content_left c.next_content.new.self,
  c.in-Some.ensures.next,
  c.past_reason.ensures,
)

use Rattle.std.proofs.Common.{◌≡◌, ℕ, ◌+◌, List, [], ◌∷◌, length, codes, refl, ap, ◌∙◌}
use Rattle.sfm_lines.specs.Lines.{lines_of}
use Rattle.sfm_text.specs.Cursor.{content_left}
use Rattle.sfm_text.specs.declared.end.TextEnd.{TextEnd}
use Rattle.sfm_text.specs.declared.end.TextEnd.TheVariants.{Refused, Memory}
use Rattle.sfm_side.specs.Frame.{IsLineWith, IsPastRefusal, IsLeftRefusal, is_none, is_next, is_past, text_in}
use Rattle.sfm_side.proofs.frame.Frame.next_line.Goals as goal

pub returns-in_default-clause-next : goal.returns-in_default-clause-next
returns-in_default-clause-next c =
    is_none c.in_default.ensures.next
    (c.number.ensures ∙ (c.in_default.ensures.end
    ∙ ap (λ (text : List ℕ). length (lines_of text) + 1) c.in_default.ensures.text)) refl

pub returns-in-Faulty-clause-next : goal.returns-in-Faulty-clause-next
returns-in-Faulty-clause-next c =
    is_next c.in-Some.line.bytes.now (content_left c.next_content.new.self) c.in-Some.ensures.next
    c.in-Faulty.ensures

-- what is refused behind the end is refused of what is left from the end on
from-end : (text : List ℕ) (left rest : List (ℕ × List ℕ)) (last : ℕ × List ℕ) (end : TextEnd)
    → left ≡ last ∷ rest → IsLineWith last.1 (codes "end" ∷ []) → IsPastRefusal rest end
    → IsLeftRefusal text left end
from-end text left rest last Memory e is h = h
from-end text left rest last (Refused number reason) e is (line, after, next, why) =
    is_past last line after (e ∙ ap (λ (l : List (ℕ × List ℕ)). last ∷ l) next) is why

pub returns-in-Some-past_end-clause-next : goal.returns-in-Some-past_end-clause-next
returns-in-Some-past_end-clause-next c =
    from-end (text_in c.args.self.now) _ _ (c.in-Some.line.number, c.in-Some.line.bytes.now)
    c.in-Some-past_end.end c.in-Some.ensures.next c.in-End.ensures
    c.in-Some-past_end.ensures.end

pub returns-in-None-clause-next : goal.returns-in-None-clause-next
returns-in-None-clause-next c = (
  (c.in-Some.line.number, c.in-Some.line.bytes.now),
  c.in-Some.ensures.next ∙ ap (λ (l : List (ℕ × List ℕ)).
      (c.in-Some.line.number, c.in-Some.line.bytes.now) ∷ l) c.in-None.ensures.end,
  c.in-End.ensures,
)

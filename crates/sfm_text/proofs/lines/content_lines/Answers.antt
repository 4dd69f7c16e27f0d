use Rattle.std.proofs.Common.{ℕ, subst, List, [], ◌∷◌, ◌++◌, append_assoc, sym, ap, ◌∙◌}
use Rattle.std.proofs.lemmas.List.{map-append}
use Rattle.std.proofs.lemmas.List.Elements.{All-push}
use Rattle.sfm_text.specs.Places.{TextLine, span_of, LiesIn}
use Rattle.sfm_text.specs.Cursor.{placed_left, line_of}
use Rattle.sfm_text.proofs.lines.content_lines.Goals as goal

pub loop-line-preserved : goal.loop-line-preserved
loop-line-preserved c =
    let before = c.loop-line.invariant in
    let line = line_of c.in-Some.line in
    record {
      text = c.in-Some.ensures.text ∙ before.text;
      done = before.done ++ line ∷ [];
      left = before.left ∙ (ap (λ (more : List TextLine). before.done ++ more)
          c.in-Some.ensures.places ∙ sym
          (append_assoc before.done (line ∷ []) (placed_left c.next_content.new.self)));
      spans = c.in_ok-push.ensures.items
          ∙ (ap (λ (items : List (ℕ × ℕ × ℕ)). items ++ span_of line ∷ []) before.spans
          ∙ sym (map-append span_of before.done (line ∷ [])));
      placed = All-push (LiesIn c.args.text.now) before.done line before.placed
          (subst (λ (text : List ℕ). LiesIn text line) before.text c.in-Some.ensures.placed);
    }

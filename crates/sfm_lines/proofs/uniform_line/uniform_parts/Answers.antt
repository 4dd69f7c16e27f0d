-- Before the colon stand the number, the word and the cap.
use Rattle.std.proofs.Common.{◌∷◌, [], List, ℕ, Bor, length, codes, refl, ap, arith}
use Rattle.std.proofs.lemmas.List.{length-map}
use Rattle.sfm_lines.specs.Lines.{texts_of}
use Rattle.sfm_lines.proofs.Colons.{colon-same}
use Rattle.sfm_lines.proofs.Pieces.{some-texts, none-texts, uniform-word, uniform-made}
use Rattle.sfm_lines.proofs.uniform_line.uniform_parts.Goals as goal

pub returns-in_default : goal.returns-in_default
returns-in_default c = λ parts h. c.in_default.ensures (h.number ∷ codes "uniform" ∷ h.cap ∷ [])
    h.elements h.cut

pub returns-then-before-ne3 : goal.returns-then-before-ne3
returns-then-before-ne3 c = λ parts h.
    let before = c.in-Some.before.now in
    let same = colon-same (texts_of c.args.tokens.now) (h.number ∷ codes "uniform" ∷ h.cap ∷ [])
    h.elements (texts_of before) (texts_of c.in-Some.elements.now) h.cut c.in-Some.ensures in
    absurd (omega (
      arith,
      c.if-before-ne3.true,
      ap length same.0,
      length-map before (λ (t : Bor (List ℕ)). t.now),
    ))

pub returns-then-is_empty : goal.returns-then-is_empty
returns-then-is_empty c = λ parts h.
    let elements = c.in-Some.elements.now in
    let same = colon-same (texts_of c.args.tokens.now) (h.number ∷ codes "uniform" ∷ h.cap ∷ [])
    h.elements (texts_of c.in-Some.before.now) (texts_of elements) h.cut c.in-Some.ensures in
    none-texts elements h.elements same.1 h.some c.if-is_empty.ensures

pub returns-then-not-is_word : goal.returns-then-not-is_word
returns-then-not-is_word c = λ parts h.
    let before = c.in-Some.before.now in
    let same = colon-same (texts_of c.args.tokens.now) (h.number ∷ codes "uniform" ∷ h.cap ∷ [])
    h.elements (texts_of before) (texts_of c.in-Some.elements.now) h.cut c.in-Some.ensures in
    c.if-not-is_word.ensures (uniform-word before h.number h.cap _ same.0)

pub returns : goal.returns
returns c = rw (c.in_ok-parts.ensures)
    (uniform-made (texts_of c.args.tokens.now) c.in-Some.before.now c.in-Some.elements.now _ _ _ _
    c.in-Some.ensures c.if-before-ne3.false c.if-not-is_word.ensures
    (some-texts c.in-Some.elements.now c.if-is_empty.ensures) refl)

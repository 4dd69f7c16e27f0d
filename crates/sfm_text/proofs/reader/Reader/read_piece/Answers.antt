use Rattle.std.proofs.Common.{ℕ, List, ◌++◌, refl, ◌∙◌}
use Rattle.sfm_text.specs.Standing.{Stands, HasRead, IsOpen, progress_of}
use Rattle.sfm_text.proofs.Standing.{piece-long, piece-faulty, piece-read, on_ok}
use Rattle.sfm_text.proofs.reader.Reader.read_piece.Goals as goal

pub returns-then-count-gt-TEXT_LIMIT-clause-stands
    : goal.returns-then-count-gt-TEXT_LIMIT-clause-stands
returns-then-count-gt-TEXT_LIMIT-clause-stands c =
    λ text stands. piece-long c.args.self.now _ text c.args.piece.now c.min-count.ensures
    c.if-count-gt-TEXT_LIMIT.true stands

pub returns-then-is_some-clause-stands : goal.returns-then-is_some-clause-stands
returns-then-is_some-clause-stands c =
    λ text stands. piece-faulty c.args.self.now _ text c.args.piece.now c.min-count.ensures refl
    c.if-is_some.ensures stands

pub returns-clause-stands : goal.returns-clause-stands
returns-clause-stands c =
    let old = c.args.self.now in
    let new = c.read_lines.new.self in
    let piece = c.args.piece.now in
    on_ok {P = (text : List ℕ) → IsOpen (progress_of old) old.rest.items text
    → HasRead new (text ++ piece)}
    {Q = (text : List ℕ) → Stands old text → Stands new (text ++ piece)} c.read_lines.result
    (λ all text stands. piece-read old new text piece
    (c.read_lines.ensures.count ∙ c.min-count.ensures) c.if-is_some.ensures (all text) stands)
    c.read_lines.ensures.read

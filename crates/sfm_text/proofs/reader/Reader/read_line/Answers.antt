use Rattle.std.proofs.Common.{◌≡◌, ℕ, List, [], ◌∷◌, ◌++◌, refl, sym, ap, ◌∙◌, arith}
use Rattle.std.proofs.lemmas.List.{nil_from_length}
use Rattle.sfm_text.specs.Standing.{HasRead, IsOpen, JudgesLine, progress_of}
use Rattle.sfm_text.proofs.Standing.{line-read, on_ok}
use Rattle.sfm_lines.proofs.Cuts.{none-count}
use Rattle.sfm_text.proofs.reader.Reader.read_line.Goals as goal

pub returns-then-is_empty-clause-read : goal.returns-then-is_empty-clause-read
returns-then-is_empty-clause-read c =
    let old = c.args.self.now in
    let new = c.judge.new.self in
    let front = c.args.front.now in
    let none : old.rest.items ≡ [] = nil_from_length old.rest.items
    (omega (arith, old.rest.ok.0, none-count old.rest.len c.if-is_empty.ensures)) in
    let whole : front ≡ old.rest.items ++ front = ap (λ (r : List ℕ). r ++ front) (sym none) in
    on_ok {P = JudgesLine old front new}
    {Q = (text : List ℕ) → IsOpen (progress_of old) old.rest.items text
    → HasRead new (text ++ front ++ 10 ∷ [])} c.judge.result
    (λ judged text is. line-read text front front old new c.requires.plain is whole
    (c.judge.ensures.rest ∙ none) judged)
    c.judge.ensures.judged

pub returns-clause-read : goal.returns-clause-read
returns-clause-read c =
    let old = c.args.self.now in
    let new = c.judge-2.new.self in
    let front = c.args.front.now in
    let piece = c.deref.result.now in
    let whole : piece ≡ old.rest.items ++ front = rw (
      c.deref.ensures.value,
      c.in_ok-extend_from_slice.ensures.items,
      c.replace-line.ensures.value,
    ) refl in
    let none : new.rest.items ≡ [] = rw (
      c.judge-2.ensures.rest,
      c.replace-line.ensures.after,
      c.new.ensures.items,
    ) refl in
    on_ok {P = JudgesLine old piece new}
    {Q = (text : List ℕ) → IsOpen (progress_of old) old.rest.items text
    → HasRead new (text ++ front ++ 10 ∷ [])} c.judge-2.result
    (λ judged text is. line-read text front piece old new c.requires.plain is whole none judged)
    c.judge-2.ensures.judged

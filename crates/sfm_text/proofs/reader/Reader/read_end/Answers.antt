use Rattle.std.proofs.Common.{◌≡◌, ◌<◌, ℕ, List, [], length, refl, arith}
use Rattle.std.proofs.lemmas.List.{nil_from_length}
use Rattle.sfm_text.specs.Standing.{HasRead, HasReadAll, JudgesLine}
use Rattle.sfm_text.proofs.Standing.{faulty-last, end-read, line-last, is-open, on_ok, some-count}
use Rattle.sfm_lines.proofs.Cuts.{none-count}
use Rattle.sfm_text.proofs.reader.Reader.read_end.Goals as goal

pub returns-then-is_some : goal.returns-then-is_some
returns-then-is_some c = record {
  read = λ text read. faulty-last c.args.self.now text
      c.if-is_some.ensures read;
}

pub returns-then-is_empty : goal.returns-then-is_empty
returns-then-is_empty c =
    let old = c.args.self.now in
    let none : old.rest.items ≡ [] = nil_from_length old.rest.items
    (omega (arith, old.rest.ok.0, none-count old.rest.len c.if-is_empty.ensures)) in
    record { read = λ text read. end-read old text c.if-is_some.ensures none read }

pub returns : goal.returns
returns c =
    let old = c.args.self.now in
    let new = c.judge.new.self in
    let piece = c.deref.result.now in
    let some : 0 < length old.rest.items = omega (
      arith,
      old.rest.ok.0,
      some-count old.rest.len c.if-is_empty.ensures,
    ) in
    let same : piece ≡ old.rest.items = rw (c.deref.ensures.value, c.replace-line.ensures.value)
    refl in
    record {
      read = on_ok {P = JudgesLine old piece new}
          {Q = (text : List ℕ) → HasRead old text → HasReadAll new text} c.judge.result
          (λ judged text read. line-last text piece old new some
          (is-open old text c.if-is_some.ensures read) same judged)
          c.judge.ensures.judged;
    }

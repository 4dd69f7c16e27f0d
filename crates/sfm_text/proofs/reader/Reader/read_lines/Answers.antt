-- Each line of the piece that ends in it, and then what is left.
use Rattle.std.proofs.Common.{ℕ, [], ◌∷◌, ◌++◌, length, take, ap, ◌∙◌, arith}
use Rattle.std.proofs.lemmas.List.{length-take, length-drop}
use Rattle.sfm_text.specs.Standing.{progress_of}
use Rattle.sfm_text.proofs.Standing.{plain-front, faulty-within, left-parts, open-next, open-piece, no-fault}
use Rattle.sfm_text.proofs.reader.Reader.read_lines.Goals as goal

pub read_line-requires-clause-plain : goal.read_line-requires-clause-plain
read_line-requires-clause-plain c =
    plain-front c.loop-end.left.now c.loop-end.end c.loop-end.invariant.first

pub returns-then-is_some-clause-read : goal.returns-then-is_some-clause-read
returns-then-is_some-clause-read c = λ text is.
    let inv = c.loop-end.invariant in
    faulty-within c.read_line.new.self text c.args.piece.now inv.done c.loop-end.left.now
    c.loop-end.end inv.parts inv.first c.loop-end-test.true c.if-is_some.ensures
    (c.in_ok-read_line.ensures.read (text ++ inv.done) (inv.open_ text is))

pub loop-end-preserved : goal.loop-end-preserved
loop-end-preserved c =
    let inv = c.loop-end.invariant in
    let front = take c.loop-end.end c.loop-end.left.now in
    record {
      done = (inv.done ++ front) ++ 10 ∷ [];
      parts = left-parts c.args.piece.now inv.done c.loop-end.left.now c.loop-end.end inv.parts
          inv.first c.loop-end-test.true;
      first = c.line_end-end-in-loop-end.ensures;
      faultless = no-fault c.read_line.new.self.fault c.if-is_some.ensures;
      open_ = λ text is. open-next c.read_line.new.self text inv.done front c.if-is_some.ensures
          (c.in_ok-read_line.ensures.read (text ++ inv.done) (inv.open_ text is));
      room = omega (
        arith,
        ap length c.read_line.ensures.rest,
        c.read_line.ensures.lines,
        c.read_line.ensures.count,
        inv.room,
        c.loop-end-test.true,
        length-take {A = ℕ},
        length-drop {A = ℕ},
      );
      count = c.read_line.ensures.count ∙ inv.count;
      spent = c.read_line.ensures.spent ∙ inv.spent;
    }

pub returns-clause-read : goal.returns-clause-read
returns-clause-read c = λ text is.
    let inv = c.loop-end.invariant in
    open-piece c.loop-end.self.fault (progress_of c.loop-end.self) text c.args.piece.now inv.done
    c.loop-end.left.now c.loop-end.self.rest.items c.extend_from_slice.new.self.items
    c.loop-end.end inv.faultless (inv.open_ text is) c.in_ok-extend_from_slice.ensures.items
    inv.parts inv.first c.loop-end-test.false

-- What stands behind the one `=` is the same for each cut, and has not exactly one `-`.
use Rattle.std.proofs.Common.{refl}
use Rattle.sfm_lines.proofs.Ranks.{cut-same}
use Rattle.sfm_lines.proofs.graphic_line.cut_edge.Goals as goal

pub returns-in_default-cut_once : goal.returns-in_default-cut_once
returns-in_default-cut_once c = λ entry h.
    let (name, behind) = cut-same 61 c.args.token.now entry.0 h.behind c.in-Some.element.now
    c.in-Some.behind.now h.named c.in-Some.ensures in
    let (tail, head, ends, is) = h.labels in
    c.in_default-cut_once.ensures tail head (rw behind at ends)

pub returns : goal.returns
returns c = record {
  behind = c.in-Some.behind.now;
  named = c.in-Some.ensures;
  labels = (
    c.in-Some-cut_once.tail.now,
    c.in-Some-cut_once.head.now,
    c.in-Some-cut_once.ensures,
    refl,
  );
}

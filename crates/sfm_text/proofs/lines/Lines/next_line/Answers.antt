use Rattle.std.proofs.Common.{ap, length, arith}
use Rattle.sfm_text.proofs.LineCuts.{lines_from-at, lies-at}
use Rattle.sfm_lines.proofs.Cuts.{rest-is, not_empty}
use Rattle.sfm_text.proofs.lines.Lines.next_line.Goals as goal

pub invariant_of-self-clause-whole : goal.invariant_of-self-clause-whole
invariant_of-self-clause-whole c =
    let s = c.args.self.now in
    let first = lines_from-at s.text.now s.number s.at c.line_end-end.result c.min.result
    c.without_return.result.now _ (rest-is s.text.now s.at s.within)
    (not_empty _ (c.if-is_empty.ensures)) c.line_end-end.ensures c.min.ensures
    c.without_return.ensures.stripped in
    omega (arith, ap length first, s.whole)

pub returns-clause-next : goal.returns-clause-next
returns-clause-next c =
    let s = c.args.self.now in
    lines_from-at s.text.now s.number s.at c.line_end-end.result c.min.result
    c.without_return.result.now _ (rest-is s.text.now s.at s.within)
    (not_empty _ (c.if-is_empty.ensures)) c.line_end-end.ensures c.min.ensures
    c.without_return.ensures.stripped

pub returns-clause-placed : goal.returns-clause-placed
returns-clause-placed c =
    let s = c.args.self.now in
    lies-at s.text.now s.number s.at c.line_end-end.result c.without_return.result.now _
    (rest-is s.text.now s.at s.within) s.within c.without_return.ensures.stripped

use Rattle.sfm_lines.specs.Lines.{tokens_of}
use Rattle.sfm_weights.proofs.Entries.{entries-of}
use Rattle.sfm_weights.proofs.plain.without_weights.Goals as goal

pub returns-in_default-2 : goal.returns-in_default-2
returns-in_default-2 c = λ plain entries h.
    let (head, cut, copied) = rw c.in-Some.is at c.in_ok-elements.ensures in
    let none = rw c.in_default-2.is at c.in_ok-behind.ensures in
    none entries h.behind (entries-of (tokens_of c.args.line.now) plain entries head
    (tokens_of c.in-Some.elements.now) cut h)

use Rattle.std.proofs.Common.{refl}
use Rattle.std.proofs.lemmas.Bool.{false≢true}
use Rattle.sfm_lines.specs.Lines.{tokens_of}
use Rattle.sfm_lines.specs.declared.word.TermWord.TheVariants.{ConcaveWord}
use Rattle.sfm_passes.proofs.LongReasons.{long-shape, no-concave, concave-number, concave-many}
use Rattle.sfm_passes.proofs.long_line.concave_reason.Goals as goal

pub returns-in_default : goal.returns-in_default
returns-in_default c = long-shape c.args.instance.now ConcaveWord (tokens_of c.args.line.now)
    (λ parts h. c.in_default.ensures h.0 h.1 h.2)

pub returns-then-not-are_counts : goal.returns-then-not-are_counts
returns-then-not-are_counts c =
    let (before, len, cut) = c.in-Some.ensures in
    let tokens = tokens_of c.args.line.now in
    let behind = tokens_of c.in-Some.elements.now in
    long-shape c.args.instance.now ConcaveWord tokens
    (no-concave tokens before behind cut
    (λ count. false≢true (c.if-not-are_counts.ensures.1
    (rw (← len, c.token_count-places.ensures) count))))

pub returns-then-not-first_hold : goal.returns-then-not-first_hold
returns-then-not-first_hold c =
    let (before, len, cut) = c.in-Some.ensures in
    concave-number c.args.instance.now (tokens_of c.args.line.now) c.requires.long before
    (tokens_of c.in-Some.elements.now) cut
    (rw (len, ← c.token_count-places.ensures) (c.if-not-are_counts.ensures.0 refl))
    (rw len c.if-not-first_hold.ensures)

pub returns : goal.returns
returns c =
    let (before, len, cut) = c.in-Some.ensures in
    c.elements_reason.ensures ConcaveWord _
    (concave-many c.args.instance.now (tokens_of c.args.line.now) c.requires.long before
    (tokens_of c.in-Some.elements.now) cut
    (rw (len, ← c.token_count-places.ensures) (c.if-not-are_counts.ensures.0 refl))
    (rw len c.if-not-first_hold.ensures))

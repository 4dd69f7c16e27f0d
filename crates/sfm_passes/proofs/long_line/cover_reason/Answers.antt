use Rattle.std.proofs.Common.{length, ap, arith}
use Rattle.sfm_lines.specs.Lines.{tokens_of}
use Rattle.sfm_lines.specs.declared.word.TermWord.TheVariants.{CoverWord}
use Rattle.sfm_passes.proofs.LongReasons.{long-shape, no-cover, cover-number, cover-many}
use Rattle.sfm_passes.proofs.long_line.cover_reason.Goals as goal

pub returns-in_default : goal.returns-in_default
returns-in_default c = absurd (omega (arith, c.requires.long, ap length c.in_default.ensures.cut))

pub returns-then-has_separator_in : goal.returns-then-has_separator_in
returns-then-has_separator_in c =
    let tokens = tokens_of c.args.line.now in
    long-shape c.args.instance.now CoverWord tokens (no-cover tokens c.if-has_separator_in.ensures)

pub returns-then-not-is_number_of : goal.returns-then-not-is_number_of
returns-then-not-is_number_of c =
    cover-number c.args.instance.now (tokens_of c.args.line.now) c.requires.long
    c.if-has_separator_in.ensures c.in-Some.number.now (tokens_of c.in-Some.elements.now)
    c.in-Some.ensures.cut c.if-not-is_number_of.ensures

pub returns : goal.returns
returns c =
    c.elements_reason.ensures CoverWord _
    (cover-many c.args.instance.now (tokens_of c.args.line.now) c.requires.long
    c.if-has_separator_in.ensures c.in-Some.number.now (tokens_of c.in-Some.elements.now)
    c.in-Some.ensures.cut c.if-not-is_number_of.ensures)

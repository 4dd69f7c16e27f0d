use Rattle.std.proofs.Common.{length, ap, arith}
use Rattle.sfm_lines.specs.Lines.{tokens_of}
use Rattle.sfm_passes.proofs.EntryTerms.{entry-short}
use Rattle.sfm_passes.proofs.entry_line.entry_line_term.Goals as goal

pub returns-in_default : goal.returns-in_default
returns-in_default c = entry-short c.args.instance.now c.args.number.now (tokens_of c.args.rest.now)
    (omega (arith, ap length c.in_default.ensures.cut))

pub returns-then-not-has_token : goal.returns-then-not-has_token
returns-then-not-has_token c =
    entry-short c.args.instance.now c.args.number.now (tokens_of c.args.rest.now)
    (omega (arith, ap length c.in-Some.ensures.cut, c.if-not-has_token.ensures))

pub returns : goal.returns
returns c = rw c.in-Some.ensures.cut c.entries_term.ensures

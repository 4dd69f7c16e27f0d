use Rattle.std.proofs.Common.{◌∷◌, refl, arith}
use Rattle.sfm_lines.specs.Lines.{tokens_of}
use Rattle.sfm_lines.specs.declared.word.RankKind.TheVariants.{TransversalRank}
use Rattle.sfm_passes.proofs.EntryTerms.{entry-again}
use Rattle.sfm_passes.proofs.LongLabels.{many-entries}
use Rattle.sfm_passes.proofs.PieceCuts.{by-yes, by-no}
use Rattle.sfm_passes.proofs.entry_line.entries_reason.Goals as goal

pub returns-then-has_token : goal.returns-then-has_token
returns-then-has_token c = many-entries c.args.instance.now TransversalRank tt c.args.number.now
    c.args.colon.now (tokens_of c.args.entries.now)
    (c.args.colon.now ∷ tokens_of c.args.entries.now) refl c.requires.some c.requires.names
    c.in_default.ensures c.if-has_token.ensures

pub returns-then-branch : goal.returns-then-branch
returns-then-branch c = entry-again c.args.instance.now c.args.number.now c.args.colon.now
    (tokens_of c.args.entries.now) c.requires.some c.requires.names c.in_default.ensures
    (by-yes _ _ _ c.if-branch.true c.in_ok-has_repeated_slot.ensures)

pub returns : goal.returns
returns c = record {
  good = c.in_default.ensures;
  few = omega (arith, c.if-has_token.ensures);
  once = by-no _ _ _ c.if-branch.false c.in_ok-has_repeated_slot.ensures;
}

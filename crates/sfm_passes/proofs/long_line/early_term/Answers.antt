use Rattle.std.proofs.Common.{◌≢◌, rules}
use Rattle.sfm_lines.specs.declared.word.TermWord.TheVariants.{RankWord}
use Rattle.sfm_passes.proofs.EntryTerms.{not-rank}
use Rattle.sfm_passes.proofs.long_line.early_term.Goals as goal

pub returns-then-ne : goal.returns-then-ne
returns-then-ne c =
    let other : c.args.word ≢ RankWord = search rules in
    not-rank c.args.word _ other

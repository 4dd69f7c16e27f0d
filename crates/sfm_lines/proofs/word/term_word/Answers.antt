use Rattle.std.proofs.Common.{◌≢◌}
use Rattle.sfm_lines.specs.Words.{word_text}
use Rattle.sfm_lines.specs.declared.word.TermWord.{TermWord}
use Rattle.sfm_lines.specs.declared.word.TermWord.TheVariants.{WeightWord, CutWord, NeedWord, CoverWord, TableWord, ConcaveWord, RankWord}
use Rattle.sfm_lines.proofs.word.term_word.Goals as goal

pub returns-then-is_word : goal.returns-then-is_word
returns-then-is_word c = c.if-is_word.ensures

pub returns-then-is_word-2 : goal.returns-then-is_word-2
returns-then-is_word-2 c = c.if-is_word-2.ensures

pub returns-then-is_word-3 : goal.returns-then-is_word-3
returns-then-is_word-3 c = c.if-is_word-3.ensures

pub returns-then-is_word-4 : goal.returns-then-is_word-4
returns-then-is_word-4 c = c.if-is_word-4.ensures

pub returns-then-is_word-5 : goal.returns-then-is_word-5
returns-then-is_word-5 c = c.if-is_word-5.ensures

pub returns-then-is_word-6 : goal.returns-then-is_word-6
returns-then-is_word-6 c = c.if-is_word-6.ensures

pub returns-then-is_word-7 : goal.returns-then-is_word-7
returns-then-is_word-7 c = c.if-is_word-7.ensures

pub returns : goal.returns
returns c = none
  where
    none : (word : TermWord) → c.args.token.now ≢ word_text word
    none WeightWord = c.if-is_word.ensures
    none CutWord = c.if-is_word-2.ensures
    none NeedWord = c.if-is_word-3.ensures
    none CoverWord = c.if-is_word-4.ensures
    none TableWord = c.if-is_word-5.ensures
    none ConcaveWord = c.if-is_word-6.ensures
    none RankWord = c.if-is_word-7.ensures

use Rattle.sfm_passes.proofs.long_rank.rank_kind.Goals as goal

pub returns-then-is_word : goal.returns-then-is_word
returns-then-is_word c = c.if-is_word.ensures

pub returns-then-is_word-2 : goal.returns-then-is_word-2
returns-then-is_word-2 c = c.if-is_word-2.ensures

pub returns-then-is_word-3 : goal.returns-then-is_word-3
returns-then-is_word-3 c = c.if-is_word-3.ensures

pub returns-then-is_word-4 : goal.returns-then-is_word-4
returns-then-is_word-4 c = c.if-is_word-4.ensures

pub returns : goal.returns
returns c = (
  c.if-is_word.ensures,
  c.if-is_word-2.ensures,
  c.if-is_word-3.ensures,
  c.if-is_word-4.ensures,
)

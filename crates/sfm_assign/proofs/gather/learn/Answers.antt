use Rattle.sfm_assign.proofs.Spreads.{told_more}
use Rattle.sfm_assign.proofs.gather.learn.Goals as goal

pub find_answer-requires-clause-told : goal.find_answer-requires-clause-told
find_answer-requires-clause-told c = rw c.as_slice.ensures c.requires.told

pub find_answer-requires-clause-place : goal.find_answer-requires-clause-place
find_answer-requires-clause-place c = rw c.as_slice.ensures c.requires.place

pub returns-clause-told : goal.returns-clause-told
returns-clause-told c =
    let s = c.args.split.now.shares.now in
    rw c.in_ok-tell.ensures.told (told_more s.cells.whos.items s.cells.slots.items s.y.items
    c.args.split.now.rooms.now c.args.answers.now c.args.h c.in_ok-answer.answer c.requires.told
    c.requires.place (rw c.as_slice.ensures at c.in_ok-answer.ensures))

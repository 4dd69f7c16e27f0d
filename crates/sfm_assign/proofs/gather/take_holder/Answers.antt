use Rattle.std.proofs.Common.{length, None, sym, ◌∙◌}
use Rattle.std.proofs.lemmas.List.{get_or_read}
use Rattle.sfm_assign.specs.Spread.{IsAnswer}
use Rattle.sfm_assign.proofs.Spreads.{answer_told}
use Rattle.sfm_assign.proofs.Gathering.{taken_before, put_taken, put_even}
use Rattle.sfm_assign.proofs.gather.take_holder.Goals.{In-Some}
use Rattle.sfm_assign.proofs.gather.take_holder.Goals as goal

-- what is told of the holder
told : (c : In-Some) → IsAnswer (length c.args.answers.now)
    c.args.split.now.shares.now.cells.whos.items c.args.split.now.shares.now.cells.slots.items
    c.args.split.now.shares.now.y.items c.args.split.now.rooms.now c.args.h c.in-Some.answer
told c =
    let answers = c.args.answers.now in
    let s = c.args.split.now.shares.now in
    let read = get_or_read answers c.args.h c.index-answers-h.result c.requires.place
    c.index-answers-h.is None in
    answer_told (length answers) s.cells.whos.items s.cells.slots.items s.y.items
    c.args.split.now.rooms.now answers c.args.h c.in-Some.answer c.requires.told.known
    (sym read ∙ c.in-Some.is)

pub put_told-requires : goal.put_told-requires
put_told-requires c =
    let s = c.args.split.now.shares.now in
    put_even (length c.args.answers.now) s.cells.whos.items s.cells.slots.items s.y.items
    c.args.split.now.rooms.now c.args.h c.args.to.now c.in-Some.answer c.requires.whole
    (told (goal.at.put_told-requires c).In-Some)

pub returns-clause-taken : goal.returns-clause-taken
returns-clause-taken c =
    let s = c.args.split.now.shares.now in
    put_taken (length c.args.answers.now) s.cells.whos.items s.cells.slots.items s.y.items
    c.args.split.now.rooms.now c.args.s c.args.h c.args.to.now c.put_told.new.to
    c.in-Some.answer c.put_told.result c.requires.whole c.requires.holds
    (told (goal.at.returns-clause-taken c).In-Some) c.put_told.ensures.put

pub returns-then-contains-clause-taken : goal.returns-then-contains-clause-taken
returns-then-contains-clause-taken c =
    let s = c.args.split.now.shares.now in
    taken_before (length c.args.answers.now) s.cells.whos.items s.cells.slots.items s.y.items
    c.args.split.now.rooms.now c.args.s c.args.h c.args.to.now c.requires.whole c.requires.holds
    (sym c.contains.ensures ∙ c.if-contains.true)

use Rattle.sfm_text.specs.GoodText.{IsTextOf}
use Rattle.sfm_text.proofs.Standing.{stands-push, stands-end, answer-ok, answer-refused}
use Rattle.sfm_text.proofs.reader.read_pieces.Goals as goal

pub loop-piece-preserved : goal.loop-piece-preserved
loop-piece-preserved c = stands-push c.feed.new.self c.args.pieces.now c.loop-piece.piece-index _
    c.loop-piece-test.true (c.in_ok-feed.ensures.stands _ c.loop-piece.invariant)

pub returns-clause-read : goal.returns-clause-read
returns-clause-read c = answer-ok c.loop-piece.reader _ c.finish.result IsTextOf
    (stands-end c.loop-piece.reader c.args.pieces.now c.loop-piece.piece-index
    c.loop-piece-test.false c.loop-piece.invariant) c.finish.ensures.read

pub returns-clause-refused : goal.returns-clause-refused
returns-clause-refused c = answer-refused c.loop-piece.reader _ c.finish.result
    (stands-end c.loop-piece.reader c.args.pieces.now c.loop-piece.piece-index
    c.loop-piece-test.false c.loop-piece.invariant) c.finish.ensures.refused

-- The names so far are different, and the next one is one of them or another.
use Rattle.std.proofs.Common.{sym}
use Rattle.sfm_lines.proofs.Members.{among-contains, among-out}
use Rattle.sfm_lines.proofs.Repeats.{texts-twice, texts-once-more}
use Rattle.sfm_lines.proofs.groups.has_repeat.Goals as goal

pub returns-then-is_one_of : goal.returns-then-is_one_of
returns-then-is_one_of c = texts-twice c.args.names.now c.loop-i.i _ c.loop-i-test.true
    (among-contains _ _ (sym c.if-is_one_of.ensures))

pub loop-i-preserved : goal.loop-i-preserved
loop-i-preserved c = texts-once-more c.args.names.now c.loop-i.i _ c.loop-i-test.true
    c.loop-i.invariant (among-out _ _ (sym c.if-is_one_of.ensures))
